use Rattle.dtman_blobs.proofs.WideningLemmas.{whole_size, spaced, padded, multiple}
use Rattle.dtman_blobs.proofs.widening.size_is_asked.Goals as goal

pub returns : goal.returns
returns c = record { whole = whole_size; space = spaced; padding = padded; multiple = multiple }
