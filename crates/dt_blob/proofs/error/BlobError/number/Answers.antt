use Rattle.std.proofs.Common.{ap, sym}
use Rattle.dt_blob.specs.BlobError.{number_of}
use Rattle.dt_blob.proofs.error.BlobError.number.Goals as goal

pub returns-in-TooLarge : goal.returns-in-TooLarge
returns-in-TooLarge c = sym (ap number_of c.in-TooLarge.is)
