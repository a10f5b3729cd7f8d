use Rattle.dtman_engine.proofs.CanonicalLemmas.MeaningWhole.{source-meant}
use Rattle.dtman_engine.proofs.canonical.laws.canonical_meaning.Goals as goal

pub returns : goal.returns
returns c = source-meant
