use Rattle.dtman_engine.proofs.canonical.laws.canonical_parse.Goals as goal
use Rattle.dtman_engine.proofs.CanonicalLemmas.Spelling.Sources.{canonical_says}

pub returns : goal.returns
returns c = canonical_says
