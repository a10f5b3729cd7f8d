use Rattle.dtman_engine.proofs.CanonicalLemmas.OneTree.{no-other, the-tree}
use Rattle.dtman_engine.proofs.CanonicalLemmas.Spelling.Sources.{canonical_says}
use Rattle.dtman_engine.proofs.canonical.laws.canonical_source.Goals as goal

pub returns : goal.returns
returns c = record {
  says = λ t is bytes has. (canonical_says t is bytes, the-tree t is has);
  no_other = no-other;
}
