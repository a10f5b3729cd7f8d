use Rattle.dt_source.proofs.Parsing.{same_tree, one_meaning, accepted, no_fault, faulty}
use Rattle.dt_source.proofs.SpelledSources.{sources_are_read}
use Rattle.dt_source.proofs.parser.one_source.Goals as goal

pub returns : goal.returns
returns c = record {
  one = same_tree;
  meaning = one_meaning sources_are_read;
  accepted = accepted sources_are_read;
  fault = no_fault sources_are_read;
  faulty = faulty sources_are_read;
}
