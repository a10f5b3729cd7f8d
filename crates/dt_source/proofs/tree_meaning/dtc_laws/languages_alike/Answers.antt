use Rattle.dt_source.proofs.TreeMeaningLemmas.Alike.{alike}
use Rattle.dt_source.proofs.tree_meaning.dtc_laws.languages_alike.Goals as goal

pub returns : goal.returns
returns c = record { same = alike }
