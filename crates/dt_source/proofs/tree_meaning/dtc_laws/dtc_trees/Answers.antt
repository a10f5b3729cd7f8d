use Rattle.dt_source.specs.TreeMeaning.DtcLaws.{Passes}
use Rattle.dt_source.proofs.TreeMeaningLemmas.DtcRest.{rest-sound}
use Rattle.dt_source.proofs.TreeMeaningLemmas.DtcSound.{dtc-any, dtc-sound}
use Rattle.dt_source.proofs.tree_meaning.dtc_laws.dtc_trees.Goals as goal

pub returns-clause-read : goal.returns-clause-read
returns-clause-read c = λ test m t brings names e. dtc-sound (Passes test) brings m t names e

pub returns-clause-any : goal.returns-clause-any
returns-clause-any c = dtc-any

pub returns-clause-left : goal.returns-clause-left
returns-clause-left c = λ test gone s k. rest-sound (Passes test) gone s k
