use Rattle.dt_live.proofs.RunsBelow.{all-within, nodes-within, nodes-below, properties-within, properties-found}
use Rattle.dt_live.proofs.laws.runs.run_below.Goals as goal

pub returns-clause-within : goal.returns-clause-within
returns-clause-within c = λ d whole ordered n e m run known. all-within d whole ordered n e run m known

pub returns-clause-below : goal.returns-clause-below
returns-clause-below c = λ d whole ordered n e run. nodes-below d whole ordered n e run

pub returns-clause-nodes : goal.returns-clause-nodes
returns-clause-nodes c = λ d whole ordered n e first run. nodes-within d whole ordered n e run first

pub returns-clause-found : goal.returns-clause-found
returns-clause-found c = properties-found

pub returns-clause-properties : goal.returns-clause-properties
returns-clause-properties c = λ d whole ordered n e low high run are. properties-within d whole ordered n e run low high are
