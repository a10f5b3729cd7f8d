use Rattle.dt_build.specs.Edit.Said.{tree_of}
use Rattle.dt_build.proofs.ResolveLemmas.PreparedFaults.{references-stop}
use Rattle.dt_build.proofs.resolve.prepared.order_and_resolution.Goals as goal

pub returns-in-Err : goal.returns-in-Err
returns-in-Err c m n done is = references-stop c.in-Err.error.kind c.args.symbols c.args.plugin m n (tree_of c.args.live.now) done is c.in-Err.ensures.resolved
