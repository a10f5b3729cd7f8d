-- The lines have no fault, and the suppliers decide.
use Rattle.bus_plan.proofs.ReadingLemmas.{answered}
use Rattle.bus_plan.proofs.reading.read_plan.Goals as goal

pub returns : goal.returns
returns c = answered c.args.text.now _ c.plan.result c.in_ok-file.ensures.ok.0 c.in_ok-file.ensures.ok.1 c.plan.ensures.ok c.plan.ensures.err
