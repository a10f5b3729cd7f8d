-- Each line of the text means its device.
use Rattle.bus_plan.proofs.ReadBack.{read_back}
use Rattle.bus_plan.proofs.laws.plan_text_is_read_back.Goals as goal

pub returns : goal.returns
returns c = read_back
