use Rattle.bus_plan.specs.Lines.{lines}
use Rattle.bus_plan.proofs.PlanFileLemmas.{IsReadTo}
use Rattle.bus_plan.proofs.plan_file.PlanFile.read_lines.Given as goal

-- the lines up to `number` are read, without a fault
abbrev pub invariant-loop-line : goal.invariant-loop-line
invariant-loop-line l = IsReadTo (lines l.text) l.number l.line-iterator l.self
