use Rattle.std.proofs.Common.{◌≡◌, ℕ, length, sym, ap, ◌∙◌, arith}
use Rattle.std.proofs.lemmas.List.{get_or_past}
use mathlib.Core.Logic.{dite}
use native.Mathlib.Decide.{ℕ_discrete, dec_le}
use Rattle.bus_plan.specs.Plan.{PlannedDevice, suppliers_of, nothing}
use Rattle.bus_board.proofs.board.most_suppliers.Goals as goal

pub loop-index-preserved : goal.loop-index-preserved
loop-index-preserved c d lt = dite (ℕ_discrete d c.loop-index.index)
    (λ same. let here : length (suppliers_of c.args.plan.now d) ≡ length c.suppliers.result.now = ap (length {A = ℕ}) (ap (suppliers_of c.args.plan.now) (same ∙ sym c.new.ensures) ∙ sym c.suppliers.ensures) in
    omega (arith, here, c.greater-most.ensures.1))
    (λ other. omega (arith, c.loop-index.invariant d (omega arith), c.greater-most.ensures.0))

pub returns : goal.returns
returns c d = dite (dec_le (length c.args.plan.now) d)
    (λ past. omega (arith, ap (λ (f : PlannedDevice). length f.suppliers) (get_or_past c.args.plan.now d nothing past)))
    (λ inside. c.loop-index.invariant d (omega arith))
