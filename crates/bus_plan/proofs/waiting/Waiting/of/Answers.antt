-- The device at the place is listed by its strings.
use Rattle.std.proofs.Common.{◌≡◌, ◌∙◌, ap, sym, ℕ, ◌&&◌, ◌||◌, [], ◌∷◌, ◌++◌, length, take, arith}
use Rattle.std.specs.Prelude.{◌==◌}
use Rattle.std.proofs.lemmas.List.{take_more, length-take-le}
use Rattle.bus_plan.specs.Plan.{compatibles_of}
use Rattle.bus_plan.specs.PlanPaths.{is_among}
use Rattle.bus_plan.proofs.WaitingLemmas.{among-last}
use Rattle.bus_plan.proofs.waiting.Waiting.of.Goals as goal

pub loop-place-preserved : goal.loop-place-preserved
loop-place-preserved c d s =
    let plan = c.args.devices.now in
    let n : ℕ = c.loop-place.place in
    let device = c.index-devices-place.result in
    let long : length (take n plan) ≡ n = length-take-le n plan (omega arith) in
    c.in_ok-add.ensures d s
    ∙ ap (λ t. t || (is_among s c.compatibles.result.now && (d == c.new-in-loop-place.result))) (c.loop-place.invariant d s)
    ∙ ap (λ ss. is_among s (compatibles_of (take n plan) d) || (is_among s ss && (d == c.new-in-loop-place.result))) c.compatibles.ensures
    ∙ ap (λ k. is_among s (compatibles_of (take n plan) d) || (is_among s device.compatibles && (d == k))) (c.new-in-loop-place.ensures ∙ sym long)
    ∙ sym (ap (λ ds. is_among s (compatibles_of ds d)) (take_more plan n device c.loop-place-test.true ∙ ap (λ x. take n plan ++ x ∷ []) (sym c.index-devices-place.is))
    ∙ among-last (take n plan) device d s)
