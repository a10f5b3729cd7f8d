-- The line is written field by field.
use Rattle.std.proofs.Common.{◌≡◌, ◌∙◌, ap, sym, false, ◌==◌, [], ◌∷◌, ◌++◌, length}
use Rattle.bus_plan.specs.Plan.{PlannedDevice, planned}
use Rattle.bus_plan.specs.PlanText.{spaced}
use Rattle.bus_plan.proofs.TextSteps.{line-joined}
use Rattle.bus_plan.proofs.writing.write_compatibles.Goals as goal

pub returns : goal.returns
returns c =
    let d : PlannedDevice = planned c.args.plan.now c.args.device in
    let base = c.args.text.now.items in
    let some : (length d.compatibles == 0) ≡ false =
    ap (λ ss. length ss == 0) (sym c.compatibles-strings.ensures) ∙ sym c.is_empty.ensures ∙ c.if-is_empty.false in
    line-joined d base c.push.new.self.items some
    (c.in_ok-push.ensures.items
    ∙ ap (λ t. t ++ 10 ∷ []) (c.in_ok-write_strings.ensures ∙ ap (λ ss. c.write_field.new.text.items ++ spaced ss) c.compatibles-strings.ensures
    ∙ ap (λ t. t ++ spaced d.compatibles) (c.in_ok-write_field.ensures ∙ ap (λ p. c.extend_from_slice.new.self.items ++ 32 ∷ p) (c.as_bytes.ensures.value ∙ c.path.ensures)
    ∙ ap (λ t. t ++ 32 ∷ d.path) c.in_ok-extend_from_slice.ensures.items)))
