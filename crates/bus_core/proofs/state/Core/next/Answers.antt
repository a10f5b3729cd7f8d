use Rattle.std.proofs.Common.{◌≡◌, ◌<◌, ℕ, true, false, length, sym, ◌∙◌}
use Rattle.std.specs.Prelude.{slice_index_or}
use Rattle.bus_core.specs.Due.{is_due}
use Rattle.bus_core.proofs.QuietLemmas.{some-weaker, none-weaker, due-within}
use Rattle.bus_core.proofs.state.Core.next.Goals as goal

pub returns : goal.returns
returns c =
    let said : (d : ℕ) → slice_index_or c.self.inside.due d false ≡ is_due c.args.self.now.plan c.args.self.now.state d =
    λ d. c.self.invariant.counted.due_is d ∙ (λ i. is_due (c.self.view_is i).plan (c.self.view_is i).state d)
    in record {
      none = none-weaker ((d : ℕ) → slice_index_or c.self.inside.due d false ≡ false) ((d : ℕ) → is_due c.args.self.now.plan c.args.self.now.state d ≡ false)
          (λ none d. sym (said d) ∙ none d) c.any.result c.any.ensures.none;
      within = some-weaker (λ d. slice_index_or c.self.inside.due d false ≡ true) (λ d. d < length c.args.self.now.plan)
          (λ d due. due-within c.args.self.now.plan c.args.self.now.state d (sym (said d) ∙ due)) c.any.result c.any.ensures.some;
      due = some-weaker (λ d. slice_index_or c.self.inside.due d false ≡ true) (λ d. is_due c.args.self.now.plan c.args.self.now.state d ≡ true)
          (λ d due. sym (said d) ∙ due) c.any.result c.any.ensures.some;
    }
