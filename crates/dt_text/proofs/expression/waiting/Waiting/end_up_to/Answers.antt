use Rattle.std.proofs.Common.{◌≡◌, ◌≤◌, ◌≢◌, ◌+◌, ◌∙◌, ℕ, zero, suc, Option, None, List, [], ◌∷◌, get_or, set, refl, arith, get_or-set_other, below_more}
use Rattle.dt_text.specs.declared.expression.waiting.Begun.{Begun}
use Rattle.dt_text.specs.Expression.Values.{Value}
use Rattle.dt_text.specs.Expression.ReadingOperators.{joined, joined_up_to, NothingUpTo}
use Rattle.dt_text.proofs.expression.waiting.Waiting.end_up_to.Goals as goal

none_yet : (waiting : List (Option Begun)) (v : Value) → v ≡ joined_up_to waiting 0 v
unfolding joined_up_to
none_yet waiting v = refl

one_more : (old waiting : List (Option Begun)) (place : ℕ) (v operand : Value) → v ≡ joined_up_to old place operand → get_or waiting place None ≡ get_or old place None
    → joined (get_or waiting place None) v ≡ joined_up_to old (place + 1) operand
unfolding joined_up_to
one_more old waiting place v operand e f = let next : place + 1 ≡ suc place = omega arith in rw (next, e, f) refl

none_set : (waiting : List (Option Begun)) (place : ℕ) → get_or (set waiting place None) place None ≡ None
none_set [] place = refl
none_set (w ∷ waiting) zero = refl
none_set (w ∷ waiting) (suc place) = none_set waiting place

ended_more : (waiting : List (Option Begun)) (place : ℕ) → NothingUpTo waiting place → NothingUpTo (set waiting place None) (place + 1)
ended_more waiting place h = below_more _ _ (λ k m. let ne : k ≢ place = omega arith in rw get_or-set_other (h k m)) (none_set waiting place)

others_more : (old waiting : List (Option Begun)) (place : ℕ) → ((k : ℕ) → place ≤ k → get_or waiting k None ≡ get_or old k None) → (k : ℕ) → place + 1 ≤ k → get_or (set waiting place None) k None ≡ get_or old k None
others_more old waiting place h k m = let ne : k ≢ place = omega arith in rw get_or-set_other (h k (omega arith))

pub loop-place-init : goal.loop-place-init
loop-place-init c = record { so_far = none_yet _ _; ended = λ k l. absurd (omega arith); others = λ k l. refl }

pub loop-place-preserved : goal.loop-place-preserved
loop-place-preserved c = record {
  so_far = c.joined-value.ensures ∙ one_more c.args.self.now.of_rank c.loop-place.self.of_rank c.loop-place.place c.loop-place.value c.args.operand c.loop-place.invariant.so_far (c.loop-place.invariant.others c.loop-place.place (omega arith));
  ended = ended_more _ _ c.loop-place.invariant.ended;
  others = others_more _ _ _ c.loop-place.invariant.others;
}
