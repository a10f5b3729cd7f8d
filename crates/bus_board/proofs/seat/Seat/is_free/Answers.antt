use Rattle.std.proofs.Common.{◌≡◌, ℕ, vec_len, eqb-true, List, [], ◌∷◌, None, sym, subst, ◌∙◌, arith, length, refl}
use Rattle.bus_board.proofs.Tied.{idle_seat, none_open}
use Rattle.bus_board.specs.Shown.{Seated}
use Rattle.bus_board.proofs.seat.Seat.is_free.Goals as goal

empty_of : (xs : List ℕ) → length xs ≡ 0 → xs ≡ []
empty_of [] e = refl
empty_of (x ∷ xs) e = absurd (omega arith)

pub returns-clause-yes : goal.returns-clause-yes
returns-clause-yes c free = (
  subst (λ (s : Seated). s.view.flight ≡ None) c.self.view_is (idle_seat c.self.inside.token.me _ _ _ _ c.self.invariant (none_open c.self.inside.flight c.if-is_some.ensures)),
  subst (λ (s : Seated). s.view.owed ≡ []) c.self.view_is (c.self.invariant.debts ∙ empty_of c.self.inside.owed.items (omega (arith, eqb-true (vec_len c.self.inside.owed) 0 (sym c.is_empty.ensures ∙ free)))),
)
