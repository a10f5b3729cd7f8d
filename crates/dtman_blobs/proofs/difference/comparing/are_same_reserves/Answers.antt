use Rattle.std.proofs.Common.{◌≡◌, ℕ, ◌&&◌, nat_eq, true, Bool, ap}
use Rattle.std.specs.Bool.{Decides}
use Rattle.std.proofs.lemmas.Bool.Decides.{Decides-eqb}
use Rattle.std.proofs.lemmas.Slice.Eq.{slice_eq-Decides}
use Rattle.dt_tree.proofs.Places.{both}
use Rattle.dtman_blobs.proofs.difference.comparing.are_same_reserves.Goals as goal

both_true : (a b : Bool) → a ≡ true → b ≡ true → (a && b) ≡ true
both_true a b e f = λ i. e i && f i

pairs-decided : (a b : ℕ × ℕ) → Decides (nat_eq a.0 b.0 && nat_eq a.1 b.1) (a ≡ b)
pairs-decided a b = (
  (λ e. let h = both (nat_eq a.0 b.0) (nat_eq a.1 b.1) e in λ i. ((Decides-eqb a.0 b.0).0 h.0 i, (Decides-eqb a.1 b.1).0 h.1 i)),
  (λ e. both_true (nat_eq a.0 b.0) (nat_eq a.1 b.1) ((Decides-eqb a.0 b.0).1 (ap (λ (p : ℕ × ℕ). p.0) e)) ((Decides-eqb a.1 b.1).1 (ap (λ (p : ℕ × ℕ). p.1) e))),
)

pub returns : goal.returns
returns c = slice_eq-Decides pairs-decided _ _ _ c.eq.ensures
