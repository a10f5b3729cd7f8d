-- Flags of what a device takes and of what takes it.
use Rattle.std.proofs.Common.{◌≡◌, ◌⊎◌, inl, inr, ⊎_elim, ℕ, ◌<◌, ◌≤◌, Bool, true, false, List, length, get_or, set, replicate, refl, sym, ap, ◌∙◌, arith}
use Rattle.std.specs.Prelude.{◌==◌, ◌||◌, ◌↔◌}
use Rattle.std.proofs.lemmas.Bool.{eq-eqb, ne_eqb, cases_eq}
use Rattle.std.proofs.lemmas.List.{get_or-set_same, get_or-set_other, get_or-replicate}
use Rattle.bus_plan.specs.Plan.{PlannedDevice}
use Rattle.bus_links.specs.Links.{flag_at}
use Rattle.bus_plan.specs.declared.reach.direction.Direction.TheVariants.{Suppliers, Consumers}
use Rattle.bus_plan.specs.Reach.Reached.{is_in, AreFollowers}
use Rattle.bus_plan.proofs.ReachLemmas.InLemmas.{some_or, or_left, or_right}
use Rattle.bus_picture.specs.Shown.{IsAround}

or_false : (a : Bool) → (a || false) ≡ a
or_false true = refl
or_false false = refl

or_true : (a : Bool) → (a || true) ≡ true
or_true true = refl
or_true false = refl

pub or_assoc : (a b c : Bool) → ((a || b) || c) ≡ (a || (b || c))
or_assoc true b c = refl
or_assoc false b c = refl

-- a flag more
pub flagged : (flags : List Bool) (x d : ℕ) → x < length flags → flag_at (set flags x true) d ≡ (flag_at flags d || (x == d))
flagged flags x d within = by (cases_eq d x) where
  by : (d ≡ x) ⊎ (d ≡ x → ⊥) → get_or (set flags x true) d false ≡ (get_or flags d false || (x == d))
  by (inl same) =
      ap (λ (y : ℕ). get_or (set flags x true) y false) same ∙ get_or-set_same flags x true false within
      ∙ sym (ap (λ (t : Bool). get_or flags d false || t) (eq-eqb x d (sym same)) ∙ or_true (get_or flags d false))
  by (inr other) =
      get_or-set_other flags x d true false other
      ∙ sym (ap (λ (t : Bool). get_or flags d false || t) (ne_eqb x d (λ e. other (sym e))) ∙ or_false (get_or flags d false))

-- none more, where there is no such device
pub unflagged : (flags : List Bool) (x d : ℕ) → length flags ≤ x → d < length flags → flag_at flags d ≡ (flag_at flags d || (x == d))
unflagged flags x d past within =
    sym (ap (λ (t : Bool). flag_at flags d || t) (ne_eqb x d (λ (e : x ≡ d). let bad : d < d = omega (arith, e) in omega (arith, bad))) ∙ or_false (flag_at flags d))

pub around : (plan : List PlannedDevice) (device : ℕ) (taken taking : List ℕ) → AreFollowers Suppliers plan device taken → AreFollowers Consumers plan device taking
    → (none one two : Bool) (d : ℕ) → none ≡ false → one ≡ (none || is_in taken d) → two ≡ (one || is_in taking d) → (two ≡ true) ↔ IsAround plan device d
around plan device taken taking ahead behind none one two d first second third =
    let both : two ≡ (is_in taken d || is_in taking d) = third ∙ ap (λ (t : Bool). t || is_in taking d) (second ∙ ap (λ (t : Bool). t || is_in taken d) first) in (
      (λ e. ⊎_elim (λ one_way. inl ((ahead d).0 one_way)) (λ other_way. inr ((behind d).0 other_way)) (some_or (is_in taken d) (is_in taking d) (sym both ∙ e))),
      (λ e. both ∙ ⊎_elim (λ takes. or_left (is_in taken d) (is_in taking d) ((ahead d).1 takes)) (λ takes. or_right (is_in taken d) (is_in taking d) ((behind d).1 takes)) e),
    )

pub unset : (n d : ℕ) (flags : List Bool) → flags ≡ replicate n false → d < n → flag_at flags d ≡ false
unset n d flags is within = ap (λ (l : List Bool). get_or l d false) is ∙ get_or-replicate n d false false within
