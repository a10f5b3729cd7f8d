-- A bit of a set is written.
use Rattle.std.proofs.Common.{◌≡◌, ◌≢◌, inl, inr, ℕ, zero, suc, ◌/◌, ◌%◌, ◌<◌, Bool, false, List, length, set, replicate, get_or, eqb, refl, sym, ap, ◌∙◌, arith}
use Rattle.std.specs.Int.{bit_at}
use Rattle.std.proofs.lemmas.Bool.{cases_eq}
use Rattle.std.proofs.lemmas.List.{get_or-set_same, get_or-set_other}
use Rattle.std.proofs.lemmas.Nat.Bits.{bit_at-zero}
use Rattle.bus_manager.specs.Private.Seen.{IsPut}
use Rattle.bus_manager.specs.Seen.{sees}

-- where the device's word is replaced by one that differs in its bit alone
pub put_bit : (old new : List ℕ) (d w : ℕ) (b : Bool) → new ≡ set old (d / 64) w → d / 64 < length old → eqb (bit_at w (d % 64)) 1 ≡ b
    → ((i : ℕ) → i < 64 → i ≢ d % 64 → bit_at w i ≡ bit_at (get_or old (d / 64) 0) i) → IsPut old new d b
put_bit old new d w b is inside here others = record {
  here = ap (λ (l : List ℕ). sees l d) is ∙ ap (λ (x : ℕ). eqb (bit_at x (d % 64)) 1) (get_or-set_same old (d / 64) w 0 inside) ∙ here;
  others = λ e apart. ap (λ (l : List ℕ). sees l e) is ∙ elim (cases_eq (e / 64) (d / 64)) [
    | inl same ↦
        ap (λ (k : ℕ). eqb (bit_at (get_or (set old (d / 64) w) k 0) (e % 64)) 1) same
        ∙ ap (λ (x : ℕ). eqb (bit_at x (e % 64)) 1) (get_or-set_same old (d / 64) w 0 inside)
        ∙ ap (λ (x : ℕ). eqb x 1) (others (e % 64) (omega arith) (λ q. apart (omega (arith, same, q))))
        ∙ ap (λ (k : ℕ). eqb (bit_at (get_or old k 0) (e % 64)) 1) (sym same)
    | inr other ↦ ap (λ (x : ℕ). eqb (bit_at x (e % 64)) 1) (get_or-set_other old (d / 64) (e / 64) w 0 other)
  ];
}

-- words that are 0 are read as 0, also behind their end
zeros_read : (n k : ℕ) → get_or (replicate n zero) k zero ≡ zero
zeros_read zero k = refl
zeros_read (suc n) zero = refl
zeros_read (suc n) (suc k) = zeros_read n k

-- such words see no device
pub zeros_see : (n d : ℕ) → sees (replicate n 0) d ≡ false
zeros_see n d = ap (λ (x : ℕ). eqb (bit_at x (d % 64)) 1) (zeros_read n (d / 64)) ∙ ap (λ (x : ℕ). eqb x 1) (bit_at-zero (d % 64))
