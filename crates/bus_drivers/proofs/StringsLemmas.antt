-- The strings of a value, one by one.
use Rattle.std.proofs.Common.{◌≡◌, ◌∙◌, ap, sym, refl, ℕ, suc, ◌+◌, ◌-◌, ◌<◌, ◌≤◌, Bool, true, false, List, [], ◌∷◌, length, take, drop, None, Some, arith, length-drop, add-one}
use Rattle.std.specs.Prelude.{cond, nat_lt, position}
use Rattle.std.specs.List.{slice_split, onto_first, position_or_len}
use Rattle.std.proofs.lemmas.Bool.{ltb-true, ltb-false}
use Rattle.std.proofs.lemmas.List.{take_all}
use Rattle.bus_drivers.specs.TreePlan.{is_zero, strings, without_last}

first-byte : (parts : List (List ℕ)) (b : ℕ) (part : List ℕ) (rest : List (List ℕ)) → without_last parts ≡ part ∷ rest
    → without_last (onto_first b parts) ≡ (b ∷ part) ∷ rest
first-byte [] b part rest h = cc
first-byte (p ∷ []) b part rest h = cc
first-byte (p ∷ q ∷ ps) b part rest h =
    let one : p ≡ part = cc in
    let more : without_last (q ∷ ps) ≡ rest = cc in
    ap (λ r. (b ∷ r) ∷ without_last (q ∷ ps)) one ∙ ap (λ rs. (b ∷ part) ∷ rs) more

no-byte : (parts : List (List ℕ)) (b : ℕ) → without_last parts ≡ [] → without_last (onto_first b parts) ≡ []
no-byte [] b h = refl
no-byte (p ∷ []) b h = refl
no-byte (p ∷ q ∷ ps) b h = cc

onto-first : (parts : List (List ℕ)) (b : ℕ) → without_last ([] ∷ onto_first b parts) ≡ [] ∷ without_last (onto_first b parts)
onto-first [] b = refl
onto-first (p ∷ ps) b = refl

-- a part more in front
empty-first : (bytes : List ℕ) → without_last ([] ∷ slice_split is_zero bytes) ≡ [] ∷ strings bytes
empty-first [] = refl
empty-first (b ∷ bytes) = by_test (is_zero b) refl where
  by_test : (t : Bool) → is_zero b ≡ t → without_last ([] ∷ slice_split is_zero (b ∷ bytes)) ≡ [] ∷ strings (b ∷ bytes)
  by_test true e = rw e refl
  by_test false e = rw e (onto-first (slice_split is_zero bytes) b)

-- a value with a zero byte at this place
string-first : (bytes : List ℕ) (at : ℕ) → position_or_len is_zero bytes ≡ at → at < length bytes → strings bytes ≡ take at bytes ∷ strings (drop (suc at) bytes)
string-first [] at is within = absurd (omega arith)
string-first (b ∷ bytes) at is within = by_test (is_zero b) refl (string-first bytes) where
  by_test : (t : Bool) → is_zero b ≡ t → ((k : ℕ) → position_or_len is_zero bytes ≡ k → k < length bytes → strings bytes ≡ take k bytes ∷ strings (drop (suc k) bytes))
      → strings (b ∷ bytes) ≡ take at (b ∷ bytes) ∷ strings (drop (suc at) (b ∷ bytes))
  by_test true e rest =
      let start : at ≡ 0 = sym is ∙ rw e refl in
      rw start (rw e (empty-first bytes))
  by_test false e rest =
      let k = position_or_len is_zero bytes in
      let later : at ≡ suc k = sym is ∙ rw e (omega arith) in
      let inside : k < length bytes = omega arith in
      rw later (rw e (first-byte (slice_split is_zero bytes) b (take k bytes) (strings (drop (suc k) bytes)) (rest k refl inside)))

-- a value without one
strings-none : (bytes : List ℕ) → length bytes ≤ position_or_len is_zero bytes → strings bytes ≡ []
strings-none [] far = refl
strings-none (b ∷ bytes) far = by_test (is_zero b) refl (strings-none bytes) where
  by_test : (t : Bool) → is_zero b ≡ t → (length bytes ≤ position_or_len is_zero bytes → strings bytes ≡ []) → strings (b ∷ bytes) ≡ []
  by_test true e rest = absurd (let at : length (b ∷ bytes) ≤ 0 = rw e at far in omega arith)
  by_test false e rest = rw e (no-byte (slice_split is_zero bytes) b (rest (let at : length (b ∷ bytes) ≤ 1 + position_or_len is_zero bytes = rw e at far in omega arith)))

place-is : (p n at : ℕ) (t : Bool) → nat_lt p n ≡ t → cond t (Some p) None ≡ Some at → (p ≡ at) × (p < n)
place-is p n at true e h = (cc, ltb-true p n e)
place-is p n at false e h = cc

no-place : (p n : ℕ) (t : Bool) → nat_lt p n ≡ t → cond t (Some p) None ≡ None → n ≤ p
no-place p n true e h = cc
no-place p n false e h = ltb-false p n e

-- ---- the same, where the first zero byte is looked for
pub first-string : (bytes : List ℕ) (at : ℕ) → position is_zero bytes ≡ Some at
    → strings bytes ≡ take at bytes ∷ strings (take (length bytes - (at + 1)) (drop (at + 1) bytes))
first-string bytes at found =
    let is = place-is (position_or_len is_zero bytes) (length bytes) at _ refl found in
    let within : at < length bytes = rw is.0 at is.1 in
    rw (take_all (length bytes - (at + 1)) (drop (at + 1) bytes) (simp length-drop (omega arith)))
    (rw add-one (string-first bytes at is.0 within))

pub no-string : (bytes : List ℕ) → position is_zero bytes ≡ None → strings bytes ≡ []
no-string bytes none = strings-none bytes (no-place (position_or_len is_zero bytes) (length bytes) _ refl none)
