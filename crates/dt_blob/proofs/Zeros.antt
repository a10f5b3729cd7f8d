-- The first zero byte of a list.
use Rattle.std.proofs.Common.{◌≡◌, ℕ, zero, suc, ◌+◌, ◌<◌, Bool, true, false, ◌==◌, List, [], ◌∷◌, ◌++◌, length, take, drop, slice_index, Option, Some, None, refl, ap, sym, ◌∙◌, arith, add-one}
use Rattle.std.proofs.lemmas.Bool.Decides.{nat_tests}
use Rattle.bstr.specs.Find.{IsFirstByte, is_byte}
use Rattle.dt_blob.specs.Holds.{has_no_zero}
use Rattle.dt_blob.specs.Steps.Reading.{zero_in}

test_zero : (b : ℕ) → b ≡ 0 → (b == 0) ≡ true
test_zero b e = grind (arith, nat_tests)

test_other : (b : ℕ) → (b ≡ 0 → ⊥) → (b == 0) ≡ false
test_other b e = grind (arith, nat_tests)

pub is_zero : (b : ℕ) → (b == 0) ≡ true → b ≡ 0
is_zero b e = grind (arith, nat_tests)

pub zero_found : (xs : List ℕ) (k : ℕ) → k < length xs → slice_index xs k ≡ 0 → ((j : ℕ) → j < k → slice_index xs j ≡ 0 → ⊥) → zero_in xs ≡ Some k
zero_found [] k h e n = absurd (omega arith)
zero_found (b ∷ bs) zero h e n = rw (test_zero b e) refl
zero_found (b ∷ bs) (suc k) h e n =
    let other : (b == 0) ≡ false = test_other b (n 0 (omega arith)) in
    let later : zero_in bs ≡ Some k = zero_found bs k (omega arith) e (λ j l f. n (suc j) (omega arith) f) in
    rw (other, later) (ap (λ (x : ℕ). Some x) (add-one k))

pub zero_missing : (xs : List ℕ) → ((j : ℕ) → j < length xs → slice_index xs j ≡ 0 → ⊥) → zero_in xs ≡ None
zero_missing [] n = refl
zero_missing (b ∷ bs) n =
    let other : (b == 0) ≡ false = test_other b (n 0 (omega arith)) in
    let later : zero_in bs ≡ None = zero_missing bs (λ j l f. n (suc j) (omega arith) f) in
    rw (other, later) refl

-- what a search finds
pub zero_first : (xs : List ℕ) (r : Option ℕ) → IsFirstByte (is_byte 0) xs r → r ≡ zero_in xs
zero_first xs None h = sym (zero_missing xs (λ j l e. h j (omega arith) l (test_zero (slice_index xs j) e)))
zero_first xs (Some k) h =
    sym (zero_found xs k h.0.high (is_zero (slice_index xs k) h.1) (λ j l e. h.0.before j (omega arith) l (test_zero (slice_index xs j) e)))

-- a name ends at its zero byte
pub zero_behind : (name rest : List ℕ) → has_no_zero name ≡ true → zero_in (name ++ 0 ∷ rest) ≡ Some (length name)
zero_behind [] rest h = refl
zero_behind (b ∷ bs) rest h = at_head b bs rest _ refl h (zero_behind bs rest) where
  at_head : (b : ℕ) (bs rest : List ℕ) (t : Bool) → (b == 0) ≡ t → has_no_zero (b ∷ bs) ≡ true → (has_no_zero bs ≡ true → zero_in (bs ++ 0 ∷ rest) ≡ Some (length bs)) → zero_in ((b ∷ bs) ++ 0 ∷ rest) ≡ Some (length (b ∷ bs))
  at_head b bs rest true e h ih = absurd (let bad : false ≡ true = (rw e at h) in cc)
  at_head b bs rest false e h ih = let later = ih (rw e at h) in rw (e, later) (ap (λ (x : ℕ). Some x) (add-one (length bs)))

-- what stands before the first zero byte, and behind it
pub record Splits (xs : List ℕ) (k : ℕ) : Type 0 where
  pub is : xs ≡ take k xs ++ 0 ∷ drop (suc k) xs
  pub named : has_no_zero (take k xs) ≡ true
  pub inside : k < length xs

pub zero_splits : (xs : List ℕ) (k : ℕ) → zero_in xs ≡ Some k → Splits xs k
zero_splits [] k e = absurd (cc e)
zero_splits (b ∷ bs) k e = at_head b bs k _ refl _ refl e (zero_splits bs) where
  at_head : (b : ℕ) (bs : List ℕ) (k : ℕ) (t : Bool) → (b == 0) ≡ t → (o : Option ℕ) → zero_in bs ≡ o → zero_in (b ∷ bs) ≡ Some k → ((j : ℕ) → zero_in bs ≡ Some j → Splits bs j) → Splits (b ∷ bs) k
  at_head b bs zero true f o g e ih = record { is = ap (λ (x : ℕ). x ∷ bs) (is_zero b f); named = refl; inside = omega arith }
  at_head b bs (suc k) true f o g e ih = absurd (let bad : Some 0 ≡ Some (suc k) = (rw f at e) in omega (arith, some_same 0 (suc k) bad)) where
    some_same : (x y : ℕ) → Some x ≡ Some y → x ≡ y
    some_same x y e = cc
  at_head b bs k false f None g e ih = absurd (let bad : None ≡ Some k = (rw (f, g) at e) in cc)
  at_head b bs zero false f (Some j) g e ih = absurd (let bad : Some (j + 1) ≡ Some 0 = (rw (f, g) at e) in omega (arith, some_same (j + 1) 0 bad)) where
    some_same : (x y : ℕ) → Some x ≡ Some y → x ≡ y
    some_same x y e = cc
  at_head b bs (suc k) false f (Some j) g e ih =
      let same : j ≡ k = (let s : Some (j + 1) ≡ Some (suc k) = (rw (f, g) at e) in omega (arith, some_same (j + 1) (suc k) s)) in
      let later = ih k (g ∙ ap (λ (x : ℕ). Some x) same) in
      record { is = ap (λ (x : List ℕ). b ∷ x) later.is; named = rw f later.named; inside = (let l = later.inside in omega (arith, l)) } where
        some_same : (x y : ℕ) → Some x ≡ Some y → x ≡ y
        some_same x y e = cc
