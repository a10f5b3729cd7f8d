-- One device more.
use Rattle.std.proofs.Common.{◌≡◌, ℕ, zero, suc, ◌+◌, List, [], ◌∷◌, ◌++◌, map, refl, sym, ap, ap₂, ◌∙◌, append-nil, append_assoc, arith}
use Rattle.std.specs.Prelude.{flat_map}
use Rattle.std.specs.List.{range_with_len}
use Rattle.std.proofs.lemmas.List.FromFn.{map-range_with_len_more}

pub flat_map-range : {X : Type 0} (f : ℕ → List X) (n a : ℕ) → flat_map f (range_with_len a (suc n)) ≡ flat_map f (range_with_len a n) ++ f (a + n)
flat_map-range f zero a = append-nil (f a) ∙ ap f (omega arith)
flat_map-range f (suc n) a =
    ap (λ x. f a ++ x) (flat_map-range f n (a + 1) ∙ ap (λ k. flat_map f (range_with_len (a + 1) n) ++ f k) (omega arith))
    ∙ sym (append_assoc (f a) (flat_map f (range_with_len (a + 1) n)) (f (a + suc n)))

pub flat_map-more : {X : Type 0} (f : ℕ → List X) (i : ℕ) → flat_map f (range_with_len 0 (i + 1)) ≡ flat_map f (range_with_len 0 i) ++ f i
flat_map-more f i =
    let one : i + 1 ≡ suc i = omega arith
    in let none : 0 + i ≡ i = omega arith
    in ap (λ k. flat_map f (range_with_len 0 k)) one ∙ flat_map-range f i 0 ∙ ap (λ k. flat_map f (range_with_len 0 i) ++ f k) none

-- a loop's step
pub listed_more : {X : Type 0} (f : ℕ → List X) (i d : ℕ) (list new : List X) → d ≡ i → list ≡ flat_map f (range_with_len 0 i) → new ≡ list ++ f d → new ≡ flat_map f (range_with_len 0 (i + 1))
listed_more f i d list new same before added =
    added ∙ ap₂ (λ x y. x ++ y) before (ap f same) ∙ sym (flat_map-more f i)

-- the same of a list with an element a device
pub mapped_more : {X : Type 0} (f : ℕ → X) (i : ℕ) (list new : List X) (x : X) → list ≡ map f (range_with_len 0 i) → x ≡ f i → new ≡ list ++ x ∷ [] → new ≡ map f (range_with_len 0 (i + 1))
mapped_more f i list new x before is added =
    added ∙ ap₂ (λ l y. l ++ y ∷ []) before is ∙ sym (map-range_with_len_more f 0 i i (omega arith))
