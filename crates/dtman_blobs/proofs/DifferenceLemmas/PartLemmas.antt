-- Values that the test finds the same are equal as they are seen, and the other way round.
use Rattle.std.proofs.Common.{◌≡◌, ℕ, true, List, [], ◌∷◌, refl, ap}
use Rattle.std.proofs.lemmas.Slice.Eq.{bytes_eq-Decides}
use Rattle.dt_tree.proofs.Places.{both, bytes_eq-refl}
use Rattle.dtman_blobs.specs.Difference.Seen.{Part, number, node}
use Rattle.dtman_blobs.specs.Difference.Private.Tests.{same_part, same_parts}

part-equal : (x y : Part) → same_part x y ≡ true → x ≡ y
part-equal (number x) (number y) e = ap (λ (b : List ℕ). number b) ((bytes_eq-Decides x y).0 e)
part-equal (number x) (node y) e = absurd (cc)
part-equal (node x) (number y) e = absurd (cc)
part-equal (node x) (node y) e = ap (λ (b : List ℕ). node b) ((bytes_eq-Decides x y).0 e)

part-refl : (x : Part) → same_part x x ≡ true
part-refl (number x) = bytes_eq-refl x
part-refl (node x) = bytes_eq-refl x

pub parts-equal : (xs ys : List Part) → same_parts xs ys ≡ true → xs ≡ ys
parts-equal [] [] e = refl
parts-equal [] (y ∷ ys) e = absurd (cc)
parts-equal (x ∷ xs) [] e = absurd (cc)
parts-equal (x ∷ xs) (y ∷ ys) e =
    let h = both (same_part x y) (same_parts xs ys) e in
    λ i. part-equal x y h.0 i ∷ parts-equal xs ys h.1 i

pub parts-refl : (xs : List Part) → same_parts xs xs ≡ true
parts-refl [] = refl
parts-refl (x ∷ xs) = rw (part-refl x) (parts-refl xs)
