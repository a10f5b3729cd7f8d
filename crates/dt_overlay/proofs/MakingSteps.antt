-- One value more.
use Rattle.std.proofs.Common.{◌≡◌, ℕ, ◌+◌, ◌-◌, ◌^◌, ◌<◌, ◌≤◌, min, List, length, get_or, drop, map, sym, ap, ◌∙◌, arith}
use Rattle.std.proofs.Math.ListN.{drop_of_length-le}
use Rattle.std.proofs.lemmas.List.{at_drop_more}
use Rattle.dt_source.specs.TreeMeaning.Edits.{Definition}
use Rattle.dt_live.specs.Builder.Sizes.{size_in}

module _ {R : Type 0} (f : R → Definition (List ℕ)) (xs : List R) where
  pub sizes-more : (i : ℕ) (x : R) → i < length xs → x ≡ get_or xs i x → (size part sum whole : ℕ) → part ≡ length (f x).value → sum ≡ min (size + part) (2 ^ 64 - 1)
      → min (size + size_in (map f (drop i xs))) (2 ^ 64 - 1) ≡ whole → min (sum + size_in (map f (drop (i + 1) xs))) (2 ^ 64 - 1) ≡ whole
  sizes-more i x below is size part sum whole a b so =
      let all : size_in (map f (drop i xs)) ≡ length (f x).value + size_in (map f (drop (i + 1) xs)) =
      at_drop_more (λ (ys : List R). size_in (map f ys)) xs i x below ∙ ap (λ (y : R). length (f y).value + size_in (map f (drop (i + 1) xs))) (sym is) in
      omega arith

  pub sizes-all : (i size whole : ℕ) → length xs ≤ i → size ≤ 2 ^ 64 - 1 → min (size + size_in (map f (drop i xs))) (2 ^ 64 - 1) ≡ whole → size ≡ whole
  sizes-all i size whole over fits so =
      let none : size_in (map f (drop i xs)) ≡ 0 = ap (λ (ys : List R). size_in (map f ys)) (drop_of_length-le xs over) in
      omega arith
