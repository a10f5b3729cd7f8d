use Rattle.std.proofs.Common.{◌≡◌, ℕ, ◌&&◌, Bool, List, [], ◌∷◌, Bor, refl, ap, ◌∙◌}
use Rattle.std.specs.Cmp.Lexicographic.{pointwise}
use Rattle.std.specs.Str.{bytes_eq}
use Rattle.dtman_blobs.specs.Difference.Private.Views.{now_of}
use Rattle.dtman_blobs.proofs.difference.ordering.are_same_names.Goals as goal

names-now : (xs ys : List (Bor (List ℕ))) → pointwise (λ (x y : Bor (List ℕ)). bytes_eq x.now y.now) xs ys ≡ pointwise bytes_eq (now_of xs) (now_of ys)
names-now [] [] = refl
names-now [] (y ∷ ys) = refl
names-now (x ∷ xs) [] = refl
names-now (x ∷ xs) (y ∷ ys) = ap (λ (t : Bool). bytes_eq x.now y.now && t) (names-now xs ys)

pub returns : goal.returns
returns c = c.eq.ensures ∙ names-now c.args.first.now c.args.second.now
