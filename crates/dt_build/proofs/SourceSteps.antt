-- A value more, in the order of the walk.
use Rattle.std.proofs.Common.{◌≡◌, Option, ℕ, ◌+◌, ◌-◌, ◌^◌, ◌<◌, ◌≤◌, min, List, ◌∷◌, length, get_or, drop, sym, ap, ◌∙◌, arith}
use Rattle.std.proofs.Math.ListN.{drop_of_length-le}
use Rattle.std.proofs.lemmas.List.{at_drop_more}
use Rattle.dt_source.specs.TreeMeaning.Paths.{Path}
use Rattle.dt_source.specs.TreeMeaning.Edits.{Definition}
use Rattle.dt_source.specs.TreeMeaning.Phandles.{PathPhandle}
use Rattle.dt_source.specs.TreeMeaning.Fixups.{value_bytes}
use Rattle.dt_live.specs.declared.preorder.properties.NodeProperty.{NodeProperty}
use Rattle.dt_live.specs.Making.Made.{entries, values_in}
use Rattle.dt_build.specs.Edit.Said.{Parts}
use Rattle.dt_live.specs.Builder.Sizes.{size_in}
pub use Rattle.dt_build.proofs.ResolveLemmas.PartSteps.{all-drop}
use Rattle.dt_build.specs.Private.Values.{all_uses, founds_of, values_of}

module _ (ns : List PathPhandle) (path : ℕ → Path) where
  -- the properties whose targets these are
  abbrev pub made : List (NodeProperty Parts) → List (Option ℕ) → List (Definition (List ℕ))
  made ys ts = entries path ys (values_of ns path (values_in ys) ts)

  pub sizes-more : (xs : List (NodeProperty Parts)) (i : ℕ) (x : NodeProperty Parts) (ts rest : List (Option ℕ)) → i < length xs → x ≡ get_or xs i x → rest ≡ drop (all_uses x.value.now.parts.items) ts
      → (size part sum whole : ℕ) → part ≡ min (length (value_bytes ns (founds_of path x.value.now.parts.items ts))) (2 ^ 64 - 1) → sum ≡ min (size + part) (2 ^ 64 - 1)
      → min (size + size_in (made (drop i xs) ts)) (2 ^ 64 - 1) ≡ whole → min (sum + size_in (made (drop (i + 1) xs) rest)) (2 ^ 64 - 1) ≡ whole
  sizes-more xs i x ts rest below is left size part sum whole a b so =
      let all : size_in (made (drop i xs) ts) ≡ length (value_bytes ns (founds_of path x.value.now.parts.items ts)) + size_in (made (drop (i + 1) xs) rest) =
      at_drop_more (λ (ys : List (NodeProperty Parts)). size_in (made ys ts)) xs i x below
      ∙ ap (λ (y : NodeProperty Parts). size_in (made (y ∷ drop (i + 1) xs) ts)) (sym is)
      ∙ ap (λ (us : List (Option ℕ)). length (value_bytes ns (founds_of path x.value.now.parts.items ts)) + size_in (made (drop (i + 1) xs) us)) (sym left) in
      omega arith

  pub sizes-all : (xs : List (NodeProperty Parts)) (i size whole : ℕ) (ts : List (Option ℕ)) → length xs ≤ i → size ≤ 2 ^ 64 - 1 → min (size + size_in (made (drop i xs) ts)) (2 ^ 64 - 1) ≡ whole → size ≡ whole
  sizes-all xs i size whole ts over fits so =
      let none : size_in (made (drop i xs) ts) ≡ 0 = ap (λ (ys : List (NodeProperty Parts)). size_in (made ys ts)) (drop_of_length-le xs over) in
      omega arith
