-- The root's children, by their names.
use Rattle.std.proofs.Common.{◌≡◌, ℕ, zero, suc, ◌<◌, Bool, true, false, ◌&&◌, List, [], ◌∷◌, ◌++◌, length, get_or, refl, sym, ap, ◌∙◌}
use Rattle.std.specs.Str.{bytes_eq}
use Rattle.std.proofs.lemmas.List.{get_or_default}
use Rattle.dt_source.specs.TreeMeaning.Paths.{Path, same_path}
use Rattle.dt_live.specs.declared.live_tree.NodeRow.{NodeRow}
use Rattle.dt_live.specs.Rows.{no_row, row_at, path_of, IsGrown}
use Rattle.dt_live.proofs.Climbs.{path-step}

and-false : (b : Bool) → (b && false) ≡ false
and-false true = refl
and-false false = refl

and-true : (b : Bool) → (b && true) ≡ b
and-true true = refl
and-true false = refl

module _ (name : List ℕ) where
  two-names : (q : Path) (n m : List ℕ) → same_path (name ∷ []) ((q ++ n ∷ []) ++ m ∷ []) ≡ false
  two-names [] n m = and-false (bytes_eq name n)
  two-names (x ∷ []) n m = and-false (bytes_eq name x)
  two-names (x ∷ y ∷ q) n m = and-false (bytes_eq name x)

  module _ (rows : List NodeRow) (grown : IsGrown rows) where
    further-down : (k p : ℕ) → (row_at rows k).parent ≡ p → (p ≡ 0 → ⊥) → same_path (name ∷ []) (path_of rows (suc k)) ≡ false
    further-down k zero is below = absurd (below refl)
    further-down k (suc j) is below =
        ap (same_path (name ∷ [])) (path-step rows grown k ∙ ap (λ n. path_of rows n ++ (row_at rows k).name.now ∷ []) is ∙ ap (λ q. q ++ (row_at rows k).name.now ∷ []) (path-step rows grown j))
        ∙ two-names (path_of rows (row_at rows j).parent) (row_at rows j).name.now (row_at rows k).name.now

    -- one row up
    module _ (n k : ℕ) (d : NodeRow) (at : n ≡ suc k) (within : k < length rows) where
      abbrev was : get_or rows k d ≡ row_at rows k
      was = get_or_default rows k d no_row within

      pub other-path : ((get_or rows k d).parent ≡ 0 → ⊥) → same_path (name ∷ []) (path_of rows n) ≡ false
      other-path below = ap (λ m. same_path (name ∷ []) (path_of rows m)) at ∙ further-down k (row_at rows k).parent refl (λ e. below (ap (λ x. x.parent) was ∙ e))

      pub by-name : (get_or rows k d).parent ≡ 0 → same_path (name ∷ []) (path_of rows n) ≡ bytes_eq name (get_or rows k d).name.now
      by-name top =
          ap (λ m. same_path (name ∷ []) (path_of rows m)) at
          ∙ ap (same_path (name ∷ [])) (path-step rows grown k ∙ ap (λ m. path_of rows m ++ (row_at rows k).name.now ∷ []) (sym (ap (λ x. x.parent) was) ∙ top))
          ∙ and-true (bytes_eq name (row_at rows k).name.now)
          ∙ ap (λ (x : NodeRow). bytes_eq name x.name.now) (sym was)
