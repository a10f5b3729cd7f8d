-- The text of a node's path, name by name.
use Rattle.std.proofs.Common.{◌≡◌, ℕ, zero, suc, ◌+◌, ◌-◌, ◌^◌, ◌<◌, ◌≤◌, min, List, [], ◌∷◌, ◌++◌, length, get_or, refl, sym, ap, ◌∙◌, append_assoc, append-nil, length-append, arith}
use Rattle.std.proofs.lemmas.List.{get_or_default}
use Rattle.dt_tree.specs.Path.{behind_slashes, path_text}
use Rattle.dt_source.specs.TreeMeaning.Paths.{Path}
use Rattle.dt_live.specs.declared.live_tree.NodeRow.{NodeRow}
use Rattle.dt_live.specs.Rows.{no_row, row_at, path_of, IsGrown}
use Rattle.dt_live.proofs.Climbs.{path-step}

behind-last : (p : Path) (n : List ℕ) → behind_slashes (p ++ n ∷ []) ≡ behind_slashes p ++ 47 ∷ n
behind-last [] n = ap (λ bs. 47 ∷ bs) (append-nil n)
behind-last (m ∷ p) n = ap (λ bs. 47 ∷ (m ++ bs)) (behind-last p n) ∙ ap (λ bs. 47 ∷ bs) (sym (append_assoc m (behind_slashes p) (47 ∷ n)))

module _ (rows : List NodeRow) (grown : IsGrown rows) where
  -- one row up
  module _ (n k : ℕ) (d : NodeRow) (at : n ≡ suc k) (within : k < length rows) where
    abbrev was : get_or rows k d ≡ row_at rows k
    was = get_or_default rows k d no_row within

    pub parent-below : (get_or rows k d).parent ≤ k
    parent-below = let same : (get_or rows k d).parent ≡ (row_at rows k).parent = ap (λ x. x.parent) was in omega (arith, grown k)

    pub behind-up : behind_slashes (path_of rows n) ≡ behind_slashes (path_of rows (get_or rows k d).parent) ++ 47 ∷ (get_or rows k d).name.now
    behind-up =
        ap (λ m. behind_slashes (path_of rows m)) at ∙ ap behind_slashes (path-step rows grown k)
        ∙ behind-last (path_of rows (row_at rows k).parent) (row_at rows k).name.now
        ∙ sym (ap (λ (x : NodeRow). behind_slashes (path_of rows x.parent) ++ 47 ∷ x.name.now) was)

    pub size-up : (size sum next whole : ℕ) → sum ≡ min (size + length (get_or rows k d).name.now) (2 ^ 64 - 1) → next ≡ min (sum + 1) (2 ^ 64 - 1)
        → min (size + length (behind_slashes (path_of rows n))) (2 ^ 64 - 1) ≡ whole
        → min (next + length (behind_slashes (path_of rows (get_or rows k d).parent))) (2 ^ 64 - 1) ≡ whole
    size-up size sum next whole b c so =
        let name = (get_or rows k d).name.now in
        let above = behind_slashes (path_of rows (get_or rows k d).parent) in
        omega (arith, ap length behind-up, length-append above (47 ∷ name))

    pub names-more : (v0 v1 v2 v3 : List ℕ) → v1 ≡ v0 ++ behind_slashes (path_of rows (get_or rows k d).parent) → v2 ≡ v1 ++ 47 ∷ [] → v3 ≡ v2 ++ (get_or rows k d).name.now
        → v3 ≡ v0 ++ behind_slashes (path_of rows n)
    names-more v0 v1 v2 v3 a b c =
        let name = (get_or rows k d).name.now in
        let above = behind_slashes (path_of rows (get_or rows k d).parent) in
        c ∙ ap (λ t. t ++ name) (b ∙ ap (λ t. t ++ 47 ∷ []) a) ∙ append_assoc (v0 ++ above) (47 ∷ []) name
        ∙ append_assoc v0 above (47 ∷ name) ∙ ap (λ t. v0 ++ t) (sym behind-up)

  pub names-counted : (at size whole : ℕ) → at ≡ 0 → size ≤ 2 ^ 64 - 1 → min (size + length (behind_slashes (path_of rows at))) (2 ^ 64 - 1) ≡ whole → size ≡ whole
  names-counted at size whole top fits so =
      let none : length (behind_slashes (path_of rows at)) ≡ 0 = ap (λ m. length (behind_slashes (path_of rows m))) top in
      omega arith

-- ---- the whole text
pub text-last : (p : Path) (n : List ℕ) → path_text (p ++ n ∷ []) ≡ behind_slashes (p ++ n ∷ [])
text-last [] n = refl
text-last (m ∷ p) n = refl

module _ (rows : List NodeRow) (grown : IsGrown rows) where
  pub text-below : (n : ℕ) → (n ≡ 0 → ⊥) → path_text (path_of rows n) ≡ behind_slashes (path_of rows n)
  text-below zero some = absurd (some refl)
  text-below (suc k) some =
      let x = row_at rows k in
      ap path_text (path-step rows grown k) ∙ text-last (path_of rows x.parent) x.name.now ∙ sym (ap behind_slashes (path-step rows grown k))

  -- with the zero byte
  pub path-size : (n names sum : ℕ) → (n ≡ 0 → ⊥) → names ≡ min (length (behind_slashes (path_of rows n))) (2 ^ 64 - 1) → sum ≡ min (names + 1) (2 ^ 64 - 1)
      → sum ≡ min (length (path_text (path_of rows n) ++ 0 ∷ [])) (2 ^ 64 - 1)
  path-size n names sum some a b =
      let all : length (path_text (path_of rows n) ++ 0 ∷ []) ≡ length (behind_slashes (path_of rows n)) + 1 = length-append (path_text (path_of rows n)) (0 ∷ []) ∙ ap (λ t. length t + 1) (text-below n some) in
      omega (arith, a, b, all)

  pub path-root : (n : ℕ) (v0 v1 v2 : List ℕ) → n ≡ 0 → v1 ≡ v0 ++ 47 ∷ [] → v2 ≡ v1 ++ 0 ∷ [] → v2 ≡ v0 ++ (path_text (path_of rows n) ++ 0 ∷ [])
  path-root n v0 v1 v2 top a b =
      b ∙ ap (λ t. t ++ 0 ∷ []) a ∙ append_assoc v0 (47 ∷ []) (0 ∷ []) ∙ ap (λ m. v0 ++ (path_text (path_of rows m) ++ 0 ∷ [])) (sym top)

  pub path-below : (n : ℕ) (v0 v1 v2 : List ℕ) → (n ≡ 0 → ⊥) → v1 ≡ v0 ++ behind_slashes (path_of rows n) → v2 ≡ v1 ++ 0 ∷ [] → v2 ≡ v0 ++ (path_text (path_of rows n) ++ 0 ∷ [])
  path-below n v0 v1 v2 some a b =
      b ∙ ap (λ t. t ++ 0 ∷ []) a ∙ append_assoc v0 (behind_slashes (path_of rows n)) (0 ∷ []) ∙ ap (λ t. v0 ++ (t ++ 0 ∷ [])) (sym (text-below n some))
