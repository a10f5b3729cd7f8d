-- No two properties of one node have one name.
use Rattle.std.proofs.Common.{◌≡◌, ℕ, suc, ◌<◌, Bool, true, false, not, ◌||◌, Some, List, [], ◌∷◌, length, map, refl, sym, ap, ap₂, ◌∙◌, arith}
use Rattle.std.specs.Str.{bytes_eq}
use Rattle.std.proofs.lemmas.Bool.{and_from}
use Rattle.std.proofs.lemmas.Slice.Eq.{bytes_eq-Decides}
use Rattle.dt_tree.specs.Sound.{is_among, are_distinct}
use Rattle.dt_source.specs.TreeMeaning.Paths.{Path, same_path}
use Rattle.dt_source.specs.TreeMeaning.Edits.{Definition}
use Rattle.dt_source.specs.TreeMeaning.References.{held}
use Rattle.dt_live.specs.declared.live_tree.LiveTree.{LiveTree}
use Rattle.dt_live.specs.declared.live_tree.PropertyRow.{PropertyRow}
use Rattle.dt_live.specs.Index.{row_of}
use Rattle.dt_live.specs.Rows.{no_property, property_at}
use Rattle.dt_live.proofs.PathTests.{same-is}
use Rattle.dt_live.specs.ByRow.{defined_by}
use Rattle.dt_live.specs.Flattened.{IsWhole, Lent, lists}
use Rattle.dt_live.proofs.WholeTrees.{all-entries, one-number}

module _ (d : LiveTree Lent) (w : IsWhole d) (q : Path) where
  abbrev rows : List (PropertyRow Lent)
  rows = d.properties.items

  abbrev names : List (Definition (List ℕ)) → List (List ℕ)
  names es = map (λ e. e.name) (held es q)

  some-is : (a b : ℕ) → Some a ≡ Some b → a ≡ b
  some-is a b e = cc

  -- rows of one path and one name are one
  one-row : (i j : ℕ) → i < length rows → j < length rows → same_path q (defined_by d (property_at rows i)).path ≡ true → same_path q (defined_by d (property_at rows j)).path ≡ true
      → (property_at rows i).name.now ≡ (property_at rows j).name.now → i ≡ j
  one-row i j li lj a b named =
      let x = property_at rows i in
      let y = property_at rows j in
      let nodes : x.node ≡ y.node = one-number d w.sound w.stand x.node y.node (w.sound.known i) (w.sound.known j)
      (sym (same-is q (defined_by d x).path a) ∙ same-is q (defined_by d y).path b) in
      some-is i j
      (sym (w.sound.properties.whole i (w.valued i no_property li)) ∙ ap₂ (λ n k. row_of d.property_rows n k) nodes named
      ∙ w.sound.properties.whole j (w.valued j no_property lj))

  abbrev At : PropertyRow Lent → Type 0
  At r = same_path q (defined_by d r).path ≡ true

  -- no row behind has the name of this one
  not-among : (n : List ℕ) (rs : List (PropertyRow Lent)) → ((j : ℕ) → j < length rs → At (property_at rs j) → n ≡ (property_at rs j).name.now → ⊥) → is_among n (names (map (defined_by d) rs)) ≡ false
  not-among n [] other = refl
  not-among n (r ∷ rs) other =
      by-owner (same_path q (defined_by d r).path) refl (not-among n rs (λ j lt. other (suc j) (omega arith))) where
        not-same : (b : Bool) → bytes_eq r.name.now n ≡ b → same_path q (defined_by d r).path ≡ true → b ≡ false
        not-same true e at = absurd (other 0 (omega arith) at (sym ((bytes_eq-Decides r.name.now n).0 e)))
        not-same false e at = refl

        by-owner : (b : Bool) → same_path q (defined_by d r).path ≡ b → is_among n (names (map (defined_by d) rs)) ≡ false → is_among n (names (map (defined_by d) (r ∷ rs))) ≡ false
        by-owner true owns rest = rw owns (ap₂ (λ a b. a || b) (not-same (bytes_eq r.name.now n) refl owns) rest)
        by-owner false owns rest = rw owns rest

  -- names of rows of which no two are one
  all-apart : (rs : List (PropertyRow Lent)) → ((i j : ℕ) → i < j → j < length rs → At (property_at rs i) → At (property_at rs j) → (property_at rs i).name.now ≡ (property_at rs j).name.now → ⊥)
      → are_distinct (names (map (defined_by d) rs)) ≡ true
  all-apart [] other = refl
  all-apart (r ∷ rs) other =
      by-owner (same_path q (defined_by d r).path) refl (all-apart rs (λ i j lt below. other (suc i) (suc j) (omega arith) (omega arith))) where
        by-owner : (b : Bool) → same_path q (defined_by d r).path ≡ b → are_distinct (names (map (defined_by d) rs)) ≡ true → are_distinct (names (map (defined_by d) (r ∷ rs))) ≡ true
        by-owner true owns rest =
            rw owns (and_from (not (is_among r.name.now (names (map (defined_by d) rs)))) (are_distinct (names (map (defined_by d) rs)))
            (ap not (not-among r.name.now rs (λ j lt at. other 0 (suc j) (omega arith) (omega arith) owns at))) rest)
        by-owner false owns rest = rw owns rest

  pub own-apart : are_distinct (map (λ e. e.name) (held (lists d).properties q)) ≡ true
  own-apart =
      ap (λ es. are_distinct (names es)) (all-entries d w.sound w.stand w.valued)
      ∙ all-apart rows (λ i j lt below a b named. omega (arith, one-row i j (omega arith) (omega arith) a b named, lt))
