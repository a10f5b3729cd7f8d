-- Values by the index, and by the list.
use Rattle.std.proofs.Common.{◌≡◌, ◌≢◌, ℕ, zero, suc, ◌+◌, ◌<◌, ◌≤◌, Bool, true, false, ◌&&◌, List, [], ◌∷◌, ◌++◌, length, Some, None, refl, sym, ap, ap₂, ◌∙◌, arith}
use Rattle.std.specs.Str.{bytes_eq}
use Rattle.std.proofs.lemmas.Bool.{and_parts, and_from}
use Rattle.std.proofs.lemmas.Slice.Eq.{bytes_eq-Decides}
use Rattle.dt_source.specs.TreeMeaning.Paths.{Path, same_path}
use Rattle.dt_source.specs.TreeMeaning.MapOf.{value_in}
use Rattle.dt_live.specs.declared.live_tree.NodeRow.{NodeRow}
use Rattle.dt_live.specs.declared.live_tree.PropertyRow.{PropertyRow}
use Rattle.dt_live.specs.declared.live_tree.LiveTree.{LiveTree}
use Rattle.dt_live.specs.Rows.{child_of, no_property, path_of, property_at, property_of}
use Rattle.dt_live.proofs.NodeRows.{absent-present, some-is}
use Rattle.dt_live.proofs.PathTests.{same-is, same-itself, snoc-some}
use Rattle.dt_live.specs.ByRow.{lent}
use Rattle.dt_live.specs.Flattened.{IsWhole, Lent, lists}
use Rattle.dt_live.proofs.LookUps.{listed-found}
use Rattle.dt_live.proofs.WholeTrees.{all-entries, one-number}
use Rattle.dt_overlay.specs.Fixup.PatchedOverlay.{patched_from}
use Rattle.dt_overlay.proofs.FixupLemmas.Flattening.{from-listed}

-- whether a row is that of the property of a name at a path
abbrev pub is_row : (ℕ → Path) → Path → List ℕ → PropertyRow Lent → Bool
is_row path q n r = same_path q (path r.node) && bytes_eq n r.name.now

-- ---- in the list
pub value-nowhere : (path : ℕ → Path) (value : ℕ → List ℕ) (k : ℕ) (rs : List (PropertyRow Lent)) (q : Path) (n : List ℕ)
    → ((j : ℕ) → j < length rs → is_row path q n (property_at rs j) ≡ false) → value_in (patched_from path value k rs) q n ≡ None
value-nowhere path value k [] q n apart = refl
value-nowhere path value k (r ∷ rs) q n apart =
    rw (apart 0 (omega arith)) (value-nowhere path value (k + 1) rs q n (λ j below. apart (suc j) (omega arith)))

pub value-somewhere : (path : ℕ → Path) (value : ℕ → List ℕ) (k : ℕ) (rs : List (PropertyRow Lent)) (q : Path) (n : List ℕ) (i : ℕ) → i < length rs
    → is_row path q n (property_at rs i) ≡ true → ((j : ℕ) → j < i → is_row path q n (property_at rs j) ≡ false)
    → value_in (patched_from path value k rs) q n ≡ Some (value (k + i))
value-somewhere path value k [] q n i below there apart = absurd (omega arith)
value-somewhere path value k (r ∷ rs) q n zero below there apart =
    let at : k ≡ k + 0 = omega arith in
    rw there (ap (λ m. Some (value m)) at)
value-somewhere path value k (r ∷ rs) q n (suc i) below there apart =
    let at : (k + 1) + i ≡ k + suc i = omega arith in
    rw (apart 0 (omega arith))
    (value-somewhere path value (k + 1) rs q n i (omega arith) there (λ j under. apart (suc j) (omega arith)) ∙ ap (λ m. Some (value m)) at)

-- ---- a whole live tree
module _ (d : LiveTree Lent) (whole : IsWhole d) where
  abbrev rows : List NodeRow
  rows = d.nodes.items

  abbrev ps : List (PropertyRow Lent)
  ps = d.properties.items

  abbrev path : ℕ → Path
  path = path_of rows

  pub listed-values : (lists d).properties ≡ patched_from path (λ k. lent (property_at ps k).value) 0 ps
  listed-values =
      all-entries d whole.sound whole.stand whole.valued
      ∙ sym (from-listed path (λ k. lent (property_at ps k).value) 0 ps (λ j below. let e : 0 + j ≡ j = omega arith in ap (λ m. lent (property_at ps m).value) e))

  row-false : (q : Path) (n : List ℕ) (r : PropertyRow Lent) (b : Bool) → is_row path q n r ≡ b → (q ≡ path r.node → n ≡ r.name.now → ⊥) → b ≡ false
  row-false q n r true e apart = let h = and_parts (same_path q (path r.node)) (bytes_eq n r.name.now) e in absurd (apart (same-is q (path r.node) h.0) ((bytes_eq-Decides n r.name.now).0 h.1))
  row-false q n r false e apart = refl

  -- where no node has the path
  pub no-node : (q : Path) (n : List ℕ) → ((m : ℕ) → m ≤ length rows → q ≡ path m → ⊥) → (j : ℕ) → is_row path q n (property_at ps j) ≡ false
  no-node q n nowhere j = row-false q n (property_at ps j) (is_row path q n (property_at ps j)) refl (λ e _. nowhere (property_at ps j).node (whole.sound.known j) e)

  -- where there is no child no node has its path
  pub child-nowhere : (node : ℕ) (n : List ℕ) → node ≤ length rows → child_of d node n ≡ None → (m : ℕ) → m ≤ length rows → path node ++ n ∷ [] ≡ path m → ⊥
  child-nowhere node n known none zero inside e = snoc-some (path node) n e
  child-nowhere node n known none (suc k) inside e = absent-present (child_of d node n) (suc k) none (listed-found d whole node n known k inside e)

  -- a row that has the path and the name is found
  found-row : (node : ℕ) (n : List ℕ) → node ≤ length rows → (j : ℕ) → j < length ps → path node ≡ path (property_at ps j).node → n ≡ (property_at ps j).name.now → property_of d node n ≡ Some j
  found-row node n known j below paths names =
      let r = property_at ps j in
      let same : node ≡ r.node = one-number d whole.sound whole.stand node r.node known (whole.sound.known j) paths in
      ap₂ (λ a b. property_of d a b) same names ∙ whole.sound.properties.whole j (whole.valued j no_property below)

  -- no row is that of a property that isn't found
  pub no-row : (node : ℕ) (n : List ℕ) → node ≤ length rows → property_of d node n ≡ None → (j : ℕ) → j < length ps → is_row path (path node) n (property_at ps j) ≡ false
  no-row node n known none j below = row-false (path node) n (property_at ps j) (is_row path (path node) n (property_at ps j)) refl (λ a b. absent-present (property_of d node n) j none (found-row node n known j below a b))

  -- the row of a property that is found, and no other one
  pub row-there : (node : ℕ) (n : List ℕ) (i : ℕ) → property_of d node n ≡ Some i → (i < length ps) × ((property_at ps i).node ≡ node) × ((property_at ps i).name.now ≡ n)
  row-there node n i found = let f = whole.sound.properties.right node n i found in (f.0, f.1, f.2)

  pub row-is : (node : ℕ) (n : List ℕ) (i : ℕ) → property_of d node n ≡ Some i → is_row path (path node) n (property_at ps i) ≡ true
  row-is node n i found =
      let f = whole.sound.properties.right node n i found in
      and_from (same_path (path node) (path (property_at ps i).node)) (bytes_eq n (property_at ps i).name.now)
      (ap (λ m. same_path (path node) (path m)) f.1 ∙ same-itself (path node)) ((bytes_eq-Decides n (property_at ps i).name.now).1 (sym f.2))

  pub row-only : (node : ℕ) (n : List ℕ) (i : ℕ) → node ≤ length rows → property_of d node n ≡ Some i → (j : ℕ) → j < length ps → j ≢ i → is_row path (path node) n (property_at ps j) ≡ false
  row-only node n i known found j below other = row-false (path node) n (property_at ps j) (is_row path (path node) n (property_at ps j)) refl
      (λ a b. other (some-is j i (sym (found-row node n known j below a b) ∙ found)))

  -- ---- any values of its rows
  pub value-none : (value : ℕ → List ℕ) (node : ℕ) (n : List ℕ) → node ≤ length rows → property_of d node n ≡ None → value_in (patched_from path value 0 ps) (path node) n ≡ None
  value-none value node n known none = value-nowhere path value 0 ps (path node) n (no-row node n known none)

  pub value-some : (value : ℕ → List ℕ) (node : ℕ) (n : List ℕ) (i : ℕ) → node ≤ length rows → property_of d node n ≡ Some i → value_in (patched_from path value 0 ps) (path node) n ≡ Some (value i)
  value-some value node n i known found =
      let f = row-there node n i found in
      let at : 0 + i ≡ i = omega arith in
      value-somewhere path value 0 ps (path node) n i f.0 (row-is node n i found) (λ j under. row-only node n i known found j (omega (arith, f.0)) (λ e. absurd (omega (arith, e))))
      ∙ ap (λ m. Some (value m)) at

  pub value-no-node : (value : ℕ → List ℕ) (q : Path) (n : List ℕ) → ((m : ℕ) → m ≤ length rows → q ≡ path m → ⊥) → value_in (patched_from path value 0 ps) q n ≡ None
  value-no-node value q n nowhere = value-nowhere path value 0 ps q n (λ j below. no-node q n nowhere j)
