-- What the indexes of a whole live tree find, against its tree as lists.
use Rattle.std.proofs.Common.{◌≡◌, ℕ, zero, suc, ◌≤◌, ◌<◌, true, false, not, List, [], ◌∷◌, ◌++◌, length, map, Option, Some, None, MatchOption, if◌then◌else◌, refl, sym, ap, ap₂, ◌∙◌, arith}
use Rattle.std.specs.Str.{bytes_eq}
use Rattle.std.proofs.lemmas.Bool.{and_parts, and_from}
use Rattle.std.proofs.lemmas.Slice.Eq.{bytes_eq-Decides}
use Rattle.dt_source.specs.TreeMeaning.MapOf.{value_in}
use Rattle.dt_source.specs.TreeMeaning.Paths.{Path, same_path, is_listed}
use Rattle.dt_source.specs.TreeMeaning.Edits.{is_of}
use Rattle.dt_live.proofs.BuilderLemmas.PathFacts.{same-is, same-itself}
use Rattle.dt_live.specs.declared.live_tree.LiveTree.{LiveTree}
use Rattle.dt_live.specs.declared.live_tree.PropertyRow.{PropertyRow}
use Rattle.dt_live.specs.Rows.{IsNode, child_of, no_property, path_of, property_at, property_of, row_at, stands}
use Rattle.dt_live.proofs.Climbs.{not-true, path-step, stands-step}
use Rattle.dt_live.proofs.NodeRows.{absent-present, some-is}
use Rattle.dt_live.proofs.PathTests.{snoc-parts}
use Rattle.dt_live.proofs.StandingProperties.{listed-standing, standing-listed}
use Rattle.dt_live.specs.ByRow.{lent}
use Rattle.dt_live.specs.Flattened.{IsWhole, Lent, lists}
use Rattle.dt_live.proofs.Behind.{false-by}
use Rattle.dt_live.proofs.WholeTrees.{all-entries, one-number}
use Rattle.dt_live.proofs.WholeRows.{entry}

module _ (d : LiveTree Lent) (whole : IsWhole d) where
  abbrev path : ℕ → Path
  path n = path_of d.nodes.items n

  abbrev rows : List (PropertyRow Lent)
  rows = d.properties.items

  pub alone : (n m : ℕ) → IsNode d n → IsNode d m → path n ≡ path m → n ≡ m
  alone = one-number d whole.sound whole.stand

  -- ---- children
  module _ (n : ℕ) (k : List ℕ) (known : IsNode d n) where
    abbrev below : Path
    below = path n ++ k ∷ []

    -- a node at the path is found
    pub listed-found : (i : ℕ) → suc i ≤ length d.nodes.items → below ≡ path (suc i) → child_of d n k ≡ Some (suc i)
    listed-found i le e =
        let r = row_at d.nodes.items i in
        let step = path-step d.nodes.items whole.sound.grown i in
        let parts = snoc-parts (path n) (path r.parent) k r.name.now (e ∙ step) in
        let above : r.parent ≤ i = whole.sound.grown i in
        let same = alone n r.parent known (omega arith) parts.0 in
        let kept = and_parts (not r.removed) (stands d.nodes.items r.parent) (sym (stands-step d.nodes.items whole.sound.grown i) ∙ whole.stand (suc i) le) in
        ap₂ (λ m j. child_of d m j) same parts.1 ∙ whole.sound.nodes.whole i (not-true r.removed kept.0)

    abbrev IsChild : Option ℕ → Type 0
    IsChild o = MatchOption o (is_listed below (lists d).nodes ≡ false) (λ m. (is_listed below (lists d).nodes ≡ true) × (path m ≡ below) × (n < m) × IsNode d m)

    pub child-found : (o : Option ℕ) → child_of d n k ≡ o → IsChild o
    child-found None e = false-by (is_listed below (lists d).nodes) (λ l.
        let s = standing-listed path (stands d.nodes.items) (length d.nodes.items) below l in
        absent-present (child_of d n k) (suc s.0) e (listed-found s.0 s.1 s.3))
    child-found (Some m) e =
        let f = whole.sound.nodes.right n k m e in
        let r = row_at d.nodes.items f.0 in
        let at : path m ≡ below =
        ap path f.1 ∙ path-step d.nodes.items whole.sound.grown f.0 ∙ ap₂ (λ j x. path j ++ x ∷ []) f.3 f.4 in
        let inside : suc f.0 ≤ length d.nodes.items = omega (arith, f.2) in (
          ap (λ q. is_listed q (lists d).nodes) (sym at ∙ ap path f.1) ∙ listed-standing path (stands d.nodes.items) (length d.nodes.items) f.0 inside (whole.stand (suc f.0) inside),
          at,
          omega (arith, whole.sound.grown f.0, f.3, f.1),
          omega (arith, f.1, f.2),
        )

  -- ---- properties
  module _ (n : ℕ) (k : List ℕ) (known : IsNode d n) where
    abbrev Hits : PropertyRow Lent → Type 0
    Hits r = (r.node ≡ n) × (r.name.now ≡ k)

    missed : (r : PropertyRow Lent) → r.node ≤ length d.nodes.items → (Hits r → ⊥) → is_of (path n) k (entry path r) ≡ false
    missed r le other = false-by (is_of (path n) k (entry path r)) (λ same.
        let parts = and_parts (same_path (path n) (path r.node)) (bytes_eq k r.name.now) same in
        other (sym (alone n r.node known le (same-is (path n) (path r.node) parts.0)), sym ((bytes_eq-Decides k r.name.now).0 parts.1)))

    no-value : (rs : List (PropertyRow Lent)) → ((i : ℕ) → (property_at rs i).node ≤ length d.nodes.items) → ((i : ℕ) → i < length rs → Hits (property_at rs i) → ⊥)
        → value_in (map (entry path) rs) (path n) k ≡ None
    no-value [] le other = refl
    no-value (r ∷ rs) le other =
        ap (λ b. if b then Some (lent r.value) else value_in (map (entry path) rs) (path n) k) (missed r (le 0) (other 0 (omega arith)))
        ∙ no-value rs (λ i. le (suc i)) (λ i lt. other (suc i) (omega arith))

    first-value : (rs : List (PropertyRow Lent)) → ((i : ℕ) → (property_at rs i).node ≤ length d.nodes.items) → (j : ℕ) → j < length rs → Hits (property_at rs j)
        → ((i : ℕ) → i < j → Hits (property_at rs i) → ⊥) → value_in (map (entry path) rs) (path n) k ≡ Some (lent (property_at rs j).value)
    first-value [] le j lt hit other = absurd (omega arith)
    first-value (r ∷ rs) le zero lt hit other =
        ap (λ b. if b then Some (lent r.value) else value_in (map (entry path) rs) (path n) k)
        (and_from (same_path (path n) (path r.node)) (bytes_eq k r.name.now) (ap (λ m. same_path (path n) (path m)) hit.0 ∙ same-itself (path n)) ((bytes_eq-Decides k r.name.now).1 (sym hit.1)))
    first-value (r ∷ rs) le (suc j) lt hit other =
        ap (λ b. if b then Some (lent r.value) else value_in (map (entry path) rs) (path n) k) (missed r (le 0) (other 0 (omega arith)))
        ∙ first-value rs (λ i. le (suc i)) j (omega arith) hit (λ i below. other (suc i) (omega arith))

    -- a row that hits is found
    hit-found : (i : ℕ) → i < length rows → Hits (property_at rows i) → property_of d n k ≡ Some i
    hit-found i lt hit = ap₂ (λ m j. property_of d m j) (sym hit.0) (sym hit.1) ∙ whole.sound.properties.whole i (whole.valued i no_property lt)

    in_lists : value_in (lists d).properties (path n) k ≡ value_in (map (entry path) rows) (path n) k
    in_lists = ap (λ es. value_in es (path n) k) (all-entries d whole.sound whole.stand whole.valued)

    abbrev IsProperty : Option ℕ → Type 0
    IsProperty o =
        MatchOption o (value_in (lists d).properties (path n) k ≡ None)
        (λ r. (value_in (lists d).properties (path n) k ≡ Some (lent (property_at rows r).value)) × ((property_at rows r).node ≡ n) × ((property_at rows r).name.now ≡ k) × (r < length rows))

    pub property-found : (o : Option ℕ) → property_of d n k ≡ o → IsProperty o
    property-found None e =
        in_lists ∙ no-value rows whole.sound.known (λ i lt hit. absent-present (property_of d n k) i e (hit-found i lt hit))
    property-found (Some r) e =
        let f = whole.sound.properties.right n k r e in (
          in_lists ∙ first-value rows whole.sound.known r f.0 (f.1, f.2)
              (λ i below hit. absurd (omega (arith, some-is i r (sym (hit-found i (omega (arith, f.0)) hit) ∙ e)))),
          f.1,
          f.2,
          f.0,
        )
