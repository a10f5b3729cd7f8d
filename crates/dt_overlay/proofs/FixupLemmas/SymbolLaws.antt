-- Symbols, and the phandles of their nodes.
use Rattle.std.proofs.Common.{◌≡◌, ◌≢◌, ℕ, zero, suc, ◌+◌, ◌<◌, ◌≤◌, Bool, true, false, ◌&&◌, List, [], ◌∷◌, ◌++◌, length, Option, Some, None, unwrap_or, refl, sym, ap, ap₂, ◌∙◌, true≢false, arith}
use Rattle.std.specs.Prelude.{codes}
use Rattle.std.specs.Str.{bytes_eq}
use Rattle.std.proofs.lemmas.Bool.{and_parts}
use Rattle.dt_tree.proofs.SeenNames.{bytes_eq-comm}
use Rattle.dt_source.specs.TreeMeaning.Paths.{Path, same_path, is_listed}
use Rattle.dt_source.specs.TreeMeaning.MapOf.{value_in}
use Rattle.dt_source.specs.TreeMeaning.Names.{symbols_name}
use Rattle.dt_source.specs.TreeMeaning.Phandles.{PathPhandle}
use Rattle.dt_live.specs.declared.live_tree.NodeRow.{NodeRow}
use Rattle.dt_live.specs.declared.live_tree.PropertyRow.{PropertyRow}
use Rattle.dt_live.specs.declared.live_tree.LiveTree.{LiveTree}
use Rattle.dt_live.specs.Rows.{child_of, path_of, property_at, property_of, standing, stands}
use Rattle.dt_live.proofs.PathsDown.{node-listed}
use Rattle.dt_live.specs.ByRow.{lent, row_property}
use Rattle.dt_live.specs.Flattened.{IsWhole, Lent, lists}
use Rattle.dt_live.proofs.LookUps.{child-found}
use Rattle.dt_source.specs.OverlayMeaning.Texts.{ended_path}
use Rattle.dt_source.specs.OverlayMeaning.Shifted.{Value, number_of, path_phandles, phandle_at, phandle_of, phandles, symbol_phandle}
use Rattle.dt_overlay.specs.Fixup.PatchedOverlay.{patched_from}
use Rattle.dt_overlay.proofs.FixupLemmas.LookUps.{child-nowhere, is_row, listed-values, no-node, no-row, row-is, row-only, row-there, value-no-node, value-none, value-some}

-- ---- the phandle of a path
skip-by : (q p : Path) (o : Option ℕ) (xs : List PathPhandle) → (same_path q p ≡ true → o ≡ None) → (s : Bool) → same_path q p ≡ s → number_of q (path_phandles p o ++ xs) ≡ number_of q xs
skip-by q p None xs none s e = refl
skip-by q p (Some n) xs none true e = absurd (some-none (none e)) where
  some-none : Some n ≡ None → ⊥
  some-none h = cc
skip-by q p (Some n) xs none false e = rw e refl

no-phandle : (e : Value) → bytes_eq e.name (codes "phandle") ≡ false → phandle_of e ≡ None
no-phandle e other = rw other refl

and-second : (a b : Bool) → (a && b) ≡ false → a ≡ true → b ≡ false
and-second true b e f = e
and-second false b e f = absurd (true≢false (sym f))

number-skip : (q : Path) (e : Value) (xs : List PathPhandle) → (same_path q e.path && bytes_eq (codes "phandle") e.name) ≡ false → number_of q (path_phandles e.path (phandle_of e) ++ xs) ≡ number_of q xs
number-skip q e xs other = skip-by q e.path (phandle_of e) xs
    (λ same. no-phandle e (bytes_eq-comm e.name (codes "phandle") ∙ and-second (same_path q e.path) (bytes_eq (codes "phandle") e.name) other same)) (same_path q e.path) refl

number-here : (q p : Path) (o : Option ℕ) (xs : List PathPhandle) → same_path q p ≡ true → number_of q xs ≡ None → number_of q (path_phandles p o ++ xs) ≡ o
number-here q p None xs same none = none
number-here q p (Some n) xs same none = rw same refl

number-nowhere : (path : ℕ → Path) (value : ℕ → List ℕ) (k : ℕ) (rs : List (PropertyRow Lent)) (q : Path)
    → ((j : ℕ) → j < length rs → is_row path q (codes "phandle") (property_at rs j) ≡ false) → number_of q (phandles (patched_from path value k rs)) ≡ None
number-nowhere path value k [] q apart = refl
number-nowhere path value k (r ∷ rs) q apart =
    number-skip q (record { path = path r.node; name = r.name.now; value = value k }) (phandles (patched_from path value (k + 1) rs)) (apart 0 (omega arith))
    ∙ number-nowhere path value (k + 1) rs q (λ j below. apart (suc j) (omega arith))

number-somewhere : (path : ℕ → Path) (value : ℕ → List ℕ) (k : ℕ) (rs : List (PropertyRow Lent)) (q : Path) (i : ℕ) → i < length rs
    → is_row path q (codes "phandle") (property_at rs i) ≡ true → ((j : ℕ) → j < length rs → j ≢ i → is_row path q (codes "phandle") (property_at rs j) ≡ false)
    → number_of q (phandles (patched_from path value k rs)) ≡ phandle_of (record { path = path (property_at rs i).node; name = (property_at rs i).name.now; value = value (k + i) })
number-somewhere path value k [] q i below there apart = absurd (omega arith)
number-somewhere path value k (r ∷ rs) q zero below there apart =
    let at : k ≡ k + 0 = omega arith in
    number-here q (path r.node) (phandle_of (record { path = path r.node; name = r.name.now; value = value k })) (phandles (patched_from path value (k + 1) rs))
    ((and_parts (same_path q (path r.node)) (bytes_eq (codes "phandle") r.name.now) there).0)
    (number-nowhere path value (k + 1) rs q (λ j below'. apart (suc j) (omega arith) (λ e. absurd (omega (arith, e)))))
    ∙ ap (λ m. phandle_of (record { path = path r.node; name = r.name.now; value = value m })) at
number-somewhere path value k (r ∷ rs) q (suc i) below there apart =
    let at : (k + 1) + i ≡ k + suc i = omega arith in
    number-skip q (record { path = path r.node; name = r.name.now; value = value k }) (phandles (patched_from path value (k + 1) rs)) (apart 0 (omega arith) (λ e. absurd (omega (arith, e))))
    ∙ number-somewhere path value (k + 1) rs q i (omega arith) there (λ j below' other. apart (suc j) (omega arith) (λ e. other (omega (arith, e))))
    ∙ ap (λ m. phandle_of (record { path = path (property_at rs i).node; name = (property_at rs i).name.now; value = value m })) at

module _ (d : LiveTree Lent) (whole : IsWhole d) where
  abbrev rows : List NodeRow
  rows = d.nodes.items

  abbrev value : ℕ → List ℕ
  value k = lent (property_at d.properties.items k).value

  -- ---- the text of a symbol
  pub no-symbols : (l : List ℕ) → child_of d 0 symbols_name ≡ None → ended_path (unwrap_or (value_in (lists d).properties (symbols_name ∷ []) l) []) ≡ None
  no-symbols l none =
      ap (λ es. ended_path (unwrap_or (value_in es (symbols_name ∷ []) l) [])) (listed-values d whole)
      ∙ ap (λ o. ended_path (unwrap_or o [])) (value-no-node d whole value (symbols_name ∷ []) l (child-nowhere d whole 0 symbols_name (omega arith) none))

  pub no-symbol : (l : List ℕ) (m : ℕ) → child_of d 0 symbols_name ≡ Some m → property_of d m l ≡ None → ended_path (unwrap_or (value_in (lists d).properties (symbols_name ∷ []) l) []) ≡ None
  no-symbol l m child none =
      let c = child-found d whole 0 symbols_name (omega arith) (Some m) child in
      ap (λ es. ended_path (unwrap_or (value_in es (symbols_name ∷ []) l) [])) (listed-values d whole)
      ∙ ap (λ o. ended_path (unwrap_or o [])) (ap (λ q. value_in (patched_from (path_of rows) value 0 d.properties.items) q l) (sym c.1) ∙ value-none d whole value m l c.3 none)

  pub symbol-text : (l : List ℕ) (m i : ℕ) → child_of d 0 symbols_name ≡ Some m → property_of d m l ≡ Some i
      → ended_path (unwrap_or (value_in (lists d).properties (symbols_name ∷ []) l) []) ≡ ended_path (value i)
  symbol-text l m i child found =
      let c = child-found d whole 0 symbols_name (omega arith) (Some m) child in
      ap (λ es. ended_path (unwrap_or (value_in es (symbols_name ∷ []) l) [])) (listed-values d whole)
      ∙ ap (λ o. ended_path (unwrap_or o [])) (ap (λ q. value_in (patched_from (path_of rows) value 0 d.properties.items) q l) (sym c.1) ∙ value-some d whole value m l i c.3 found)

  -- ---- no node at a path
  pub path-nowhere : (q : Path) → is_listed q ([] ∷ standing (path_of rows) (stands rows) (length rows)) ≡ false → (m : ℕ) → m ≤ length rows → q ≡ path_of rows m → ⊥
  path-nowhere q none m inside e =
      true≢false (sym (node-listed rows m inside (whole.stand m inside)) ∙ ap (λ p. is_listed p ([] ∷ standing (path_of rows) (stands rows) (length rows))) (sym e) ∙ none)

  -- ---- the phandle of a symbol's node
  abbrev path_of_symbol : List ℕ → Option Path
  path_of_symbol l = ended_path (unwrap_or (value_in (lists d).properties (symbols_name ∷ []) l) [])

  pub phandle-none : (l : List ℕ) → path_of_symbol l ≡ None → symbol_phandle (lists d) l ≡ None
  phandle-none l none = ap (phandle_at (lists d)) none

  pub phandle-nowhere : (l : List ℕ) (q : Path) → path_of_symbol l ≡ Some q → ((m : ℕ) → m ≤ length rows → q ≡ path_of rows m → ⊥) → symbol_phandle (lists d) l ≡ None
  phandle-nowhere l q path_is nowhere =
      ap (phandle_at (lists d)) path_is ∙ ap (λ es. number_of q (phandles es)) (listed-values d whole)
      ∙ number-nowhere (path_of rows) value 0 d.properties.items q (λ j below. no-node d whole q (codes "phandle") nowhere j)

  pub phandle-missing : (l : List ℕ) (q : Path) (m : ℕ) → path_of_symbol l ≡ Some q → q ≡ path_of rows m → m ≤ length rows → property_of d m (codes "phandle") ≡ None → symbol_phandle (lists d) l ≡ None
  phandle-missing l q m path_is at known none =
      ap (phandle_at (lists d)) path_is ∙ ap₂ (λ p es. number_of p (phandles es)) at (listed-values d whole)
      ∙ number-nowhere (path_of rows) value 0 d.properties.items (path_of rows m) (λ j below. no-row d whole m (codes "phandle") known none j below)

  pub phandle-there : (l : List ℕ) (q : Path) (m i : ℕ) → path_of_symbol l ≡ Some q → q ≡ path_of rows m → m ≤ length rows → property_of d m (codes "phandle") ≡ Some i → symbol_phandle (lists d) l ≡ phandle_of (row_property d i)
  phandle-there l q m i path_is at known found =
      let e : 0 + i ≡ i = omega arith in
      ap (phandle_at (lists d)) path_is ∙ ap₂ (λ p es. number_of p (phandles es)) at (listed-values d whole)
      ∙ number-somewhere (path_of rows) value 0 d.properties.items (path_of rows m) i (row-there d whole m (codes "phandle") i found).0 (row-is d whole m (codes "phandle") i found)
      (λ j below other. row-only d whole m (codes "phandle") i known found j below other)
      ∙ ap (λ k. phandle_of (record { path = path_of rows (property_at d.properties.items i).node; name = (property_at d.properties.items i).name.now; value = value k })) e
