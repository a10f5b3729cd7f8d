-- The nodes that go, by their paths.
use Rattle.std.proofs.Common.{◌≡◌, ◌≤◌, ◌&&◌, ◌||◌, not, ℕ, zero, suc, Bool, true, false, List, [], ◌∷◌, ◌++◌, length, map, Option, Some, None, if◌then◌else◌, refl, sym, ap, ap₂, ◌∙◌, true≢false, inl, inr, arith}
use Rattle.std.specs.Option.{option_map}
use Rattle.std.specs.List.{filter, flat_map, list_any}
use Rattle.std.proofs.lemmas.Bool.{and_parts, cases_lt}
use Rattle.std.proofs.lemmas.List.{get_or_past, map-append}
use Rattle.std.proofs.lemmas.List.Folds.{list_any-append}
use Rattle.dt_source.specs.TreeMeaning.Paths.{Path, is_listed, is_within, same_path}
use Rattle.dt_source.specs.TreeMeaning.Edits.{Definition}
use Rattle.dt_source.specs.TreeMeaning.References.{Found, Bytes, Cell, Open, PathText}
use Rattle.dt_source.specs.TreeMeaning.DtcEdits.{DtcTree}
use Rattle.dt_source.specs.TreeMeaning.DtcResolved.{goes, is_left, is_referred_to, refers_to}
use Rattle.dt_live.specs.declared.live_tree.LiveTree.{LiveTree}
use Rattle.dt_live.specs.declared.live_tree.NodeRow.{NodeRow}
use Rattle.dt_live.specs.Index.{row_of}
use Rattle.dt_live.specs.Rows.{IsLiveTree, is_standing, node_path, no_row, path_of, row_at, standing, stands, state_of}
use Rattle.dt_live.proofs.Climbs.{path-step, stands-step}
use Rattle.dt_live.proofs.Each.{Each, each-append, each-more, each-one}
use Rattle.dt_live.proofs.PathTests.{within-root}
use Rattle.dt_live.proofs.StandingProperties.{standing-filter}
use Rattle.dt_live.proofs.StandingRows.{same-node}
use Rattle.dt_build.specs.declared.edit.standing.Standing.{Standing}
use Rattle.dt_build.specs.Edit.Said.{Parts}
use Rattle.dt_build.specs.Edit.Standing.{IsStandingOf}
use Rattle.dt_build.specs.Resolve.Targets.{IsThere, target_path}
use Rattle.dt_build.specs.Resolve.Private.Gone.{IsThereIn, goes_by, gone_rows, is_marked, is_target, rows_to}
use Rattle.dt_build.proofs.ResolveLemmas.FoundProperties.{targets_in}
use Rattle.dt_build.proofs.ResolveLemmas.PathPhandles.{turned}

-- ---- tests of lists
pub any-same : {A : Type 0} (t u : A → Bool) → ((x : A) → t x ≡ u x) → (xs : List A) → list_any t xs ≡ list_any u xs
any-same t u same xs = λ i. list_any (λ x. same x i) xs

any-flat : {A B : Type 0} (t : B → Bool) (f : A → List B) (xs : List A) → list_any t (flat_map f xs) ≡ list_any (λ x. list_any t (f x)) xs
any-flat t f [] = refl
any-flat t f (x ∷ xs) = list_any-append t (f x) (flat_map f xs) ∙ ap (λ b. list_any t (f x) || b) (any-flat t f xs)

pub any-map : {A B : Type 0} (t : B → Bool) (f : A → B) (xs : List A) → list_any t (map f xs) ≡ list_any (λ x. t (f x)) xs
any-map t f [] = refl
any-map t f (x ∷ xs) = ap (λ b. t (f x) || b) (any-map t f xs)

or-none : (b : Bool) → (b || false) ≡ b
or-none true = refl
or-none false = refl

-- ---- what references name
abbrev is_path : Path → Option Path → Bool
is_path p None = false
is_path p (Some q) = same_path p q

refers : (p : Path) (f : Found) → list_any (is_path p) (target_path f) ≡ refers_to p f
refers p (Bytes b) = refl
refers p (Cell q) = or-none (same_path p q)
refers p (Open l) = refl
refers p (PathText q) = or-none (same_path p q)

referred : (es : List (Definition (List Found))) (p : Path) → list_any (is_path p) (targets_in es) ≡ is_referred_to es p
referred es p =
    any-flat (is_path p) (λ e. flat_map target_path e.value) es
    ∙ any-same (λ e. list_any (is_path p) (flat_map target_path e.value)) (λ e. list_any (refers_to p) e.value)
    (λ e. any-flat (is_path p) target_path e.value ∙ any-same (λ f. list_any (is_path p) (target_path f)) (refers_to p) (refers p) e.value) es

-- ---- rows
pub rows-standing : (path : ℕ → Path) (test : ℕ → Bool) (n : ℕ) → map path (rows_to test n) ≡ standing path test n
rows-standing path test zero = refl
rows-standing path test (suc k) =
    map-append path (rows_to test k) (if test (suc k) then suc k ∷ [] else [])
    ∙ ap₂ (λ a b. a ++ b) (rows-standing path test k) (one (test (suc k))) where
      one : (b : Bool) → map path (if b then suc k ∷ [] else []) ≡ (if b then path (suc k) ∷ [] else [])
      one true = refl
      one false = refl

each-row : (test : ℕ → Bool) (n : ℕ) → Each (λ m. (1 ≤ m) × (test m ≡ true)) (rows_to test n)
each-row test zero = tt
each-row test (suc k) =
    each-append _ (rows_to test k) (if test (suc k) then suc k ∷ [] else []) (each-row test k)
    (each-one (λ m. (1 ≤ m) × (test m ≡ true)) (test (suc k)) (suc k) (λ e. let some : 1 ≤ suc k = omega arith in (some, e)))

module _ (d : LiveTree Parts) (sound : IsLiveTree d) where
  abbrev rows : List NodeRow
  rows = d.nodes.items

  pub stands-known : (k : ℕ) → stands rows k ≡ true → k ≤ length rows
  stands-known zero up = omega arith
  stands-known (suc k) up = elim (cases_lt k (length rows)) [
    | inl less ↦ omega (arith, less)
    | inr past ↦ absurd (true≢false (sym up ∙ stands-step rows sound.grown k ∙ ap (λ r. not r.removed && stands rows r.parent) (get_or_past rows k no_row past)))
  ]

  targets-same : (ts : List (Option ℕ)) → Each (IsThere d) ts → (k : ℕ) → stands rows k ≡ true → list_any (is_target k) ts ≡ list_any (is_path (path_of rows k)) (map (option_map (path_of rows)) ts)
  targets-same [] there k up = refl
  targets-same (None ∷ ts) there k up = targets-same ts there.1 k up
  targets-same (Some m ∷ ts) there k up =
      ap₂ (λ a b. a || b) (turned m k ∙ sym (same-node rows (row_of d.node_rows) sound.grown sound.nodes k m up there.0)) (targets-same ts there.1 k up)

module _ (s : Standing) (t : DtcTree) (of : IsStandingOf s t) (symbols : Bool) (es : List (Definition (List Found))) (ts : List (Option ℕ)) (there : Each (IsThere s.live) ts) (at : map (option_map (node_path s.live)) ts ≡ targets_in es) where
  abbrev d : LiveTree Parts
  d = s.live

  abbrev row_goes : ℕ → Bool
  row_goes n = is_standing d n && goes_by (λ m. list_any (is_target m) ts) s symbols n

  one-goes : (k : ℕ) (b : Bool) → is_standing d k ≡ b → (b && goes_by (λ m. list_any (is_target m) ts) s symbols k) ≡ (b && goes symbols t es (node_path d k))
  one-goes k false up = refl
  one-goes k true up =
      let known = stands-known d of.sound k up in
      let named = targets-same d of.sound ts there k up ∙ ap (list_any (is_path (node_path d k))) at ∙ referred es (node_path d k) in
      ap₂ (λ a b. (a && not b) && not (symbols && is_marked s.labelled.items k)) (of.marked.marks k known up) named
      ∙ ap (λ c. (is_listed (node_path d k) t.marked && not (is_referred_to es (node_path d k))) && not (symbols && c)) (of.labelled.marks k known up)

  pub gone-paths : map (node_path d) (gone_rows s ts symbols) ≡ filter (goes symbols t es) (state_of d).nodes
  gone-paths =
      rows-standing (node_path d) row_goes (length d.nodes.items)
      ∙ standing-filter (node_path d) (is_standing d) row_goes (goes symbols t es) (length d.nodes.items) (λ k. one-goes k (is_standing d k) refl)

pub gone-there : (s : Standing) (symbols : Bool) (ts : List (Option ℕ)) → IsLiveTree s.live → Each (IsThereIn s.live) (gone_rows s ts symbols)
gone-there s symbols ts sound =
    let test : ℕ → Bool = λ n. is_standing s.live n && goes_by (λ m. list_any (is_target m) ts) s symbols n in
    each-more (λ m. (1 ≤ m) × (test m ≡ true)) (IsThereIn s.live) (gone_rows s ts symbols)
    (λ m h.
    let up = (and_parts (is_standing s.live m) (goes_by (λ k. list_any (is_target k) ts) s symbols m) h.1).0 in
    record { below = h.0; known = stands-known s.live sound m up; there = up }) (each-row test (length s.live.nodes.items))

-- ---- the root is left
root-by : (d : LiveTree Parts) → IsLiveTree d → (n : ℕ) → 1 ≤ n → is_within (node_path d n) [] ≡ false
root-by d sound zero some = absurd (omega (arith, some))
root-by d sound (suc k) some =
    let x = row_at d.nodes.items k in
    ap (λ q. is_within q []) (path-step d.nodes.items sound.grown k) ∙ within-root (path_of d.nodes.items x.parent) x.name.now

none-above : (d : LiveTree Parts) → IsLiveTree d → (ns : List ℕ) → Each (IsThereIn d) ns → list_any (λ g. is_within g []) (map (node_path d) ns) ≡ false
none-above d sound [] each = refl
none-above d sound (n ∷ ns) each = ap₂ (λ a b. a || b) (root-by d sound n each.0.below) (none-above d sound ns each.1)

pub root-left : (d : LiveTree Parts) → IsLiveTree d → (ns : List ℕ) → Each (IsThereIn d) ns → is_left (map (node_path d) ns) [] ≡ true
root-left d sound ns each = ap not (none-above d sound ns each)
