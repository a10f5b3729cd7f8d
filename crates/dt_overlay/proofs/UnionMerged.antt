-- One fragment's part over a tree is the union of their maps.
use Rattle.std.proofs.Common.{◌≡◌, ℕ, Bool, true, false, ◌&&◌, ◌||◌, List, [], ◌∷◌, ◌++◌, append-nil, length, map, drop, Option, Some, None, is_some, if◌then◌else◌, refl, sym, ap, ap₂, ◌∙◌, true≢false, ◌≤◌, arith}
use Rattle.std.specs.Prelude.{codes}
use Rattle.std.specs.List.{filter_map, list_any}
use Rattle.std.proofs.lemmas.Bool.{and_parts, and_from}
use Rattle.dt_tree.specs.Merged.{joined, joined_names, first_of, placed, union}
use Rattle.dt_tree.specs.PathMap.{PathMap}
use Rattle.dt_tree.specs.Sound.{is_among, are_distinct}
use Rattle.dt_source.specs.TreeMeaning.Names.{overlay_name}
use Rattle.dt_source.specs.TreeMeaning.Paths.{Path, same_path, is_within, is_listed, name_below}
use Rattle.dt_source.specs.TreeMeaning.References.{held}
use Rattle.dt_source.specs.TreeMeaning.Resolved.{Resolved, is_too_deep}
use Rattle.dt_source.specs.TreeMeaning.MapOf.{is_there, value_in, map_of}
use Rattle.dt_live.proofs.BuilderLemmas.PathFacts.{or-false}
use Rattle.dt_source.specs.OverlayMeaning.Applied.{clashes, part_of, with_nodes, with_values}
use Rattle.dt_overlay.specs.Union.{Clashes, IsTooDeep, overlay_map}
use Rattle.dt_overlay.proofs.UnionClashes.{at-clash, at-deep, clash-at, deep-at}
use Rattle.dt_overlay.proofs.UnionPaths.{named, named-held, within-drop, has_rest, part-kids, part-listed, part-named, part-value}
use Rattle.dt_overlay.proofs.UnionNames.{with_names, with_names-joined, both-first, both-joined, kids-with_nodes, listed-with_nodes, named-values, no-value, value-values}

-- nothing stands at a path where no node is
pub record IsTidy (r : Resolved) : Type 0 where
  pub properties : (q : Path) → is_there r q ≡ false → named r.properties q ≡ []
  pub children : (q : Path) → is_there r q ≡ false → filter_map (name_below q) r.nodes ≡ []

-- no name twice at a path
pub record IsDistinct (r : Resolved) : Type 0 where
  pub properties : (q : Path) → are_distinct (named r.properties q) ≡ true
  pub children : (q : Path) → are_distinct (filter_map (name_below q) r.nodes) ≡ true

pub tidy-value : (r : Resolved) → IsTidy r → (q : Path) (j : List ℕ) → is_there r q ≡ false → value_in r.properties q j ≡ None
tidy-value r tidy q j gone = no-value q j r.properties (ap (is_among j) (tidy.properties q gone))

both-no : (a b : Bool) → (a || b) ≡ false → b ≡ false
both-no a b e = (or-false a b e).1

module _ (t o : Resolved) (f : List ℕ) (p : Path) (tidy : IsTidy t) (tidy_o : IsTidy o) (distinct : IsDistinct o) (there : is_there t p ≡ true) where
  abbrev pub result : Resolved
  result = record { nodes = with_nodes (part_of o f p).nodes t.nodes; properties = with_values (part_of o f p).properties t.properties }

  module _ (q : Path) where
    abbrev at : Path
    at = f ∷ overlay_name ∷ drop (length p) q

    abbrev inside : Bool
    inside = is_within p q && is_there o at

    at-target : is_within p q ≡ true → (s : Path) → drop (length p) q ≡ s → has_rest s ≡ false → is_there t q ≡ true
    at-target within [] is e = ap (is_there t) (within-drop p q within ∙ ap (λ s. p ++ s) is ∙ append-nil p) ∙ there
    at-target within (n ∷ ns) is e = absurd (true≢false e)

    pub has-result : is_there result q ≡ (is_there t q || inside)
    has-result =
        ap (λ b. same_path q [] || b) (listed-with_nodes q (part_of o f p).nodes t.nodes ∙ ap (λ b. is_listed q t.nodes || b) (part-listed f p q o.nodes))
        ∙ or-or (same_path q []) (is_listed q t.nodes) (is_within p q && (has_rest (drop (length p) q) && is_listed at o.nodes))
        ∙ by_tests (is_there t q) (is_within p q) (has_rest (drop (length p) q)) (is_listed at o.nodes) (λ w e. at-target w (drop (length p) q) refl e) where
          or-or : (a b c : Bool) → (a || (b || c)) ≡ ((a || b) || c)
          or-or true b c = refl
          or-or false b c = refl

          by_tests : (a w k b : Bool) → (w ≡ true → k ≡ false → a ≡ true) → (a || (w && (k && b))) ≡ (a || (w && b))
          by_tests true w k b e = refl
          by_tests false true true b e = refl
          by_tests false true false b e = absurd (true≢false (sym (e refl refl)))
          by_tests false false k b e = refl

    -- what the part has there
    abbrev part_names : List (List ℕ)
    part_names = if is_within p q then named o.properties at else []

    abbrev part_kids : List (List ℕ)
    part_kids = if is_within p q then filter_map (name_below at) o.nodes else []

    abbrev part_value : List ℕ → Option (List ℕ)
    part_value j = if is_within p q then value_in o.properties at j else None

    if-distinct : (w : Bool) (ns : List (List ℕ)) → are_distinct ns ≡ true → are_distinct (if w then ns else []) ≡ true
    if-distinct true ns d = d
    if-distinct false ns d = refl

    if-empty : (w b : Bool) (ns : List (List ℕ)) → (b ≡ false → ns ≡ []) → (w && b) ≡ false → (if w then ns else []) ≡ []
    if-empty true b ns none e = none e
    if-empty false b ns none e = refl

    names-result : named result.properties q ≡ joined_names (named t.properties q) part_names
    names-result =
        named-values q (part_of o f p).properties t.properties
        ∙ ap (λ ns. with_names ns (named t.properties q)) (part-named f p q o.properties)
        ∙ with_names-joined part_names (named t.properties q) (if-distinct (is_within p q) (named o.properties at) (distinct.properties at))

    kids-result : filter_map (name_below q) result.nodes ≡ joined_names (filter_map (name_below q) t.nodes) part_kids
    kids-result =
        kids-with_nodes q (part_of o f p).nodes t.nodes
        ∙ ap (λ ns. with_names ns (filter_map (name_below q) t.nodes)) (part-kids f p q o.nodes)
        ∙ with_names-joined part_kids (filter_map (name_below q) t.nodes) (if-distinct (is_within p q) (filter_map (name_below at) o.nodes) (distinct.children at))

    value-result : (j : List ℕ) → value_in result.properties q j ≡ first_of (part_value j) (value_in t.properties q j)
    value-result j =
        value-values q j (part_of o f p).properties t.properties
        (ap are_distinct (part-named f p q o.properties) ∙ if-distinct (is_within p q) (named o.properties at) (distinct.properties at))
        ∙ ap (λ v. first_of v (value_in t.properties q j)) (part-value f p q o.properties j)

    -- no node, nothing there
    empty-names : inside ≡ false → part_names ≡ []
    empty-names gone = if-empty (is_within p q) (is_there o at) (named o.properties at) (tidy_o.properties at) gone

    empty-kids : inside ≡ false → part_kids ≡ []
    empty-kids gone = if-empty (is_within p q) (is_there o at) (filter_map (name_below at) o.nodes) (tidy_o.children at) gone

    empty-value : (j : List ℕ) → inside ≡ false → part_value j ≡ None
    empty-value j gone = by_test (is_within p q) (is_there o at) (tidy-value o tidy_o at j) gone where
      by_test : (w b : Bool) → (b ≡ false → value_in o.properties at j ≡ None) → (w && b) ≡ false → (if w then value_in o.properties at j else None) ≡ None
      by_test true b none e = none e
      by_test false b none e = refl

    -- by what the target's map shows there
    gates : {A : Type 0} (w b : Bool) (x y : A) → (if w && b then Some (if w then x else y) else None) ≡ (if w then (if b then Some x else None) else None)
    gates true b x y = refl
    gates false b x y = refl

    gated : (w b : Bool) (v : Option (List ℕ)) → (if w && b then (if w then v else None) else None) ≡ (if w then (if b then v else None) else None)
    gated true b v = refl
    gated false b v = refl

    names-patched_lists : (if is_there result q then Some (map (λ e. e.name) (held result.properties q)) else None)
        ≡ joined (if is_there t q then Some (map (λ e. e.name) (held t.properties q)) else None) (if is_within p q then (if is_there o at then Some (map (λ e. e.name) (held o.properties at)) else None) else None)
    names-patched_lists =
        ap₂ (λ b ns. if b then Some ns else None) has-result (named-held result.properties q ∙ names-result)
        ∙ both-joined (is_there t q) inside (named t.properties q) part_names (tidy.properties q) empty-names
        ∙ ap₂ (λ ns v. joined (if is_there t q then Some ns else None) v) (sym (named-held t.properties q))
        (gates (is_within p q) (is_there o at) (named o.properties at) [] ∙ ap (λ ns. if is_within p q then (if is_there o at then Some ns else None) else None) (sym (named-held o.properties at)))

    kids-patched_lists : (if is_there result q then Some (filter_map (name_below q) result.nodes) else None)
        ≡ joined (if is_there t q then Some (filter_map (name_below q) t.nodes) else None) (if is_within p q then (if is_there o at then Some (filter_map (name_below at) o.nodes) else None) else None)
    kids-patched_lists =
        ap₂ (λ b ns. if b then Some ns else None) has-result kids-result
        ∙ both-joined (is_there t q) inside (filter_map (name_below q) t.nodes) part_kids (tidy.children q) empty-kids
        ∙ ap (joined (if is_there t q then Some (filter_map (name_below q) t.nodes) else None)) (gates (is_within p q) (is_there o at) (filter_map (name_below at) o.nodes) [])

    value-patched_lists : (j : List ℕ) → (if is_there result q then value_in result.properties q j else None)
        ≡ first_of (if is_within p q then (if is_there o at then value_in o.properties at j else None) else None) (if is_there t q then value_in t.properties q j else None)
    value-patched_lists j =
        ap₂ (λ b v. if b then v else None) has-result (value-result j)
        ∙ both-first (is_there t q) inside (value_in t.properties q j) (part_value j) (tidy-value t tidy q j) (empty-value j)
        ∙ ap (λ v. first_of v (if is_there t q then value_in t.properties q j else None)) (gated (is_within p q) (is_there o at) (value_in o.properties at j))

    tidy-names : is_there result q ≡ false → named result.properties q ≡ []
    tidy-names gone =
        let parts = or-false (is_there t q) inside (sym has-result ∙ gone) in
        names-result ∙ ap₂ (λ ns ms. joined_names ns ms) (tidy.properties q parts.0) (empty-names parts.1)

    tidy-kids : is_there result q ≡ false → filter_map (name_below q) result.nodes ≡ []
    tidy-kids gone =
        let parts = or-false (is_there t q) inside (sym has-result ∙ gone) in
        kids-result ∙ ap₂ (λ ns ms. joined_names ns ms) (tidy.children q parts.0) (empty-kids parts.1)

    still-there : is_there t q ≡ true → is_there result q ≡ true
    still-there e = has-result ∙ ap (λ b. b || inside) e

  pub map-result : map_of result ≡ union (map_of t) (placed p (overlay_map o f))
  map-result = λ i. record {
    has = λ q. has-result q i;
    properties = λ q. names-patched_lists q i;
    children = λ q. kids-patched_lists q i;
    value = λ q j. value-patched_lists q j i;
  }

  pub tidy-result : IsTidy result
  tidy-result = record { properties = tidy-names; children = tidy-kids }

  pub there-result : (q : Path) → is_there t q ≡ true → is_there result q ≡ true
  there-result = still-there

  -- ---- refusals
  abbrev pub over : PathMap (List ℕ)
  over = placed p (overlay_map o f)

  abbrev phandle : List ℕ
  phandle = codes "phandle"

  shows : (u : Resolved) → IsTidy u → (q : Path) → is_some (value_in u.properties q phandle) ≡ true → is_some ((map_of u).value q phandle) ≡ true
  shows u tidy' q some = by_test (is_there u q) (tidy-value u tidy' q phandle) where
    by_test : (b : Bool) → (b ≡ false → value_in u.properties q phandle ≡ None) → is_some (if b then value_in u.properties q phandle else None) ≡ true
    by_test true none = some
    by_test false none = absurd (true≢false (sym some ∙ ap is_some (none refl)))

  patched_lists-by : (b : Bool) (v : Option (List ℕ)) → is_some (if b then v else None) ≡ true → (b ≡ true) × (is_some v ≡ true)
  patched_lists-by true v e = (refl, e)
  patched_lists-by false v e = absurd (true≢false (sym e))

  over-shows : (q : Path) → is_some (value_in (part_of o f p).properties q phandle) ≡ true → is_some (over.value q phandle) ≡ true
  over-shows q some =
      let e = sym (ap is_some (part-value f p q o.properties phandle)) ∙ some in
      let parts = patched_lists-by (is_within p q) (value_in o.properties (at q) phandle) e in
      ap (λ b. is_some (if b then (map_of o).value (at q) phandle else None)) parts.0 ∙ shows o tidy_o (at q) parts.1

  part-shows : (q : Path) → is_some (over.value q phandle) ≡ true → is_some (value_in (part_of o f p).properties q phandle) ≡ true
  part-shows q some =
      let parts = patched_lists-by (is_within p q) ((map_of o).value (at q) phandle) some in
      let own = patched_lists-by (is_there o (at q)) (value_in o.properties (at q) phandle) parts.1 in
      ap is_some (part-value f p q o.properties phandle) ∙ ap (λ b. is_some (if b then value_in o.properties (at q) phandle else None)) parts.0 ∙ own.1

  pub clash-patched_lists : list_any (clashes t.properties) (part_of o f p).properties ≡ true → Clashes (map_of t) over
  clash-patched_lists e = let c = clash-at t.properties (part_of o f p).properties e in (c.0, shows t tidy c.0 c.1, over-shows c.0 c.2)

  pub clash-hidden : Clashes (map_of t) over → list_any (clashes t.properties) (part_of o f p).properties ≡ true
  clash-hidden c = at-clash t.properties c.0 (patched_lists-by (is_there t c.0) (value_in t.properties c.0 phandle) c.1).1 (part_of o f p).properties (part-shows c.0 c.2)

  pub deep-patched_lists : list_any is_too_deep (part_of o f p).nodes ≡ true → IsTooDeep over
  deep-patched_lists e =
      let d = deep-at (part_of o f p).nodes e in
      let b = and_parts (is_within p d.0) (has_rest (drop (length p) d.0) && is_listed (at d.0) o.nodes) (sym (part-listed f p d.0 o.nodes) ∙ d.1) in
      (d.0, and_from (is_within p d.0) (is_listed (at d.0) o.nodes) b.0 (and_parts (has_rest (drop (length p) d.0)) (is_listed (at d.0) o.nodes) b.1).1, d.2)

  pub deep-hidden : length p ≤ 64 → IsTooDeep over → list_any is_too_deep (part_of o f p).nodes ≡ true
  deep-hidden few d =
      let b = and_parts (is_within p d.0) (is_listed (at d.0) o.nodes) d.1 in
      at-deep (part_of o f p).nodes d.0 d.2
      (part-listed f p d.0 o.nodes ∙ and_from (is_within p d.0) (has_rest (drop (length p) d.0) && is_listed (at d.0) o.nodes) b.0
      (and_from (has_rest (drop (length p) d.0)) (is_listed (at d.0) o.nodes) (by_rest (drop (length p) d.0) refl) b.1)) where
        by_rest : (s : Path) → drop (length p) d.0 ≡ s → has_rest s ≡ true
        by_rest [] e =
            let same : d.0 ≡ p = within-drop p d.0 (and_parts (is_within p d.0) (is_listed (at d.0) o.nodes) d.1).0 ∙ ap (λ s. p ++ s) e ∙ append-nil p in
            absurd (omega (arith, few, d.2, ap length same))
        by_rest (n ∷ ns) e = refl
