-- An overlay's result is the union of the base and of its fragments.
use Rattle.std.proofs.Common.{◌≡◌, ◌≢◌, ◌≤◌, ◌⊎◌, inl, inr, ℕ, Bool, true, false, ◌&&◌, ◌||◌, List, [], ◌∷◌, ◌++◌, length, map, Option, Some, None, is_some, Ok, Err, if◌then◌else◌, refl, sym, ap, ap₂, ◌∙◌, subst, true≢false, arith}
use Rattle.std.specs.Prelude.{Result, ◌==◌, codes}
use Rattle.std.specs.Int.{from_be_bytes, w32}
use Rattle.std.specs.List.{filter_map, cons_option}
use Rattle.std.specs.Str.{bytes_eq}
use Rattle.dt_tree.specs.Steps.{then_do, fold}
use Rattle.dt_tree.specs.declared.property.Property.{Property}
use Rattle.dt_tree.specs.NodeData.{Siblings, none, more, NodeData}
use Rattle.dt_tree.specs.PathMap.{IsPathMap, TreeMap, path_map}
use Rattle.dt_tree.specs.Preorder.{paths_among}
use Rattle.dt_tree.specs.Sound.{are_distinct, IsSound}
use Rattle.dt_tree.specs.TreeData.{TreeData, IsTree}
use Rattle.dt_tree.proofs.Places.{inside, is_path_map}
use Rattle.dt_source.specs.TreeMeaning.Paths.{Path, same_path, is_listed, name_below}
use Rattle.dt_source.specs.TreeMeaning.References.{held}
use Rattle.dt_source.specs.TreeMeaning.Resolved.{Resolved}
use Rattle.dt_source.specs.TreeMeaning.MapOf.{is_there, map_of, value_in}
use Rattle.dt_live.specs.Builder.Lists.{below_child, defined_among, defined_at, lists_of}
use Rattle.dt_live.proofs.BuilderLemmas.PathFacts.{child-is, not-deep, or-false, or-right, same-itself}
use Rattle.dt_live.proofs.BuilderLemmas.Standing.{listed-both}
use Rattle.dt_live.proofs.BuilderLemmas.TreeLists.{map-lists}
use Rattle.dt_live.proofs.BuilderLemmas.TreeNodes.{tree-nodes}
use Rattle.dt_source.specs.OverlayMeaning.Fault.{Fault}
use Rattle.dt_source.specs.OverlayMeaning.Shifted.{Value, fragments, path_phandles, phandle_of, phandles, shifted_overlay}
use Rattle.dt_source.specs.OverlayMeaning.Applied.{first_with, overlay_result, standing, target, target_by, with_fragment, with_symbols}
use Rattle.dt_source.specs.OverlayMeaning.Texts.{ended_path}
use Rattle.dt_overlay.specs.Applied.{IsApplied}
use Rattle.dt_overlay.specs.Union.{AreStacked, IsRefused, IsUnion, IsWhy, symbols_in, united}
use Rattle.dt_overlay.specs.Union as union
use Rattle.dt_overlay.proofs.UnionPaths.{named, named-held}
use Rattle.dt_overlay.proofs.UnionFold.{IsKnown, Outcome, Refuses, Unites, all-put, err-same}
use Rattle.dt_overlay.proofs.UnionMerged.{IsTidy, IsDistinct}
use Rattle.dt_overlay.proofs.UnionShifted.{did, distinct-alike, ok, ok-same, shifted-alike, tidy-alike}
use Rattle.dt_overlay.proofs.UnionSymbols.{map-symbols}

-- ---- the properties of a tree stand at its nodes
named-both : (xs ys : List Value) (q : Path) → named (xs ++ ys) q ≡ named xs q ++ named ys q
named-both [] ys q = refl
named-both (x ∷ xs) ys q = ap (λ ns. if same_path q x.path then x.name ∷ ns else ns) (named-both xs ys q) ∙ by_test (same_path q x.path) where
  by_test : (t : Bool) → (if t then x.name ∷ (named xs q ++ named ys q) else named xs q ++ named ys q) ≡ (if t then x.name ∷ named xs q else named xs q) ++ named ys q
  by_test true = refl
  by_test false = refl

named-own : (ps : List Property) (q : Path) → same_path q [] ≡ false → named (defined_at [] ps) q ≡ []
named-own [] q other = refl
named-own (p ∷ ps) q other = ap (λ b. if b then p.name ∷ named (defined_at [] ps) q else named (defined_at [] ps) q) other ∙ named-own ps q other

named-root : (n : List ℕ) (xs : List Value) → named (map (below_child n) xs) [] ≡ []
named-root n [] = refl
named-root n (x ∷ xs) = named-root n xs

named-child : (n k : List ℕ) (ks : Path) (xs : List Value) → named (map (below_child n) xs) (k ∷ ks) ≡ (if bytes_eq k n then named xs ks else [])
named-child n k ks [] = nothing (bytes_eq k n) where
  nothing : (t : Bool) → ◌≡◌ {A = List (List ℕ)} [] (if t then [] else [])
  nothing true = refl
  nothing false = refl
named-child n k ks (x ∷ xs) =
    ap (λ ns. if bytes_eq k n && same_path ks x.path then x.name ∷ ns else ns) (named-child n k ks xs) ∙ by_name (bytes_eq k n) where
      by_name : (t : Bool) → (if t && same_path ks x.path then x.name ∷ (if t then named xs ks else []) else (if t then named xs ks else [])) ≡ (if t then (if same_path ks x.path then x.name ∷ named xs ks else named xs ks) else [])
      by_name true = refl
      by_name false = refl

listed-child : (n k : List ℕ) (ks : Path) (xs : List Path) → is_listed (k ∷ ks) (map (λ q. n ∷ q) xs) ≡ (bytes_eq k n && is_listed ks xs)
listed-child n k ks [] = nothing (bytes_eq k n) where
  nothing : (t : Bool) → false ≡ (t && false)
  nothing true = refl
  nothing false = refl
listed-child n k ks (x ∷ xs) = ap (λ b. (bytes_eq k n && same_path ks x) || b) (listed-child n k ks xs) ∙ by_name (bytes_eq k n) where
  by_name : (t : Bool) → ((t && same_path ks x) || (t && is_listed ks xs)) ≡ (t && (same_path ks x || is_listed ks xs))
  by_name true = refl
  by_name false = refl

abbrev own_and : List Property → Siblings → List Value
own_and ps c = defined_at [] ps ++ defined_among c

named-among : (f : Siblings) (q : Path) → is_listed q (paths_among f) ≡ false → named (defined_among f) q ≡ []
named-among none q gone = refl
named-among (more n ps c rest) [] gone =
    named-both (map (below_child n) (own_and ps c)) (defined_among rest) []
    ∙ ap₂ (λ a b. a ++ b) (named-root n (own_and ps c))
    (named-among rest [] (or-false (is_listed [] (map (λ q. n ∷ q) ([] ∷ paths_among c))) (is_listed [] (paths_among rest)) (sym (listed-both [] (map (λ q. n ∷ q) ([] ∷ paths_among c)) (paths_among rest)) ∙ gone)).1)
named-among (more n ps c rest) (k ∷ ks) gone =
    let parts = or-false (is_listed (k ∷ ks) (map (λ q. n ∷ q) ([] ∷ paths_among c))) (is_listed (k ∷ ks) (paths_among rest)) (sym (listed-both (k ∷ ks) (map (λ q. n ∷ q) ([] ∷ paths_among c)) (paths_among rest)) ∙ gone) in
    named-both (map (below_child n) (own_and ps c)) (defined_among rest) (k ∷ ks)
    ∙ ap₂ (λ a b. a ++ b)
    (named-child n k ks (own_and ps c) ∙ by_name (bytes_eq k n) (sym (listed-child n k ks ([] ∷ paths_among c)) ∙ parts.0) (named-among c ks))
    (named-among rest (k ∷ ks) parts.1) where
      by_name : (t : Bool) → (t && (same_path ks [] || is_listed ks (paths_among c))) ≡ false → (is_listed ks (paths_among c) ≡ false → named (defined_among c) ks ≡ [])
          → (if t then named (own_and ps c) ks else []) ≡ []
      by_name true out ih =
          let both = or-false (same_path ks []) (is_listed ks (paths_among c)) out in
          named-both (defined_at [] ps) (defined_among c) ks ∙ ap₂ (λ a b. a ++ b) (named-own ps ks both.0) (ih both.1)
      by_name false out ih = refl

none-below : (q : Path) (xs all : List Path) → ((x : Path) → is_listed x xs ≡ true → is_listed x all ≡ true) → ((n : List ℕ) → is_listed (q ++ n ∷ []) all ≡ true → ⊥) → filter_map (name_below q) xs ≡ []
none-below q [] all within never = refl
none-below q (x ∷ xs) all within never =
    ap₂ (λ o ns. cons_option o ns) (by_name (name_below q x) refl)
    (none-below q xs all (λ y l. within y (or-right (same_path y x) (is_listed y xs) l)) never) where
      by_name : (o : Option (List ℕ)) → name_below q x ≡ o → o ≡ None
      by_name None e = refl
      by_name (Some n) e =
          let child = child-is q x (ap is_some e) in
          absurd (never child.0 (ap (λ y. is_listed y all) (sym child.1) ∙ within x (ap (λ b. b || is_listed x xs) (same-itself x))))

pub tidy-tree : (b : NodeData) → IsSound b → IsTidy (lists_of b)
tidy-tree b sound = record {
  properties = λ q gone.
      let both = or-false (same_path q []) (is_listed q (paths_among b.children)) gone in
      named-both (defined_at [] b.properties) (defined_among b.children) q ∙ ap₂ (λ a b. a ++ b) (named-own b.properties q both.0) (named-among b.children q both.1);
  children = λ q gone.
      none-below q (paths_among b.children) (paths_among b.children) (λ x l. l) (λ n l. true≢false (sym ((tree-nodes b sound).above q n l) ∙ gone));
}

module _ (b : NodeData) (sound : IsSound b) where
  abbrev lists : Resolved
  lists = lists_of b

  is-map : IsPathMap (map_of lists)
  is-map = subst IsPathMap (map-lists b sound) (is_path_map b (inside b sound))

  pub distinct-tree : IsDistinct lists
  distinct-tree = record {
    properties = λ q. names q (is_there lists q) refl (tidy-tree b sound).properties;
    children = λ q. kids q (is_there lists q) refl (tidy-tree b sound).children;
  } where
    names : (q : Path) (t : Bool) → is_there lists q ≡ t → ((p : Path) → is_there lists p ≡ false → named lists.properties p ≡ []) → are_distinct (named lists.properties q) ≡ true
    names q true there tidy =
        ap are_distinct (sym (named-held lists.properties q))
        ∙ is-map.no_property_twice q (map (λ e. e.name) (held lists.properties q)) (ap (λ x. if x then Some (map (λ (e : Value). e.name) (held lists.properties q)) else None) there)
    names q false gone tidy = ap are_distinct (tidy q gone)

    kids : (q : Path) (t : Bool) → is_there lists q ≡ t → ((p : Path) → is_there lists p ≡ false → filter_map (name_below p) lists.nodes ≡ []) → are_distinct (filter_map (name_below q) lists.nodes) ≡ true
    kids q true there tidy = is-map.no_child_twice q (filter_map (name_below q) lists.nodes) (ap (λ x. if x then Some (filter_map (name_below q) lists.nodes) else None) there)
    kids q false gone tidy = ap are_distinct (tidy q gone)

-- ---- targets are nodes of the base
some-same : (p q : Path) → Some p ≡ Some q → p ≡ q
some-same p q e = cc

with-phandle : (n : ℕ) (es : List Value) (p : Path) → first_with n (phandles es) ≡ Some p → named es p ≢ []
with-phandle n [] p e empty = absurd (cc)
with-phandle n (x ∷ xs) p e empty = by_phandle (phandle_of x) e (with-phandle n xs p) where
  others : (t : Bool) → (if t then x.name ∷ named xs p else named xs p) ≡ [] → named xs p ≡ []
  others true e = absurd (cc)
  others false e = e

  own : (t : Bool) → t ≡ true → (if t then x.name ∷ named xs p else named xs p) ≡ [] → ⊥
  own true is e = absurd (cc)
  own false is e = true≢false (sym is)

  by_number : (m : ℕ) (t : Bool) → (if t then Some x.path else first_with n (phandles xs)) ≡ Some p → (first_with n (phandles xs) ≡ Some p → named xs p ≢ []) → ⊥
  by_number m true e ih = own (same_path p x.path) (ap (same_path p) (some-same x.path p e) ∙ same-itself p) empty
  by_number m false e ih = ih e (others (same_path p x.path) empty)

  by_phandle : (o : Option ℕ) → first_with n (path_phandles x.path o ++ phandles xs) ≡ Some p → (first_with n (phandles xs) ≡ Some p → named xs p ≢ []) → ⊥
  by_phandle None e ih = ih e (others (same_path p x.path) empty)
  by_phandle (Some m) e ih = by_number m (m == n) e ih

module _ (base : Resolved) (tidy : IsTidy base) where
  there-by : (p : Path) (t : Bool) → is_there base p ≡ t → named base.properties p ≢ [] → t ≡ true
  there-by p true e some = refl
  there-by p false e some = absurd (some (tidy.properties p e))

  there-at : (o : Option Path) (p : Path) → standing base o ≡ Some p → is_there base p ≡ true
  there-at None p e = absurd (cc)
  there-at (Some q) p e = by_test (is_there base q) refl e where
    by_test : (t : Bool) → is_there base q ≡ t → (if t then Some q else None) ≡ Some p → is_there base p ≡ true
    by_test true there e = ap (is_there base) (sym (some-same q p e)) ∙ there
    by_test false gone e = absurd (cc)

  there-target : (v w : Option (List ℕ)) (p : Path) → target_by base v w ≡ Some p → is_there base p ≡ true
  there-target (Some v) w p e = by_length (length v == 4) e where
    by_length : (t : Bool) → (if t then first_with (from_be_bytes w32 v) (phandles base.properties) else None) ≡ Some p → is_there base p ≡ true
    by_length true e = there-by p (is_there base p) refl (with-phandle (from_be_bytes w32 v) base.properties p e)
    by_length false e = absurd (cc)
  there-target None None p e = absurd (cc)
  there-target None (Some w) p e = there-at (ended_path w) p e

  found-target : (over : Resolved) (f : List ℕ) (p : Path) → target base over f ≡ Some p → is_there base p ≡ true
  found-target over f p e = there-target (value_in over.properties (f ∷ []) (codes "target")) (value_in over.properties (f ∷ []) (codes "target-path")) p e

few-levels : (b : NodeData) → IsSound b → (p : Path) → is_there (lists_of b) p ≡ true → length p ≤ 64
few-levels b sound [] there = omega arith
few-levels b sound (n ∷ ns) there = not-deep (paths_among b.children) (n ∷ ns) (tree-nodes b sound).shallow there

-- ---- all together
module _ (base over : NodeData) (sound : IsSound base) (sound_over : IsSound over) where
  abbrev bs : Resolved
  bs = lists_of base

  abbrev os : Resolved
  os = lists_of over

  abbrev with_all : Resolved → Resolved → Result Resolved Fault
  with_all o t = ok (with_symbols bs o (symbols_in o) t)

  module _ (o : Resolved) (is : shifted_overlay bs os ≡ ok o) where
    known-target : (f : List ℕ) (p : Path) → target bs o f ≡ Some p → IsKnown bs p
    known-target f p e = let there = found-target bs (tidy-tree base sound) o f p e in record { there = there; levels = few-levels base sound p there }

    outcome : (r : Result Resolved Fault) → fold (with_fragment bs o) (fragments o) bs ≡ r → Outcome bs o (fragments o) bs r
    outcome r e =
        let like = shifted-alike bs os o is in
        all-put bs o (tidy-alike os o like (tidy-tree over sound_over)) (distinct-alike os o like (distinct-tree over sound_over)) known-target (fragments o) bs (tidy-tree base sound) (λ q there. there) r e

    unites : (t r : Resolved) → Unites bs o (fragments o) bs t → with_symbols bs o (symbols_in o) t ≡ r → IsUnion base over (map_of r)
    unites t r all same = record {
      shifted = o;
      is_shifted = is;
      maps = all.maps;
      are_stacked = subst (λ m. AreStacked bs o (fragments o) m all.maps) (sym (map-lists base sound)) all.are_stacked;
      map = ap map_of (sym same) ∙ map-symbols bs o (symbols_in o) t all.tidy ∙ ap (union.with_symbols bs o (symbols_in o)) (all.all ∙ ap (λ m. united m all.maps) (sym (map-lists base sound)));
    }

    refuses : (e : Fault) → Refuses bs o (fragments o) bs e → IsRefused base over e
    refuses e r = record {
      shifted = o;
      is_shifted = is;
      before = r.before;
      refused = r.refused;
      behind = r.behind;
      names = r.names;
      maps = r.maps;
      are_stacked = subst (λ m. AreStacked bs o r.before m r.maps) (sym (map-lists base sound)) r.are_stacked;
      why = subst (λ m. IsWhy bs o r.refused (united m r.maps) e) (sym (map-lists base sound)) r.why;
    }

    of-fragments : (r : Result Resolved Fault) (e : Fault) → fold (with_fragment bs o) (fragments o) bs ≡ r → then_do r (with_all o) ≡ Err e → IsRefused base over e
    of-fragments (Ok t) e at is = absurd (cc)
    of-fragments (Err x) e at is = refuses e (subst (Refuses bs o (fragments o) bs) (err-same x e is) (outcome (Err x) at))

  -- what follows the shift
  abbrev all_applied : Resolved → Result Resolved Fault
  all_applied o = then_do (fold (with_fragment bs o) (fragments o) bs) (with_all o)

  pub result-union : (r : Resolved) → overlay_result bs os ≡ ok r → IsUnion base over (map_of r)
  result-union r e =
      let s = did (shifted_overlay bs os) all_applied r e in
      let m = did (fold (with_fragment bs s.0) (fragments s.0) bs) (with_all s.0) r s.2 in
      unites s.0 s.1 m.0 r (outcome s.0 s.1 (Ok m.0) m.1) (ok-same (with_symbols bs s.0 (symbols_in s.0) m.0) r m.2)

  by-shift : (r : Result Resolved Fault) (e : Fault) → shifted_overlay bs os ≡ r → then_do r all_applied ≡ Err e → (shifted_overlay bs os ≡ Err e) ⊎ IsRefused base over e
  by-shift (Ok o) e at is = inr (of-fragments o at (fold (with_fragment bs o) (fragments o) bs) e refl is)
  by-shift (Err x) e at is = inl (at ∙ is)

  pub result-refused : (e : Fault) → overlay_result bs os ≡ Err e → (shifted_overlay bs os ≡ Err e) ⊎ IsRefused base over e
  result-refused e is = by-shift (shifted_overlay bs os) e refl is

-- the tree that is answered has the lists' map
pub applied-union : (base over t : TreeData) → IsTree base → IsTree over → IsApplied base over t → IsUnion base.root over.root (path_map t.root)
applied-union base over t is is_over applied =
    subst (IsUnion base.root over.root) (sym (ap (λ (m : TreeMap). m.nodes) applied.map))
    (result-union base.root over.root is.sound is_over.sound applied.lists applied.result)
