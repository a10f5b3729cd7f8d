-- The symbols of a tree are properties of `/__symbols__`, in the tree's map as in its lists.
use Rattle.std.proofs.Common.{◌≡◌, ℕ, Bool, true, false, ◌&&◌, ◌||◌, List, [], ◌∷◌, ◌++◌, append-nil, map, Option, Some, None, if◌then◌else◌, refl, sym, ap, ap₂, ◌∙◌, true≢false}
use Rattle.std.specs.List.{filter_map, cons_option}
use Rattle.std.specs.Option.{option_map}
use Rattle.std.specs.Str.{bytes_eq}
use Rattle.dt_tree.specs.Changes.{with_child, with_name, with_property}
use Rattle.dt_tree.specs.Path.{path_text}
use Rattle.dt_tree.proofs.SeenNames.{bytes_eq-comm}
use Rattle.dt_source.specs.TreeMeaning.Names.{symbols_name}
use Rattle.dt_source.specs.TreeMeaning.Paths.{Path, same_path, is_listed, name_below}
use Rattle.dt_source.specs.TreeMeaning.Edits.{put}
use Rattle.dt_source.specs.TreeMeaning.References.{held}
use Rattle.dt_source.specs.TreeMeaning.Resolved.{Resolved}
use Rattle.dt_source.specs.TreeMeaning.MapOf.{is_there, value_in, map_of}
use Rattle.std.proofs.lemmas.List.Elements.{filter_map-append}
use Rattle.dt_live.proofs.BuilderLemmas.PathFacts.{or-false, same-is, same-itself}
use Rattle.dt_live.proofs.BuilderLemmas.Standing.{listed-both}
use Rattle.dt_source.specs.OverlayMeaning.Shifted.{Value}
use Rattle.dt_source.specs.OverlayMeaning.Applied.{symbol_path, with_node, with_symbol_at, with_symbols}
use Rattle.dt_source.specs.OverlayMeaning.Texts.{ended_path}
use Rattle.dt_overlay.specs.Union.{Map, with_symbol, with_symbols_node}
use Rattle.dt_overlay.specs.Union as union
use Rattle.dt_overlay.proofs.UnionPaths.{named, named-held}
use Rattle.dt_overlay.proofs.UnionNames.{kids-with_node, listed-with_node, named-put, value-put, with_option}
use Rattle.dt_overlay.proofs.UnionMerged.{IsTidy, tidy-value}

abbrev symbols : Path
symbols = symbols_name ∷ []

-- the root's child
below-root : (q : Path) → name_below q symbols ≡ (if same_path [] q then Some symbols_name else None)
below-root [] = refl
below-root (x ∷ []) = last (bytes_eq x symbols_name) where
  last : (t : Bool) → ◌≡◌ {A = Option (List ℕ)} (if t then None else None) None
  last true = refl
  last false = refl
below-root (x ∷ y ∷ ys) = last (bytes_eq x symbols_name) where
  last : (t : Bool) → ◌≡◌ {A = Option (List ℕ)} (if t then None else None) None
  last true = refl
  last false = refl

same-comm : (p q : Path) → same_path p q ≡ same_path q p
same-comm [] [] = refl
same-comm [] (y ∷ ys) = refl
same-comm (x ∷ xs) [] = refl
same-comm (x ∷ xs) (y ∷ ys) = ap₂ (λ a b. a && b) (bytes_eq-comm x y) (same-comm xs ys)

-- ---- the node
module _ (t : Resolved) (tidy : IsTidy t) where
  abbrev made : Resolved
  made = record { nodes = with_node symbols t.nodes; properties = t.properties }

  has-made : (q : Path) → is_there made q ≡ (is_there t q || same_path symbols q)
  has-made q =
      ap (λ b. same_path q [] || b) (listed-with_node q symbols t.nodes) ∙ or-or (same_path q []) (is_listed q t.nodes) (same_path q symbols)
      ∙ ap (λ b. is_there t q || b) (same-comm q symbols) where
        or-or : (a b c : Bool) → (a || (b || c)) ≡ ((a || b) || c)
        or-or true b c = refl
        or-or false b c = refl

  kids-made : (q : Path) → filter_map (name_below q) made.nodes ≡ (if same_path [] q then with_name symbols_name (filter_map (name_below q) t.nodes) else filter_map (name_below q) t.nodes)
  kids-made q = kids-with_node q symbols t.nodes ∙ ap (λ o. with_option o (filter_map (name_below q) t.nodes)) (below-root q) ∙ by_test (same_path [] q) where
    by_test : (b : Bool) → with_option (if b then Some symbols_name else None) (filter_map (name_below q) t.nodes) ≡ (if b then with_name symbols_name (filter_map (name_below q) t.nodes) else filter_map (name_below q) t.nodes)
    by_test true = refl
    by_test false = refl

  tidy-made : IsTidy made
  tidy-made = record {
    properties = λ q gone. tidy.properties q (or-false (is_there t q) (same_path symbols q) (sym (has-made q) ∙ gone)).0;
    children = λ q gone. kids-made q ∙ at_root q (sym (has-made q) ∙ gone) ∙ tidy.children q (or-false (is_there t q) (same_path symbols q) (sym (has-made q) ∙ gone)).0;
  } where
    at_root : (q : Path) → (is_there t q || same_path symbols q) ≡ false
        → (if same_path [] q then with_name symbols_name (filter_map (name_below q) t.nodes) else filter_map (name_below q) t.nodes) ≡ filter_map (name_below q) t.nodes
    at_root [] e = absurd (true≢false e)
    at_root (x ∷ xs) e = refl

  -- a new node
  abbrev grown : Resolved
  grown = record { nodes = t.nodes ++ symbols ∷ []; properties = t.properties }

  module _ (new : is_there t symbols ≡ false) (q : Path) where
    or-comm : (a b : Bool) → (a || (b || false)) ≡ (b || a)
    or-comm true true = refl
    or-comm true false = refl
    or-comm false true = refl
    or-comm false false = refl

    has-grown : is_there grown q ≡ (same_path symbols q || is_there t q)
    has-grown =
        ap (λ b. same_path q [] || b) (listed-both q t.nodes (symbols ∷ [])) ∙ or-or (same_path q []) (is_listed q t.nodes) (same_path q symbols || false)
        ∙ ap (λ b. is_there t q || (b || false)) (same-comm q symbols) ∙ or-comm (is_there t q) (same_path symbols q) where
          or-or : (a b c : Bool) → (a || (b || c)) ≡ ((a || b) || c)
          or-or true b c = refl
          or-or false b c = refl

    gone : same_path symbols q ≡ true → is_there t q ≡ false
    gone same = ap (is_there t) (sym (same-is symbols q same)) ∙ new

    names-grown : (if is_there grown q then Some (map (λ e. e.name) (held t.properties q)) else None)
        ≡ (if same_path symbols q then Some [] else (if is_there t q then Some (map (λ e. e.name) (held t.properties q)) else None))
    names-grown = ap (λ b. if b then Some (map (λ (e : Value). e.name) (held t.properties q)) else None) has-grown ∙ by_test (same_path symbols q) refl where
      by_test : (s : Bool) → same_path symbols q ≡ s → (if s || is_there t q then Some (map (λ (e : Value). e.name) (held t.properties q)) else None)
          ≡ (if s then Some [] else (if is_there t q then Some (map (λ (e : Value). e.name) (held t.properties q)) else None))
      by_test true same = ap Some (named-held t.properties q ∙ tidy.properties q (gone same))
      by_test false other = refl

    value-grown : (j : List ℕ) → (if is_there grown q then value_in t.properties q j else None) ≡ (if is_there t q then value_in t.properties q j else None)
    value-grown j = ap (λ b. if b then value_in t.properties q j else None) has-grown ∙ by_test (same_path symbols q) refl where
      by_test : (s : Bool) → same_path symbols q ≡ s → (if s || is_there t q then value_in t.properties q j else None) ≡ (if is_there t q then value_in t.properties q j else None)
      by_test true same = tidy-value t tidy q j (gone same) ∙ ap (λ b. if b then value_in t.properties q j else None) (sym (gone same))
      by_test false other = refl

    abbrev kids : List (List ℕ)
    kids = filter_map (name_below q) t.nodes

    kids-grown : filter_map (name_below q) grown.nodes ≡ (if same_path [] q then kids ++ symbols_name ∷ [] else kids)
    kids-grown = filter_map-append (name_below q) t.nodes (symbols ∷ []) ∙ ap (λ o. kids ++ cons_option o []) (below-root q) ∙ by_test (same_path [] q) where
      by_test : (b : Bool) → kids ++ cons_option (if b then Some symbols_name else None) [] ≡ (if b then kids ++ symbols_name ∷ [] else kids)
      by_test true = refl
      by_test false = append-nil kids

    children-grown : (if is_there grown q then Some (filter_map (name_below q) grown.nodes) else None)
        ≡ (if same_path symbols q then Some [] else (if same_path [] q then option_map (λ ns. ns ++ symbols_name ∷ []) (if is_there t q then Some kids else None) else (if is_there t q then Some kids else None)))
    children-grown = ap₂ (λ b ns. if b then Some ns else None) has-grown kids-grown ∙ by_test (same_path symbols q) refl (same_path [] q) refl (is_there t q) where
      by_test : (s : Bool) → same_path symbols q ≡ s → (b : Bool) → same_path [] q ≡ b → (h : Bool) → (if s || h then Some (if b then kids ++ symbols_name ∷ [] else kids) else None)
          ≡ (if s then Some [] else (if b then option_map (λ ns. ns ++ symbols_name ∷ []) (if h then Some kids else None) else (if h then Some kids else None)))
      by_test true same true root h = absurd (true≢false (sym root ∙ ap (same_path []) (sym (same-is symbols q same))))
      by_test true same false below h = ap Some (tidy.children q (gone same))
      by_test false other true root true = refl
      by_test false other true root false = refl
      by_test false other false below h = refl

  map-made : map_of made ≡ with_symbols_node (map_of t)
  map-made = by_test (is_listed symbols t.nodes) refl where
    by_test : (b : Bool) → is_listed symbols t.nodes ≡ b → map_of (record { nodes = if b then t.nodes else t.nodes ++ symbols ∷ []; properties = t.properties }) ≡ (if b then map_of t else with_child [] symbols_name (map_of t))
    by_test true there = refl
    by_test false new = λ i. record {
      has = λ q. has-grown new q i;
      properties = λ q. names-grown new q i;
      children = λ q. children-grown new q i;
      value = λ q j. value-grown new q j i;
    }

  there-made : is_there made symbols ≡ true
  there-made = has-made symbols ∙ ap (λ b. is_there t symbols || b) (same-itself symbols) ∙ or-true (is_there t symbols) where
    or-true : (a : Bool) → (a || true) ≡ true
    or-true true = refl
    or-true false = refl

-- ---- a property of it
module _ (t : Resolved) (tidy : IsTidy t) (there : is_there t symbols ≡ true) (n v : List ℕ) where
  abbrev given : Resolved
  given = record { nodes = t.nodes; properties = put symbols n v t.properties }

  known : (q : Path) → same_path symbols q ≡ true → is_there t q ≡ true
  known q same = ap (is_there t) (sym (same-is symbols q same)) ∙ there

  named-given : (q : Path) → named given.properties q ≡ (if same_path symbols q then with_name n (named t.properties q) else named t.properties q)
  named-given q = named-put q symbols n v t.properties ∙ ap (λ b. if b then with_name n (named t.properties q) else named t.properties q) (same-comm q symbols)

  tidy-given : IsTidy given
  tidy-given = record { properties = λ q gone. named-given q ∙ by_test q gone (same_path symbols q) refl; children = tidy.children } where
    by_test : (q : Path) → is_there t q ≡ false → (b : Bool) → same_path symbols q ≡ b → (if b then with_name n (named t.properties q) else named t.properties q) ≡ []
    by_test q gone true same = absurd (true≢false (sym (known q same) ∙ gone))
    by_test q gone false other = tidy.properties q gone

  names-patched_lists : (q : Path) → (if is_there t q then Some (map (λ e. e.name) (held given.properties q)) else None)
      ≡ (if same_path symbols q then option_map (with_name n) (if is_there t q then Some (map (λ e. e.name) (held t.properties q)) else None) else (if is_there t q then Some (map (λ e. e.name) (held t.properties q)) else None))
  names-patched_lists q =
      ap (λ ns. if is_there t q then Some ns else None) (named-held given.properties q ∙ named-given q)
      ∙ by_test (same_path symbols q) (is_there t q) (named t.properties q)
      ∙ ap (λ ns. if same_path symbols q then option_map (with_name n) (if is_there t q then Some ns else None) else (if is_there t q then Some ns else None)) (sym (named-held t.properties q)) where
        by_test : (s h : Bool) (ns : List (List ℕ)) → (if h then Some (if s then with_name n ns else ns) else None) ≡ (if s then option_map (with_name n) (if h then Some ns else None) else (if h then Some ns else None))
        by_test true true ns = refl
        by_test true false ns = refl
        by_test false h ns = refl

  value-patched_lists : (q : Path) (j : List ℕ) → (if is_there t q then value_in given.properties q j else None) ≡ (if same_path symbols q && bytes_eq n j then Some v else (if is_there t q then value_in t.properties q j else None))
  value-patched_lists q j =
      ap (λ o. if is_there t q then o else None) (value-put q symbols n v j t.properties ∙ ap₂ (λ a b. if a && b then Some v else value_in t.properties q j) (same-comm q symbols) (bytes_eq-comm j n))
      ∙ by_test (same_path symbols q) (is_there t q) (known q) (bytes_eq n j) where
        by_test : (s h : Bool) → (s ≡ true → h ≡ true) → (b : Bool) → (if h then (if s && b then Some v else value_in t.properties q j) else None) ≡ (if s && b then Some v else (if h then value_in t.properties q j else None))
        by_test true true e b = refl
        by_test true false e b = absurd (true≢false (sym (e refl)))
        by_test false h e b = refl

  map-given : map_of given ≡ with_property symbols n v (map_of t)
  map-given = λ i. record {
    has = λ q. is_there t q;
    properties = λ q. names-patched_lists q i;
    children = λ q. if is_there t q then Some (filter_map (name_below q) t.nodes) else None;
    value = λ q j. value-patched_lists q j i;
  }

-- ---- all of them
module _ (t : Resolved) (tidy : IsTidy t) (n : List ℕ) where
  map-symbol : (o : Option Path) → map_of (with_symbol_at o n t) ≡ with_symbol n o (map_of t)
  map-symbol None = refl
  map-symbol (Some p) =
      map-given (made t tidy) (tidy-made t tidy) (there-made t tidy) n (path_text p ++ 0 ∷ []) ∙ ap (with_property symbols n (path_text p ++ 0 ∷ [])) (map-made t tidy)

  tidy-symbol : (o : Option Path) → IsTidy (with_symbol_at o n t)
  tidy-symbol None = tidy
  tidy-symbol (Some p) = tidy-given (made t tidy) (tidy-made t tidy) (there-made t tidy) n (path_text p ++ 0 ∷ [])

pub map-symbols : (base over : Resolved) (es : List Value) (t : Resolved) → IsTidy t → map_of (with_symbols base over es t) ≡ union.with_symbols base over es (map_of t)
map-symbols base over [] t tidy = refl
map-symbols base over (e ∷ es) t tidy =
    let o = symbol_path base over (ended_path e.value) in
    map-symbols base over es (with_symbol_at o e.name t) (tidy-symbol t tidy e.name o) ∙ ap (union.with_symbols base over es) (map-symbol t tidy e.name o)
