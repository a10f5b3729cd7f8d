-- The symbols' values stand in the result, so that it is no shorter than they are.
use Rattle.std.proofs.Common.{◌≡◌, ℕ, zero, suc, ◌+◌, ◌≤◌, Bool, true, false, not, ◌&&◌, ◌||◌, List, [], ◌∷◌, ◌++◌, map, Option, Some, None, Ok, if◌then◌else◌, cond, refl, sym, ap, ap₂, ◌∙◌, true≢false, arith}
use Rattle.std.specs.Prelude.{All}
use Rattle.std.specs.List.{filter, flat_map, list_all, list_any}
use Rattle.std.specs.Str.{bytes_eq}
use Rattle.std.proofs.lemmas.Bool.{and_parts, and_from}
use Rattle.dt_tree.specs.NodeData.{NodeData}
use Rattle.dt_tree.specs.PathMap.{path_map}
use Rattle.dt_tree.specs.Sound.{IsSound, is_among, are_distinct}
use Rattle.dt_tree.proofs.SeenNames.{bytes_eq-comm}
use Rattle.dt_source.specs.TreeMeaning.Paths.{Path, same_path, is_listed}
use Rattle.dt_source.specs.TreeMeaning.Names.{symbols_name}
use Rattle.dt_source.specs.TreeMeaning.Edits.{definition, is_of, put}
use Rattle.dt_source.specs.TreeMeaning.Resolved.{Resolved}
use Rattle.dt_source.specs.TreeMeaning.MapOf.{map_of, value_in}
use Rattle.dt_live.proofs.BuilderLemmas.PathFacts.{not-true, or-false, same-itself, same-is}
use Rattle.dt_live.specs.declared.live_tree.LiveTree.{LiveTree}
use Rattle.dt_live.specs.declared.live_tree.PropertyRow.{PropertyRow}
use Rattle.dt_live.specs.Rows.{path_of}
use Rattle.dt_live.specs.Builder.Sizes.{size_below, size_in}
use Rattle.dt_live.proofs.BuilderLemmas.SizesOfMaps.{are_once, of-comm, of-is, of-itself, once-by_names, sizes-by_values, sizes-of-lists}
use Rattle.dt_live.specs.ByRow.{defined_by}
use Rattle.dt_live.specs.Flattened.{IsWhole, Lent, lists}
use Rattle.dt_live.proofs.WholeTrees.{all-entries}
use Rattle.dt_overlay.specs.declared.fixup.patched_overlay.PatchedOverlay.{PatchedOverlay}
use Rattle.dt_overlay.specs.Fixup.PatchedData.{IsPatched}
use Rattle.dt_overlay.specs.Fixup.PatchedOverlay.{patched_lists, patched_from, value_at}
use Rattle.dt_source.specs.OverlayMeaning.Applied.{symbol_path, with_fragment, with_node}
use Rattle.dt_source.specs.OverlayMeaning.Shifted.{Value, fragments}
use Rattle.dt_tree.specs.Steps.{fold}
use Rattle.dt_source.specs.OverlayMeaning.Texts.{ended_path}
use Rattle.dt_overlay.specs.Private.Symbols.{applied_over, symbol_at, symbols_of, with_all, with_symbol}
use Rattle.dt_overlay.proofs.ApplySteps.{applied-is}
use Rattle.dt_overlay.proofs.MakingApart.{own-apart}
use Rattle.dt_overlay.proofs.Sizes.{live-there}

abbrev S : Path
S = symbols_name ∷ []

-- ---- one value put
put-value : (p : Path) (n v : List ℕ) (es : List Value) → value_in (put p n v es) p n ≡ Some v
put-value p n v [] = ap (λ t. if t then Some v else None) (of-itself (definition p n v))
put-value p n v (e ∷ es) = by_test (is_of p n e) refl (put-value p n v es) where
  by_test : (t : Bool) → is_of p n e ≡ t → value_in (put p n v es) p n ≡ Some v → value_in (if t then definition p n v ∷ es else e ∷ put p n v es) p n ≡ Some v
  by_test true is ih = ap (λ t. if t then Some v else value_in es p n) (of-itself (definition p n v))
  by_test false is ih = ap (λ t. if t then Some e.value else value_in (put p n v es) p n) is ∙ ih

module _ (q : Path) (m v : List ℕ) (p : Path) (n : List ℕ) (other : is_of p n (definition q m v) ≡ false) where
  put-other : (es : List Value) → value_in (put q m v es) p n ≡ value_in es p n
  put-other [] = ap (λ t. if t then Some v else None) other
  put-other (e ∷ es) = by_test (is_of q m e) refl (put-other es) where
    by_test : (t : Bool) → is_of q m e ≡ t → value_in (put q m v es) p n ≡ value_in es p n
        → value_in (if t then definition q m v ∷ es else e ∷ put q m v es) p n ≡ (if is_of p n e then Some e.value else value_in es p n)
    by_test true is ih =
        let same = of-is q m e is in
        ap (λ t. if t then Some v else value_in es p n) other
        ∙ sym (ap (λ t. if t then Some e.value else value_in es p n) (ap₂ (λ a b. same_path p a && bytes_eq n b) (sym same.0) (sym same.1) ∙ other))
    by_test false is ih = ap (λ o. if is_of p n e then Some e.value else o) ih

  put-none : (es : List Value) → list_any (is_of p n) es ≡ false → list_any (is_of p n) (put q m v es) ≡ false
  put-none [] none = ap (λ t. t || false) other
  put-none (e ∷ es) none =
      let parts = or-false (is_of p n e) (list_any (is_of p n) es) none in
      by_test (is_of q m e) (put-none es parts.1) parts.0 parts.1 where
        by_test : (t : Bool) → list_any (is_of p n) (put q m v es) ≡ false → is_of p n e ≡ false → list_any (is_of p n) es ≡ false
            → list_any (is_of p n) (if t then definition q m v ∷ es else e ∷ put q m v es) ≡ false
        by_test true ih a b = ap₂ (λ s t. s || t) other b
        by_test false ih a b = ap₂ (λ s t. s || t) a ih

put-once : (p : Path) (n v : List ℕ) (es : List Value) → are_once es ≡ true → are_once (put p n v es) ≡ true
put-once p n v [] once = refl
put-once p n v (e ∷ es) once =
    let parts = and_parts (not (list_any (is_of e.path e.name) es)) (are_once es) once in
    by_test (is_of p n e) refl (put-once p n v es parts.1) (not-true (list_any (is_of e.path e.name) es) parts.0) parts.1 where
      by_test : (t : Bool) → is_of p n e ≡ t → are_once (put p n v es) ≡ true → list_any (is_of e.path e.name) es ≡ false → are_once es ≡ true
          → are_once (if t then definition p n v ∷ es else e ∷ put p n v es) ≡ true
      by_test true is ih none others =
          let same = of-is p n e is in
          and_from (not (list_any (is_of p n) es)) (are_once es) (ap not (ap₂ (λ a b. list_any (is_of a b) es) same.0 same.1 ∙ none)) others
      by_test false is ih none others =
          and_from (not (list_any (is_of e.path e.name) (put p n v es))) (are_once (put p n v es))
          (ap not (put-none p n v e.path e.name (of-comm e (definition p n v) ∙ is) es none)) ih

-- ---- all stand at nodes
listed-more : (p q : Path) (ps : List Path) → is_listed p ps ≡ true → is_listed p (with_node q ps) ≡ true
listed-more p q ps is = by_test (is_listed q ps) where
  behind : (xs : List Path) → is_listed p xs ≡ true → is_listed p (xs ++ q ∷ []) ≡ true
  behind [] e = absurd (true≢false (sym e))
  behind (x ∷ xs) e = by_first (same_path p x) e (behind xs) where
    by_first : (t : Bool) → (t || is_listed p xs) ≡ true → (is_listed p xs ≡ true → is_listed p (xs ++ q ∷ []) ≡ true) → (t || is_listed p (xs ++ q ∷ [])) ≡ true
    by_first true e ih = refl
    by_first false e ih = ih e

  by_test : (t : Bool) → is_listed p (if t then ps else ps ++ q ∷ []) ≡ true
  by_test true = is
  by_test false = behind ps is

listed-new : (q : Path) (ps : List Path) → is_listed q (with_node q ps) ≡ true
listed-new q ps = by_test (is_listed q ps) refl where
  last : (xs : List Path) → is_listed q (xs ++ q ∷ []) ≡ true
  last [] = ap (λ t. t || false) (same-itself q)
  last (x ∷ xs) = by_first (same_path q x) (last xs) where
    by_first : (t : Bool) → is_listed q (xs ++ q ∷ []) ≡ true → (t || is_listed q (xs ++ q ∷ [])) ≡ true
    by_first true ih = refl
    by_first false ih = ih

  by_test : (t : Bool) → is_listed q ps ≡ t → is_listed q (if t then ps else ps ++ q ∷ []) ≡ true
  by_test true is = is
  by_test false is = last ps

abbrev are_there : List Path → List Value → Bool
are_there ps es = list_all (λ e. is_listed e.path ps) es

there-more : (ps qs : List Path) → ((p : Path) → is_listed p ps ≡ true → is_listed p qs ≡ true) → (es : List Value) → are_there ps es ≡ true → are_there qs es ≡ true
there-more ps qs more [] there = refl
there-more ps qs more (e ∷ es) there =
    let parts = and_parts (is_listed e.path ps) (are_there ps es) there in
    and_from (is_listed e.path qs) (are_there qs es) (more e.path parts.0) (there-more ps qs more es parts.1)

put-there : (ps : List Path) (p : Path) (n v : List ℕ) (es : List Value) → is_listed p ps ≡ true → are_there ps es ≡ true → are_there ps (put p n v es) ≡ true
put-there ps p n v [] is there = and_from (is_listed p ps) true is refl
put-there ps p n v (e ∷ es) is there =
    let parts = and_parts (is_listed e.path ps) (are_there ps es) there in
    by_test (is_of p n e) parts.0 parts.1 (put-there ps p n v es is parts.1) where
      by_test : (t : Bool) → is_listed e.path ps ≡ true → are_there ps es ≡ true → are_there ps (put p n v es) ≡ true → are_there ps (if t then definition p n v ∷ es else e ∷ put p n v es) ≡ true
      by_test true first rest ih = and_from (is_listed p ps) (are_there ps es) is rest
      by_test false first rest ih = and_from (is_listed e.path ps) (are_there ps (put p n v es)) first ih

or-more : (t a b : Bool) → (a ≡ true → b ≡ true) → (t || a) ≡ true → (t || b) ≡ true
or-more true a b f e = refl
or-more false a b f e = f e

or-behind : (t b : Bool) → b ≡ true → (t || b) ≡ true
or-behind true b e = refl
or-behind false b e = e

symbol-there : (e : Value) (t : Resolved) → are_there ([] ∷ t.nodes) t.properties ≡ true → are_there ([] ∷ (with_symbol e t).nodes) (with_symbol e t).properties ≡ true
symbol-there e t there =
    let nodes = with_node S t.nodes in
    put-there ([] ∷ nodes) S e.name e.value t.properties
    (or-behind (same_path S []) (is_listed S nodes) (listed-new S t.nodes))
    (there-more ([] ∷ t.nodes) ([] ∷ nodes) (λ p. or-more (same_path p []) (is_listed p t.nodes) (is_listed p nodes) (listed-more p S t.nodes)) t.properties there)

all-there : (es : List Value) (t : Resolved) → are_there ([] ∷ t.nodes) t.properties ≡ true → are_there ([] ∷ (with_all es t).nodes) (with_all es t).properties ≡ true
all-there [] t there = there
all-there (e ∷ es) t there = all-there es (with_symbol e t) (symbol-there e t there)

all-once : (es : List Value) (t : Resolved) → are_once t.properties ≡ true → are_once (with_all es t).properties ≡ true
all-once [] t once = once
all-once (e ∷ es) t once = all-once es (with_symbol e t) (put-once S e.name e.value t.properties once)

each-there : (ps : List Path) (es : List Value) → are_there ps es ≡ true → All (λ e. is_listed e.path ps ≡ true) es
each-there ps [] there i x below = absurd (omega arith)
each-there ps (e ∷ es) there zero x below = (and_parts (is_listed e.path ps) (are_there ps es) there).0
each-there ps (e ∷ es) there (suc i) x below = each-there ps es (and_parts (is_listed e.path ps) (are_there ps es) there).1 i x (omega arith)

there-each : (ps : List Path) (es : List Value) → All (λ e. is_listed e.path ps ≡ true) es → are_there ps es ≡ true
there-each ps [] all = refl
there-each ps (e ∷ es) all = and_from (is_listed e.path ps) (are_there ps es) (all 0 e (omega arith)) (there-each ps es (λ i x below. all (suc i) x (omega arith)))

-- ---- symbols of different names
abbrev are_symbols : List Value → Bool
are_symbols es = list_all (λ e. same_path S e.path) es

kept : (n : List ℕ) (es : List Value) (t : Resolved) → list_any (is_of S n) es ≡ false → are_symbols es ≡ true → value_in (with_all es t).properties S n ≡ value_in t.properties S n
kept n [] t none at = refl
kept n (e ∷ es) t none at =
    let parts = or-false (is_of S n e) (list_any (is_of S n) es) none in
    let ats = and_parts (same_path S e.path) (are_symbols es) at in
    let other : is_of S n (definition S e.name e.value) ≡ false = ap (λ b. b && bytes_eq n e.name) (same-itself S ∙ sym ats.0) ∙ parts.0 in
    kept n es (with_symbol e t) parts.1 ats.1 ∙ put-other S e.name e.value S n other t.properties

found : (es : List Value) (t : Resolved) → are_once es ≡ true → are_symbols es ≡ true → All (λ e. value_in (with_all es t).properties e.path e.name ≡ Some e.value) es
found [] t once at i x below = absurd (omega arith)
found (e ∷ es) t once at zero x below =
    let parts = and_parts (not (list_any (is_of e.path e.name) es)) (are_once es) once in
    let ats = and_parts (same_path S e.path) (are_symbols es) at in
    let same : S ≡ e.path = same-is S e.path ats.0 in
    let none : list_any (is_of S e.name) es ≡ false = ap (λ p. list_any (is_of p e.name) es) same ∙ not-true (list_any (is_of e.path e.name) es) parts.0 in
    ap (λ p. value_in (with_all es (with_symbol e t)).properties p e.name) (sym same) ∙ kept e.name es (with_symbol e t) none ats.1 ∙ put-value S e.name e.value t.properties
found (e ∷ es) t once at (suc i) x below =
    found es (with_symbol e t) (and_parts (not (list_any (is_of e.path e.name) es)) (are_once es) once).1 (and_parts (same_path S e.path) (are_symbols es) at).1 i x (omega arith)

pub symbols-within : (es : List Value) (t : Resolved) → are_once es ≡ true → are_symbols es ≡ true → size_in es ≤ size_in (with_all es t).properties
symbols-within es t once at = sizes-by_values es (with_all es t).properties once (found es t once at)

-- ---- the symbols of an overlay
module _ (g : Value → Option Path) where
  abbrev made : List Value → List Value
  made xs = flat_map (λ e. symbol_at e.name (g e)) xs

  made-symbols : (xs : List Value) → are_symbols (made xs) ≡ true
  made-symbols [] = refl
  made-symbols (e ∷ es) = by_path (g e) (made-symbols es) where
    by_path : (o : Option Path) → are_symbols (made es) ≡ true → are_symbols (symbol_at e.name o ++ made es) ≡ true
    by_path None ih = ih
    by_path (Some p) ih = and_from (same_path S S) (are_symbols (made es)) (same-itself S) ih

  made-none : (n : List ℕ) (xs : List Value) → is_among n (map (λ e. e.name) xs) ≡ false → list_any (is_of S n) (made xs) ≡ false
  made-none n [] none = refl
  made-none n (e ∷ es) none =
      let parts = or-false (bytes_eq e.name n) (is_among n (map (λ x. x.name) es)) none in
      by_path (g e) parts.0 (made-none n es parts.1) where
        by_path : (o : Option Path) → bytes_eq e.name n ≡ false → list_any (is_of S n) (made es) ≡ false → list_any (is_of S n) (symbol_at e.name o ++ made es) ≡ false
        by_path None other ih = ih
        by_path (Some p) other ih = ap₂ (λ s t. s || t) (ap₂ (λ a b. a && b) (same-itself S) (bytes_eq-comm n e.name ∙ other)) ih

  made-once : (xs : List Value) → are_distinct (map (λ e. e.name) xs) ≡ true → are_once (made xs) ≡ true
  made-once [] apart = refl
  made-once (e ∷ es) apart =
      let parts = and_parts (not (is_among e.name (map (λ x. x.name) es))) (are_distinct (map (λ x. x.name) es)) apart in
      by_path (g e) (made-once es parts.1) (made-none e.name es (not-true (is_among e.name (map (λ x. x.name) es)) parts.0)) where
        by_path : (o : Option Path) → are_once (made es) ≡ true → list_any (is_of S e.name) (made es) ≡ false → are_once (symbol_at e.name o ++ made es) ≡ true
        by_path None ih none = ih
        by_path (Some p) ih none = and_from (not (list_any (is_of S e.name) (made es))) (are_once (made es)) (ap not none) ih

-- names in a patched overlay are those of its live tree
module _ (d : LiveTree Lent) (value : ℕ → List ℕ) where
  abbrev own_of : List Value → List Value
  own_of es = filter (λ e. same_path S e.path) es

  names-patched_lists : (k : ℕ) (rs : List (PropertyRow Lent)) → map (λ e. e.name) (own_of (patched_from (path_of d.nodes.items) value k rs)) ≡ map (λ e. e.name) (own_of (map (defined_by d) rs))
  names-patched_lists k [] = refl
  names-patched_lists k (r ∷ rs) = by_test (same_path S (path_of d.nodes.items r.node)) (names-patched_lists (k + 1) rs) where
    by_test : (t : Bool) → map (λ e. e.name) (own_of (patched_from (path_of d.nodes.items) value (k + 1) rs)) ≡ map (λ e. e.name) (own_of (map (defined_by d) rs))
        → map (λ e. e.name) (cond t (definition (path_of d.nodes.items r.node) r.name.now (value k) ∷ own_of (patched_from (path_of d.nodes.items) value (k + 1) rs)) (own_of (patched_from (path_of d.nodes.items) value (k + 1) rs)))
        ≡ map (λ e. e.name) (cond t (defined_by d r ∷ own_of (map (defined_by d) rs)) (own_of (map (defined_by d) rs)))
    by_test true ih = ap (λ ns. r.name.now ∷ ns) ih
    by_test false ih = ih

pub patched-apart : (s : PatchedOverlay) → IsPatched s → are_distinct (map (λ e. e.name) (filter (λ e. same_path S e.path) (patched_lists s).properties)) ≡ true
patched-apart s is =
    let d = s.live in
    let w = is.whole in
    ap are_distinct (names-patched_lists d (value_at s) 0 d.properties.items ∙ ap (λ es. map (λ e. e.name) (filter (λ e. same_path S e.path) es)) (sym (all-entries d w.sound w.stand w.valued)))
    ∙ own-apart d w S

-- ---- the base's rows with the fragments merged
-- nothing is refused, and the result is no shorter than its symbols' values, nor is a tree with its map
pub record HasSymbols (base over : Resolved) : Type 0 where
  pub lists : Resolved
  pub result : applied_over base over ≡ Ok lists
  pub symbols : size_in (symbols_of base over) ≤ size_in lists.properties
  pub trees : (b : NodeData) → IsSound b → path_map b ≡ map_of lists → size_in lists.properties ≤ size_below b

pub has-symbols : (base : Resolved) (s : PatchedOverlay) → IsPatched s → (d : LiveTree Lent) → IsWhole d → fold (with_fragment base (patched_lists s)) (fragments (patched_lists s)) base ≡ Ok (lists d) → HasSymbols base (patched_lists s)
has-symbols base s is d w folded =
    let o = patched_lists s in
    let es = symbols_of base o in
    let r = with_all es (lists d) in
    let path : Value → Option Path = λ e. symbol_path base o (ended_path e.value) in
    let given = filter (λ e. same_path S e.path) o.properties in
    let once : are_once r.properties ≡ true = all-once es (lists d) (once-by_names (lists d).properties (own-apart d w)) in
    let there = each-there ([] ∷ r.nodes) r.properties (all-there es (lists d) (there-each ([] ∷ (lists d).nodes) (lists d).properties (live-there d w))) in
    record {
      lists = r;
      result = applied-is base o (lists d) r es folded refl refl;
      symbols = symbols-within es (lists d) (made-once path given (patched-apart s is)) (made-symbols path given);
      trees = λ b sound same. sizes-of-lists b r sound same once there;
    }
