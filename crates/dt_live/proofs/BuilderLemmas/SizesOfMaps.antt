-- Lists whose properties all stand in a tree are no longer together than the tree's.
use Rattle.std.proofs.Common.{◌≡◌, ℕ, zero, suc, ◌+◌, ◌≤◌, Bool, true, false, not, ◌&&◌, ◌||◌, List, [], ◌∷◌, ◌++◌, length, map, get_or, Option, Some, None, if◌then◌else◌, cond, refl, sym, ap, ap₂, ◌∙◌, arith}
use Rattle.std.specs.Prelude.{All}
use Rattle.std.specs.List.{list_any}
use Rattle.std.specs.Str.{bytes_eq}
use Rattle.std.proofs.lemmas.Bool.{and_parts, and_from}
use Rattle.std.proofs.lemmas.Slice.Eq.{bytes_eq-Decides}
use Rattle.dt_tree.specs.declared.property.Property.{Property}
use Rattle.dt_tree.specs.NodeData.{Siblings, none, more, NodeData}
use Rattle.dt_tree.specs.PathMap.{path_map}
use Rattle.dt_tree.specs.Sound.{is_among, are_distinct, IsSound}
use Rattle.dt_tree.proofs.SeenNames.{bytes_eq-comm}
use Rattle.dt_source.specs.TreeMeaning.Paths.{Path, same_path, is_listed}
use Rattle.dt_source.specs.TreeMeaning.Edits.{Definition, is_of}
use Rattle.dt_source.specs.TreeMeaning.References.{held}
use Rattle.dt_source.specs.TreeMeaning.Resolved.{Resolved}
use Rattle.dt_source.specs.TreeMeaning.MapOf.{is_there, value_in, map_of}
use Rattle.dt_live.specs.Builder.Lists.{defined_at, below_child, defined_among, lists_of}
use Rattle.dt_live.specs.Builder.Sizes.{size_in, size_of, size_among, size_below}
use Rattle.dt_live.proofs.BuilderLemmas.PathFacts.{bytes-itself, not-true, or-false, other-side, same-itself, same-is}
use Rattle.dt_live.proofs.BuilderLemmas.TreeLists.{map-lists}

pub size-append : (xs ys : List (Definition (List ℕ))) → size_in (xs ++ ys) ≡ size_in xs + size_in ys
size-append [] ys = omega arith
size-append (x ∷ xs) ys = omega (arith, size-append xs ys)

-- ---- one path and one name
same-comm : (p q : Path) → same_path p q ≡ same_path q p
same-comm p q = by_same (same_path p q) refl where
  by_same : (t : Bool) → same_path p q ≡ t → t ≡ same_path q p
  by_same true same = sym (ap (same_path q) (same-is p q same) ∙ same-itself q)
  by_same false same = sym (other-side p q same)

module _ {V : Type 0} where
  pub of-itself : (e : Definition V) → is_of e.path e.name e ≡ true
  of-itself e = and_from (same_path e.path e.path) (bytes_eq e.name e.name) (same-itself e.path) (bytes-itself e.name)

  pub of-comm : (d e : Definition V) → is_of d.path d.name e ≡ is_of e.path e.name d
  of-comm d e = ap₂ (λ a b. a && b) (same-comm d.path e.path) (bytes_eq-comm d.name e.name)

  pub of-is : (p : Path) (n : List ℕ) (e : Definition V) → is_of p n e ≡ true → (p ≡ e.path) × (n ≡ e.name)
  of-is p n e same =
      let parts = and_parts (same_path p e.path) (bytes_eq n e.name) same in (same-is p e.path parts.0, (bytes_eq-Decides n e.name).0 parts.1)

  -- no two have one path and one name
  abbrev pub are_once : List (Definition V) → Bool
  are_once [] = true
  are_once (e ∷ es) = not (list_any (is_of e.path e.name) es) && are_once es

  -- so it is where the names at each path differ
  among-held : (p : Path) (n : List ℕ) (es : List (Definition V)) → list_any (is_of p n) es ≡ is_among n (map (λ e. e.name) (held es p))
  among-held p n [] = refl
  among-held p n (e ∷ es) = by_test (same_path p e.path) (among-held p n es) where
    by_test : (t : Bool) → list_any (is_of p n) es ≡ is_among n (map (λ d. d.name) (held es p))
        → ((t && bytes_eq n e.name) || list_any (is_of p n) es) ≡ is_among n (map (λ d. d.name) (cond t (e ∷ held es p) (held es p)))
    by_test true ih = ap₂ (λ a b. a || b) (bytes_eq-comm n e.name) ih
    by_test false ih = ih

  pub once-by_names : (es : List (Definition V)) → ((p : Path) → are_distinct (map (λ e. e.name) (held es p)) ≡ true) → are_once es ≡ true
  once-by_names [] apart = refl
  once-by_names (e ∷ es) apart =
      let here : are_distinct (e.name ∷ map (λ d. d.name) (held es e.path)) ≡ true =
      ap (λ t. are_distinct (map (λ d. d.name) (cond t (e ∷ held es e.path) (held es e.path)))) (sym (same-itself e.path)) ∙ apart e.path in
      let parts = and_parts (not (is_among e.name (map (λ d. d.name) (held es e.path)))) (are_distinct (map (λ d. d.name) (held es e.path))) here in
      and_from (not (list_any (is_of e.path e.name) es)) (are_once es)
      (ap not (among-held e.path e.name es) ∙ parts.0)
      (once-by_names es (λ p. tail p (same_path p e.path) (apart p))) where
        tail : (p : Path) (t : Bool) → are_distinct (map (λ d. d.name) (cond t (e ∷ held es p) (held es p))) ≡ true → are_distinct (map (λ d. d.name) (held es p)) ≡ true
        tail p true d = (and_parts (not (is_among e.name (map (λ x. x.name) (held es p)))) (are_distinct (map (λ x. x.name) (held es p))) d).1
        tail p false d = d

  none-other : (e : Definition V) (es : List (Definition V)) → list_any (is_of e.path e.name) es ≡ false → All (λ d. is_of d.path d.name e ≡ false) es
  none-other e [] gone i x below = absurd (omega arith)
  none-other e (d ∷ ds) gone zero x below = of-comm d e ∙ (or-false (is_of e.path e.name d) (list_any (is_of e.path e.name) ds) gone).0
  none-other e (d ∷ ds) gone (suc i) x below =
      none-other e ds (or-false (is_of e.path e.name d) (list_any (is_of e.path e.name) ds) gone).1 i x (omega arith)

-- ---- the value of each
pub own-values : (es : List (Definition (List ℕ))) → are_once es ≡ true → All (λ e. value_in es e.path e.name ≡ Some e.value) es
own-values [] once i x below = absurd (omega arith)
own-values (e ∷ es) once zero x below = ap (λ t. if t then Some e.value else value_in es e.path e.name) (of-itself e)
own-values (e ∷ es) once (suc i) x below =
    let parts = and_parts (not (list_any (is_of e.path e.name) es)) (are_once es) once in
    let d = get_or es i x in
    ap (λ t. if t then Some e.value else value_in es d.path d.name) (none-other e es (not-true (list_any (is_of e.path e.name) es) parts.0) i x (omega arith))
    ∙ own-values es parts.1 i x (omega arith)

-- all but the first one at a path and a name
abbrev without_one : Path → List ℕ → List (Definition (List ℕ)) → List (Definition (List ℕ))
without_one p n [] = []
without_one p n (e ∷ es) = if is_of p n e then es else e ∷ without_one p n es

size-without : (p : Path) (n v : List ℕ) (es : List (Definition (List ℕ))) → value_in es p n ≡ Some v → size_in es ≡ length v + size_in (without_one p n es)
size-without p n v [] at = absurd (cc)
size-without p n v (e ∷ es) at = by_test e (is_of p n e) at (size-without p n v es) where
  by_test : (e : Definition (List ℕ)) (t : Bool) → (if t then Some e.value else value_in es p n) ≡ Some v → (value_in es p n ≡ Some v → size_in es ≡ length v + size_in (without_one p n es))
      → length e.value + size_in es ≡ length v + size_in (if t then es else e ∷ without_one p n es)
  by_test e true at ih = let same : e.value ≡ v = cc in ap (λ w. length w + size_in es) same
  by_test e false at ih = omega (arith, ih at)

-- another one is still found
value-without : (d : Definition (List ℕ)) (p : Path) (n : List ℕ) (es : List (Definition (List ℕ))) → is_of p n d ≡ false → value_in (without_one d.path d.name es) p n ≡ value_in es p n
value-without d p n [] other = refl
value-without d p n (e ∷ es) other = by_test e (is_of d.path d.name e) refl (value-without d p n es other) where
  by_test : (e : Definition (List ℕ)) (t : Bool) → is_of d.path d.name e ≡ t → value_in (without_one d.path d.name es) p n ≡ value_in es p n
      → value_in (if t then es else e ∷ without_one d.path d.name es) p n ≡ (if is_of p n e then Some e.value else value_in es p n)
  by_test e true same ih =
      let is = of-is d.path d.name e same in
      ap (λ t. if t then Some e.value else value_in es p n) (sym (ap₂ (λ q m. same_path p q && bytes_eq n m) (sym is.0) (sym is.1) ∙ other))
  by_test e false same ih = ap (λ o. if is_of p n e then Some e.value else o) ih

pub sizes-by_values : (as' bs : List (Definition (List ℕ))) → are_once as' ≡ true → All (λ e. value_in bs e.path e.name ≡ Some e.value) as' → size_in as' ≤ size_in bs
sizes-by_values [] bs once all = omega arith
sizes-by_values (e ∷ es) bs once all =
    let parts = and_parts (not (list_any (is_of e.path e.name) es)) (are_once es) once in
    let others = none-other e es (not-true (list_any (is_of e.path e.name) es) parts.0) in
    let size = size-without e.path e.name e.value bs (all 0 e (omega arith)) in
    let less = sizes-by_values es (without_one e.path e.name bs) parts.1
    (λ i x below. let d = get_or es i x in value-without e d.path d.name bs (others i x below) ∙ all (suc i) x (omega arith)) in
    omega (arith, size, less)

-- ---- two maps
found-there : (t : Bool) (o : Option (List ℕ)) (v : List ℕ) → (if t then o else None) ≡ Some v → o ≡ Some v
found-there true o v e = e
found-there false o v e = absurd (cc)

pub sizes-of-maps : (r s : Resolved) → map_of r ≡ map_of s → are_once r.properties ≡ true → All (λ e. is_listed e.path ([] ∷ r.nodes) ≡ true) r.properties → size_in r.properties ≤ size_in s.properties
sizes-of-maps r s same once there =
    sizes-by_values r.properties s.properties once
    (λ i x below.
    let d = get_or r.properties i x in
    found-there (is_there s d.path) (value_in s.properties d.path d.name) d.value
    (ap (λ m. m.value d.path d.name) (sym same) ∙ ap (λ t. if t then value_in r.properties d.path d.name else None) (there i x below) ∙ own-values r.properties once i x below))

-- a tree with the map of the lists
sizes-of-tree : (b : NodeData) (r : Resolved) → IsSound b → path_map b ≡ map_of r → are_once r.properties ≡ true → All (λ e. is_listed e.path ([] ∷ r.nodes) ≡ true) r.properties → size_in r.properties ≤ size_in (lists_of b).properties
sizes-of-tree b r sound same once there = sizes-of-maps r (lists_of b) (sym same ∙ map-lists b sound) once there

-- ---- how long a tree's values are
size-lower : (n : List ℕ) (es : List (Definition (List ℕ))) → size_in (map (below_child n) es) ≡ size_in es
size-lower n [] = refl
size-lower n (e ∷ es) = ap (λ k. length e.value + k) (size-lower n es)

size-own : (p : Path) (ps : List Property) → size_in (defined_at p ps) ≡ size_of ps
size-own p [] = refl
size-own p (x ∷ xs) = ap (λ k. length x.value + k) (size-own p xs)

size-below : (f : Siblings) → size_in (defined_among f) ≡ size_among f
size-below none = refl
size-below (more n p c rest) =
    omega (
      arith,
      size-append (map (below_child n) (defined_at [] p ++ defined_among c)) (defined_among rest),
      size-lower n (defined_at [] p ++ defined_among c),
      size-append (defined_at [] p) (defined_among c),
      size-own [] p,
      size-below c,
      size-below rest,
    )

pub size-of-lists : (b : NodeData) → size_in (lists_of b).properties ≡ size_below b
size-of-lists b = omega (arith, size-append (defined_at [] b.properties) (defined_among b.children), size-own [] b.properties, size-below b.children)

pub sizes-of-lists : (b : NodeData) (r : Resolved) → IsSound b → path_map b ≡ map_of r → are_once r.properties ≡ true → All (λ e. is_listed e.path ([] ∷ r.nodes) ≡ true) r.properties → size_in r.properties ≤ size_below b
sizes-of-lists b r sound same once there = omega (arith, sizes-of-tree b r sound same once there, size-of-lists b)
