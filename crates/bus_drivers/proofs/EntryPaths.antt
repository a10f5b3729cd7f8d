-- The paths along a walk, and the lists that are made of them.
use Rattle.std.proofs.Common.{◌≡◌, ℕ, Bool, true, false, not, ◌&&◌, ◌==◌, if◌then◌else◌, List, [], ◌∷◌, ◌++◌, length, map, filter, append_assoc, refl, ap, sym, ◌∙◌, arith}
use Rattle.std.specs.Option.{option_map}
use Rattle.std.specs.List.{find}
use Rattle.std.proofs.lemmas.List.{map-append, map_push}
use Rattle.std.proofs.lemmas.List.Elements.{filter-append}
use Rattle.std.proofs.lemmas.Bool.Decides.{nat_tests}
use Rattle.dt_tree.specs.declared.property.Property.{Property}
use Rattle.dt_tree.specs.NodeData.{Siblings, none, more}
use Rattle.dt_tree.specs.Phandle.{is_reserved, is_reserved_name}
use Rattle.dt_tree.specs.Private.PhandleWalk.{unreserved}
use Rattle.dt_tree.specs.Preorder.{paths_among}
use Rattle.bus_drivers.specs.Nodes.{node_paths_down}
use Rattle.bus_drivers.specs.Private.Entries.{own_properties}

abbrev pub NodePath : Type 0
NodePath = List (List ℕ)

-- ---- lists
pub map_same : {A B : Type 0} (f g : A → B) → ((x : A) → f x ≡ g x) → (xs : List A) → map f xs ≡ map g xs
map_same f g same [] = refl
map_same f g same (x ∷ xs) = λ i. same x i ∷ map_same f g same xs i

pub map_map : {A B C : Type 0} (g : B → C) (f : A → B) (xs : List A) → map g (map f xs) ≡ map (λ x. g (f x)) xs
map_map g f [] = refl
map_map g f (x ∷ xs) = ap (λ ys. g (f x) ∷ ys) (map_map g f xs)

pub filter_map : {A B : Type 0} (test : B → Bool) (f : A → B) (xs : List A) → filter test (map f xs) ≡ map f (filter (λ x. test (f x)) xs)
filter_map test f [] = refl
filter_map {A = A} test f (x ∷ xs) = at_head (test (f x)) refl (filter_map test f xs) where
  at_head : (t : Bool) → test (f x) ≡ t → filter test (map f xs) ≡ map f (filter (λ (y : A). test (f y)) xs) → filter test (map f (x ∷ xs)) ≡ map f (filter (λ (y : A). test (f y)) (x ∷ xs))
  at_head true e ih = rw e (ap (λ ys. f x ∷ ys) ih)
  at_head false e ih = rw e ih

pub filter_first : {A : Type 0} (test : A → Bool) (x : A) (xs : List A) → filter test (x ∷ xs) ≡ (if test x then x ∷ [] else []) ++ filter test xs
filter_first test x xs = at_head (test x) refl where
  at_head : (t : Bool) → test x ≡ t → filter test (x ∷ xs) ≡ (if test x then x ∷ [] else []) ++ filter test xs
  at_head true e = rw e refl
  at_head false e = rw e refl

-- one test after another is both
pub filter_both : {A : Type 0} (test kept both : A → Bool) → ((x : A) → both x ≡ (kept x && test x)) → (xs : List A) → filter test (filter kept xs) ≡ filter both xs
filter_both test kept both same [] = refl
filter_both test kept both same (x ∷ xs) = at_head (kept x) refl (test x) refl (filter_both test kept both same xs) where
  at_head : (t : Bool) → kept x ≡ t → (u : Bool) → test x ≡ u → filter test (filter kept xs) ≡ filter both xs → filter test (filter kept (x ∷ xs)) ≡ filter both (x ∷ xs)
  at_head true e true f ih = let both_is : both x ≡ true = same x ∙ rw (e, f) refl in rw (e, f, both_is) (ap (λ ys. x ∷ ys) ih)
  at_head true e false f ih = let both_is : both x ≡ false = same x ∙ rw (e, f) refl in rw (e, f, both_is) ih
  at_head false e u f ih = let both_is : both x ≡ false = same x ∙ rw e refl in rw (e, both_is) ih

pub find_filter : {A : Type 0} (test kept both : A → Bool) → ((x : A) → both x ≡ (kept x && test x)) → (xs : List A) → find test (filter kept xs) ≡ find both xs
find_filter test kept both same [] = refl
find_filter test kept both same (x ∷ xs) = at_head (kept x) refl (test x) refl (find_filter test kept both same xs) where
  at_head : (t : Bool) → kept x ≡ t → (u : Bool) → test x ≡ u → find test (filter kept xs) ≡ find both xs → find test (filter kept (x ∷ xs)) ≡ find both (x ∷ xs)
  at_head true e true f ih = let both_is : both x ≡ true = same x ∙ rw (e, f) refl in rw (e, f, both_is) refl
  at_head true e false f ih = let both_is : both x ≡ false = same x ∙ rw (e, f) refl in rw (e, f, both_is) ih
  at_head false e u f ih = let both_is : both x ≡ false = same x ∙ rw e refl in rw (e, both_is) ih

pub find_map : {A B : Type 0} (test : B → Bool) (f : A → B) (xs : List A) → find test (map f xs) ≡ option_map f (find (λ x. test (f x)) xs)
find_map test f [] = refl
find_map {A = A} test f (x ∷ xs) = at_head (test (f x)) refl (find_map test f xs) where
  at_head : (t : Bool) → test (f x) ≡ t → find test (map f xs) ≡ option_map f (find (λ (y : A). test (f y)) xs) → find test (map f (x ∷ xs)) ≡ option_map f (find (λ (y : A). test (f y)) (x ∷ xs))
  at_head true e ih = rw e refl
  at_head false e ih = rw e ih

-- ---- the paths below a path
-- the paths of nodes side by side and of those below them
abbrev pub node_paths_from : NodePath → Siblings → List NodePath
node_paths_from node_path none = []
node_paths_from node_path (more n p c rest) = (node_path ++ n ∷ []) ∷ (node_paths_from (node_path ++ n ∷ []) c ++ node_paths_from node_path rest)

deeper : (node_path : NodePath) (n : List ℕ) (qs : List NodePath) → map (λ (q : NodePath). node_path ++ q) (map (λ (q : NodePath). n ∷ q) qs) ≡ map (λ (q : NodePath). (node_path ++ n ∷ []) ++ q) qs
deeper node_path n [] = refl
deeper node_path n (q ∷ qs) = λ i. sym (append_assoc node_path (n ∷ []) q) i ∷ deeper node_path n qs i

pub node_paths_from-paths : (f : Siblings) (node_path : NodePath) → node_paths_from node_path f ≡ map (λ (q : NodePath). node_path ++ q) (paths_among f)
node_paths_from-paths none node_path = refl
node_paths_from-paths (more n p c rest) node_path =
    let on : NodePath → NodePath = λ q. node_path ++ q in
    let below : node_paths_from (node_path ++ n ∷ []) c ≡ map on (map (λ (q : NodePath). n ∷ q) (paths_among c)) = node_paths_from-paths c (node_path ++ n ∷ []) ∙ sym (deeper node_path n (paths_among c)) in
    ap (λ (ws : List NodePath). (node_path ++ n ∷ []) ∷ (ws ++ node_paths_from node_path rest)) below
    ∙ ap (λ (ws : List NodePath). (node_path ++ n ∷ []) ∷ (map on (map (λ (q : NodePath). n ∷ q) (paths_among c)) ++ ws)) (node_paths_from-paths rest node_path)
    ∙ ap (λ (ws : List NodePath). (node_path ++ n ∷ []) ∷ ws) (sym (map-append on (map (λ (q : NodePath). n ∷ q) (paths_among c)) (paths_among rest)))

same_node_paths : (qs : List NodePath) → map (λ (q : NodePath). [] ++ q) qs ≡ qs
same_node_paths [] = refl
same_node_paths (q ∷ qs) = ap (λ (ws : List NodePath). q ∷ ws) (same_node_paths qs)

pub node_paths_from-root : (f : Siblings) → node_paths_from [] f ≡ paths_among f
node_paths_from-root f = node_paths_from-paths f [] ∙ same_node_paths (paths_among f)

-- ---- reserved nodes
abbrev pub is_free : NodePath → Bool
is_free node_path = not (is_reserved node_path)

free_below : (n : List ℕ) (t : Bool) → is_reserved_name n ≡ t → (qs : List NodePath) → filter is_free (map (λ (q : NodePath). n ∷ q) qs) ≡ (if t then [] else map (λ (q : NodePath). n ∷ q) qs)
free_below n true e [] = refl
free_below n false e [] = refl
free_below n true e (q ∷ qs) = rw e (free_below n true e qs)
free_below n false e (q ∷ qs) = rw e (ap (λ (ws : List NodePath). (n ∷ q) ∷ ws) (free_below n false e qs))

pub free_paths : (f : Siblings) → filter is_free (paths_among f) ≡ paths_among (unreserved f)
free_paths none = refl
free_paths (more n p c rest) =
    let first : List NodePath = map (λ (q : NodePath). n ∷ q) ([] ∷ paths_among c) in
    filter-append is_free first (paths_among rest)
    ∙ ap (λ (ws : List NodePath). ws ++ filter is_free (paths_among rest)) (free_below n (is_reserved_name n) refl ([] ∷ paths_among c))
    ∙ ap (λ (ws : List NodePath). (if is_reserved_name n then [] else first) ++ ws) (free_paths rest)
    ∙ together (is_reserved_name n) refl where
      together : (t : Bool) → is_reserved_name n ≡ t → (if is_reserved_name n then [] else map (λ (q : NodePath). n ∷ q) ([] ∷ paths_among c)) ++ paths_among (unreserved rest) ≡ paths_among (unreserved (more n p c rest))
      together true e = rw e refl
      together false e = rw e refl

pub reserved_below : (node_path : NodePath) (n : List ℕ) (q : NodePath) → is_reserved ((node_path ++ n ∷ []) ++ q) ≡ is_reserved (node_path ++ n ∷ [])
reserved_below [] n q = refl
reserved_below (m ∷ ms) n q = refl

pub not_root : (node_path : NodePath) (n : List ℕ) → (length (node_path ++ n ∷ []) == 0) ≡ false
not_root [] n = refl
not_root (m ∷ ms) n = grind (arith, nat_tests)

-- ---- the paths down
pub node_paths_down-push : (node_path : NodePath) (n : List ℕ) → node_paths_down (node_path ++ n ∷ []) ≡ node_paths_down node_path ++ (node_path ++ n ∷ []) ∷ []
node_paths_down-push [] n = refl
node_paths_down-push (m ∷ ms) n =
    ap (λ (ws : List NodePath). [] ∷ map (λ (q : NodePath). m ∷ q) ws) (node_paths_down-push ms n)
    ∙ ap (λ (ws : List NodePath). [] ∷ ws) (map_push (λ (q : NodePath). m ∷ q) (node_paths_down ms) (ms ++ n ∷ []))

own_more : (p : List Property) (g : NodePath → List Property) (ns : NodePath) → own_properties (p ∷ map g (node_paths_down ns)) ≡ own_properties (map g (node_paths_down ns))
own_more p g [] = refl
own_more p g (n ∷ ns) = refl

-- a node's own properties are the last of the paths down
pub own_last : (ns : NodePath) (g : NodePath → List Property) → own_properties (map g (node_paths_down ns)) ≡ g ns
own_last [] g = refl
own_last (n ∷ ns) g =
    ap (λ (ps : List (List Property)). own_properties (g [] ∷ ps)) (map_map g (λ (q : NodePath). n ∷ q) (node_paths_down ns))
    ∙ own_more (g []) (λ (q : NodePath). g (n ∷ q)) ns
    ∙ own_last ns (λ (q : NodePath). g (n ∷ q))
