-- The lists of a tree say what its path map says.
use Rattle.std.proofs.Common.{◌≡◌, ℕ, Bool, true, false, ◌&&◌, List, [], ◌∷◌, ◌++◌, map, Option, Some, None, is_some, option_and_then, if◌then◌else◌, cond, refl, sym, ap, ap₂, ◌∙◌, append-nil, true≢false}
use Rattle.std.specs.List.{filter_map, flat_map, cons_option}
use Rattle.std.specs.Option.{option_map}
use Rattle.std.specs.Str.{bytes_eq}
use Rattle.std.proofs.lemmas.List.{map-append}
use Rattle.std.proofs.lemmas.List.Concat.{flat_map-append}
use Rattle.std.proofs.lemmas.List.Elements.{filter_map-append}
use Rattle.std.proofs.lemmas.Slice.Eq.{bytes_eq-Decides}
use Rattle.dt_tree.specs.declared.property.Property.{Property}
use Rattle.dt_tree.specs.NodeData.{Siblings, none, more, NodeData, node_data, child_names, property_names}
use Rattle.dt_tree.specs.PathMap.{child_named, node_at, value_of, path_map}
use Rattle.dt_tree.specs.Preorder.{paths_among}
use Rattle.dt_tree.specs.Sound.{is_among, are_distinct, IsSoundBelow, IsSound}
use Rattle.dt_tree.proofs.Places.{IsSoundInside, inside, child-among, distinct_head, distinct_tail}
use Rattle.dt_tree.proofs.SeenNames.{bytes_eq-comm}
use Rattle.dt_source.specs.TreeMeaning.Paths.{Path, same_path, is_listed, name_below}
use Rattle.dt_source.specs.TreeMeaning.Edits.{Definition}
use Rattle.dt_source.specs.TreeMeaning.References.{held}
use Rattle.dt_source.specs.TreeMeaning.Resolved.{Resolved}
use Rattle.dt_source.specs.TreeMeaning.MapOf.{is_there, value_in, map_of}
use Rattle.dt_live.specs.Builder.Lists.{defined_at, below_child, defined_among, lists_of}
use Rattle.dt_live.proofs.BuilderLemmas.Chains.{lower}
use Rattle.dt_live.proofs.BuilderLemmas.Orders.{held-append, is_filled, marked, listed-marked, no-below}
use Rattle.dt_live.proofs.BuilderLemmas.PathFacts.{bytes-itself}

no-child : (f : Siblings) (k : List ℕ) → is_among k (child_names f) ≡ false → child_named f k ≡ None
no-child f k a = none (child_named f k) (child-among f k ∙ a) where
  none : (o : Option NodeData) → is_some o ≡ false → o ≡ None
  none None e = refl
  none (Some b) e = absurd (true≢false e)

-- ---- what is asked of the lists at a path, where each node's part stands below its name
module _ {X Y : Type 0} (F : Siblings → List X) (up : List ℕ → X → X) (own : List Property → List X) (H : Path → List X → List Y) (at-none : F none ≡ [])
    (at-more : (n : List ℕ) (p : List Property) (c rest : Siblings) → F (more n p c rest) ≡ map (up n) (own p ++ F c) ++ F rest)
    (of-none : (p : Path) → H p [] ≡ []) (of-append : (p : Path) (xs ys : List X) → H p (xs ++ ys) ≡ H p xs ++ H p ys)
    (of-same : (k : List ℕ) (ks : Path) (xs : List X) → H (k ∷ ks) (map (up k) xs) ≡ H ks xs)
    (of-other : (n k : List ℕ) (ks : Path) (xs : List X) → bytes_eq n k ≡ false → H (k ∷ ks) (map (up n) xs) ≡ [])
    (of-own : (k : List ℕ) (ks : Path) (p : List Property) → H (k ∷ ks) (own p) ≡ []) where
  abbrev all : NodeData → List X
  all b = own b.properties ++ F b.children

  abbrev at_node : Option NodeData → List Y
  at_node None = []
  at_node (Some b) = H [] (all b)

  among : (k : List ℕ) (ks : Path) → ((b : NodeData) → IsSoundInside b → H ks (all b) ≡ at_node (node_at b ks)) → (f : Siblings) → are_distinct (child_names f) ≡ true → IsSoundBelow f
      → H (k ∷ ks) (F f) ≡ at_node (option_and_then (λ b. node_at b ks) (child_named f k))
  among k ks deeper none d s = ap (H (k ∷ ks)) at-none ∙ of-none (k ∷ ks)
  among k ks deeper (more n p c rest) d s =
      ap (H (k ∷ ks)) (at-more n p c rest) ∙ of-append (k ∷ ks) (map (up n) (own p ++ F c)) (F rest)
      ∙ by_name n p c rest s (distinct_head n (child_names rest) _ refl d) (bytes_eq n k) refl
      (among k ks deeper rest (distinct_tail n (child_names rest) _ refl d) s.3) where
        by_name : (n : List ℕ) (p : List Property) (c rest : Siblings) → IsSoundBelow (more n p c rest) → is_among n (child_names rest) ≡ false → (t : Bool) → bytes_eq n k ≡ t
            → H (k ∷ ks) (F rest) ≡ at_node (option_and_then (λ b. node_at b ks) (child_named rest k))
            → H (k ∷ ks) (map (up n) (own p ++ F c)) ++ H (k ∷ ks) (F rest) ≡ at_node (option_and_then (λ b. node_at b ks) (if t then Some (node_data n p c) else child_named rest k))
        by_name n p c rest s alone true same ih =
            let is : n ≡ k = (bytes_eq-Decides n k).0 same in
            let gone = no-child rest k (ap (λ m. is_among m (child_names rest)) (sym is) ∙ alone) in
            ap₂ (λ a b. a ++ b)
            (ap (λ m. H (k ∷ ks) (map (up m) (own p ++ F c))) is ∙ of-same k ks (own p ++ F c) ∙ deeper (node_data n p c) (record { properties = s.0; siblings = s.1; below = s.2 }))
            (ih ∙ ap (λ o. at_node (option_and_then (λ b. node_at b ks) o)) gone)
            ∙ append-nil (at_node (node_at (node_data n p c) ks))
        by_name n p c rest s alone false other ih = ap₂ (λ a b. a ++ b) (of-other n k ks (own p ++ F c) other) ih

  pub asked : (path : Path) (b : NodeData) → IsSoundInside b → H path (all b) ≡ at_node (node_at b path)
  asked [] b s = refl
  asked (k ∷ ks) b s =
      of-append (k ∷ ks) (own b.properties) (F b.children)
      ∙ ap₂ (λ x y. x ++ y) (of-own k ks b.properties) (among k ks (asked ks) b.children s.siblings.distinct s.below)

-- ---- whether a node stands
marked-lower : (k : List ℕ) (ks : Path) (xs : List Path) → flat_map (marked (k ∷ ks)) (map (lower k) xs) ≡ flat_map (marked ks) xs
marked-lower k ks [] = refl
marked-lower k ks (x ∷ xs) = ap₂ (λ a b. a ++ b) (ap (λ t. if t && same_path ks x then true ∷ [] else []) (bytes-itself k)) (marked-lower k ks xs)

marked-other : (n k : List ℕ) (ks : Path) (xs : List Path) → bytes_eq n k ≡ false → flat_map (marked (k ∷ ks)) (map (lower n) xs) ≡ []
marked-other n k ks [] e = refl
marked-other n k ks (x ∷ xs) e =
    ap₂ (λ a b. a ++ b) (ap (λ t. if t && same_path ks x then true ∷ [] else []) (bytes_eq-comm k n ∙ e)) (marked-other n k ks xs e)

there-of : (path : Path) (b : NodeData) → IsSoundInside b → is_some (node_at b path) ≡ is_listed path ([] ∷ paths_among b.children)
there-of path b s =
    filled (node_at b path)
    ∙ ap is_filled (sym (asked paths_among lower (λ _. [] ∷ []) (λ p xs. flat_map (marked p) xs) refl (λ n p c rest. refl) (λ p. refl) (λ p. flat_map-append (marked p)) marked-lower marked-other (λ k ks p. refl) path b s))
    ∙ sym (listed-marked path ([] ∷ paths_among b.children)) where
      filled : (o : Option NodeData) → is_some o ≡ is_filled (at_node paths_among lower (λ _. [] ∷ []) (λ p xs. flat_map (marked p) xs) refl (λ n p c rest. refl) (λ p. refl) (λ p. flat_map-append (marked p)) marked-lower marked-other (λ k ks p. refl) o)
      filled None = refl
      filled (Some d) = refl

-- ---- the names of its children
below-lower : (k : List ℕ) (ks : Path) (xs : List Path) → filter_map (name_below (k ∷ ks)) (map (lower k) xs) ≡ filter_map (name_below ks) xs
below-lower k ks [] = refl
below-lower k ks (x ∷ xs) = ap₂ (λ t ys. cons_option (if t then name_below ks x else None) ys) (bytes-itself k) (below-lower k ks xs)

below-other : (n k : List ℕ) (ks : Path) (xs : List Path) → bytes_eq n k ≡ false → filter_map (name_below (k ∷ ks)) (map (lower n) xs) ≡ []
below-other n k ks [] e = refl
below-other n k ks (x ∷ xs) e = ap₂ (λ t ys. cons_option (if t then name_below ks x else None) ys) (bytes_eq-comm k n ∙ e) (below-other n k ks xs e)

two_deep : (n m : List ℕ) (xs : List Path) → filter_map (name_below []) (map (lower n) (map (lower m) xs)) ≡ []
two_deep n m [] = refl
two_deep n m (x ∷ xs) = two_deep n m xs

deeper : (n : List ℕ) (f : Siblings) → filter_map (name_below []) (map (lower n) (paths_among f)) ≡ []
deeper n none = refl
deeper n (more m p c rest) =
    ap (filter_map (name_below [])) (map-append (lower n) (map (lower m) ([] ∷ paths_among c)) (paths_among rest))
    ∙ filter_map-append (name_below []) (map (lower n) (map (lower m) ([] ∷ paths_among c))) (map (lower n) (paths_among rest))
    ∙ ap₂ (λ a b. a ++ b) (two_deep n m ([] ∷ paths_among c)) (deeper n rest)

own_children : (f : Siblings) → filter_map (name_below []) (paths_among f) ≡ child_names f
own_children none = refl
own_children (more n p c rest) =
    filter_map-append (name_below []) (map (lower n) ([] ∷ paths_among c)) (paths_among rest)
    ∙ ap₂ (λ a b. (n ∷ a) ++ b) (deeper n c) (own_children rest)

children-of : (path : Path) (b d : NodeData) → IsSoundInside b → node_at b path ≡ Some d → child_names d.children ≡ filter_map (name_below path) (paths_among b.children)
children-of path b d s e =
    sym (ap (λ o. cons_option o (filter_map (name_below path) (paths_among b.children))) (sym (no-below path))
    ∙ asked paths_among lower (λ _. [] ∷ []) (λ p xs. filter_map (name_below p) xs) refl (λ n p c rest. refl) (λ p. refl) (λ p. filter_map-append (name_below p)) below-lower below-other (λ k ks p. refl) path b s
    ∙ ap (at_node paths_among lower (λ _. [] ∷ []) (λ p xs. filter_map (name_below p) xs) refl (λ n p c rest. refl) (λ p. refl) (λ p. filter_map-append (name_below p)) below-lower below-other (λ k ks p. refl)) e
    ∙ own_children d.children)

-- ---- its properties
abbrev property_of : Definition (List ℕ) → Property
property_of e = record { name = e.name; value = e.value }

abbrev held_at : Path → List (Definition (List ℕ)) → List Property
held_at p es = map property_of (held es p)

held-both : (p : Path) (xs ys : List (Definition (List ℕ))) → held_at p (xs ++ ys) ≡ held_at p xs ++ held_at p ys
held-both p xs ys = ap (map property_of) (held-append p xs ys) ∙ map-append property_of (held xs p) (held ys p)

held-lower : (k : List ℕ) (ks : Path) (xs : List (Definition (List ℕ))) → held_at (k ∷ ks) (map (below_child k) xs) ≡ held_at ks xs
held-lower k ks [] = refl
held-lower k ks (x ∷ xs) =
    let others = held (map (below_child k) xs) (k ∷ ks) in
    ap (λ t. map property_of (cond (t && same_path ks x.path) (below_child k x ∷ others) others)) (bytes-itself k)
    ∙ by_test x (same_path ks x.path) others (held xs ks) (held-lower k ks xs) where
      by_test : (x : Definition (List ℕ)) (t : Bool) (ys zs : List (Definition (List ℕ))) → map property_of ys ≡ map property_of zs
          → map property_of (cond t (below_child k x ∷ ys) ys) ≡ map property_of (cond t (x ∷ zs) zs)
      by_test x true ys zs ih = ap (λ ps. property_of x ∷ ps) ih
      by_test x false ys zs ih = ih

held-other : (n k : List ℕ) (ks : Path) (xs : List (Definition (List ℕ))) → bytes_eq n k ≡ false → held_at (k ∷ ks) (map (below_child n) xs) ≡ []
held-other n k ks [] e = refl
held-other n k ks (x ∷ xs) e =
    let others = held (map (below_child n) xs) (k ∷ ks) in
    ap (λ t. map property_of (cond (t && same_path ks x.path) (below_child n x ∷ others) others)) (bytes_eq-comm k n ∙ e) ∙ held-other n k ks xs e

held-elsewhere : (k : List ℕ) (ks : Path) (ps : List Property) → held_at (k ∷ ks) (defined_at [] ps) ≡ []
held-elsewhere k ks [] = refl
held-elsewhere k ks (p ∷ ps) = held-elsewhere k ks ps

held-own : (ps : List Property) → held_at [] (defined_at [] ps) ≡ ps
held-own [] = refl
held-own (p ∷ ps) = ap (λ qs. p ∷ qs) (held-own ps)

held-child : (n : List ℕ) (xs : List (Definition (List ℕ))) → held_at [] (map (below_child n) xs) ≡ []
held-child n [] = refl
held-child n (x ∷ xs) = held-child n xs

held-below : (f : Siblings) → held_at [] (defined_among f) ≡ []
held-below none = refl
held-below (more n p c rest) =
    held-both [] (map (below_child n) (defined_at [] p ++ defined_among c)) (defined_among rest)
    ∙ ap₂ (λ a b. a ++ b) (held-child n (defined_at [] p ++ defined_among c)) (held-below rest)

properties-of : (path : Path) (b d : NodeData) → IsSoundInside b → node_at b path ≡ Some d → d.properties ≡ held_at path (lists_of b).properties
properties-of path b d s e =
    sym (asked defined_among below_child (defined_at []) held_at refl (λ n p c rest. refl) (λ p. refl) held-both held-lower held-other held-elsewhere path b s
    ∙ ap (at_node defined_among below_child (defined_at []) held_at refl (λ n p c rest. refl) (λ p. refl) held-both held-lower held-other held-elsewhere) e
    ∙ held-both [] (defined_at [] d.properties) (defined_among d.children) ∙ ap₂ (λ x y. x ++ y) (held-own d.properties) (held-below d.children) ∙ append-nil d.properties)

names-held : (es : List (Definition (List ℕ))) → property_names (map property_of es) ≡ map (λ e. e.name) es
names-held [] = refl
names-held (e ∷ es) = ap (λ ns. e.name ∷ ns) (names-held es)

value-held_at : (es : List (Definition (List ℕ))) (p : Path) (n : List ℕ) → value_of (held_at p es) n ≡ value_in es p n
value-held_at [] p n = refl
value-held_at (e ∷ es) p n = by_test e (same_path p e.path) (held es p) (value-held_at es p n) where
  by_test : (e : Definition (List ℕ)) (t : Bool) (ys : List (Definition (List ℕ))) → value_of (map property_of ys) n ≡ value_in es p n
      → value_of (map property_of (cond t (e ∷ ys) ys)) n ≡ (if t && bytes_eq n e.name then Some e.value else value_in es p n)
  by_test e true ys ih = ap₂ (λ b o. if b then Some e.value else o) (bytes_eq-comm e.name n) ih
  by_test e false ys ih = ih

-- ---- the whole
module _ {A B : Type 0} (f : A → B) where
  mapped : (o : Option A) (t : Bool) (y : B) → is_some o ≡ t → ((d : A) → o ≡ Some d → f d ≡ y) → option_map f o ≡ (if t then Some y else None)
  mapped None true y there e = absurd (true≢false (sym there))
  mapped None false y there e = refl
  mapped (Some d) true y there e = ap Some (e d refl)
  mapped (Some d) false y there e = absurd (true≢false there)

names-of : (o : Option NodeData) (t : Bool) (ns : List (List ℕ)) → is_some o ≡ t → ((d : NodeData) → o ≡ Some d → property_names d.properties ≡ ns)
    → option_map property_names (option_map (λ (n : NodeData). n.properties) o) ≡ (if t then Some ns else None)
names-of None true ns there e = absurd (true≢false (sym there))
names-of None false ns there e = refl
names-of (Some d) true ns there e = ap Some (e d refl)
names-of (Some d) false ns there e = absurd (true≢false there)

value-of : (k : List ℕ) (o : Option NodeData) (t : Bool) (v : Option (List ℕ)) → is_some o ≡ t → ((d : NodeData) → o ≡ Some d → value_of d.properties k ≡ v)
    → option_and_then (λ ps. value_of ps k) (option_map (λ (n : NodeData). n.properties) o) ≡ (if t then v else None)
value-of k None true v there e = absurd (true≢false (sym there))
value-of k None false v there e = refl
value-of k (Some d) true v there e = e d refl
value-of k (Some d) false v there e = absurd (true≢false there)

pub map-lists : (b : NodeData) → IsSound b → path_map b ≡ map_of (lists_of b)
map-lists b sound = λ i. record {
  has = λ p. there-of p b s i;
  properties = λ p. names-of (node_at b p) (is_there r p) (map (λ e. e.name) (held r.properties p)) (there-of p b s)
      (λ d e. ap property_names (properties-of p b d s e) ∙ names-held (held r.properties p)) i;
  children = λ p. mapped (λ (n : NodeData). child_names n.children) (node_at b p) (is_there r p) (filter_map (name_below p) r.nodes) (there-of p b s) (λ d e. children-of p b d s e) i;
  value = λ p k. value-of k (node_at b p) (is_there r p) (value_in r.properties p k) (there-of p b s)
      (λ d e. ap (λ ps. value_of ps k) (properties-of p b d s e) ∙ value-held_at r.properties p k) i;
} where
  r : Resolved
  r = lists_of b

  s : IsSoundInside b
  s = inside b sound
