-- The list of paths has exactly those of the tree, each once and in their order.
use Rattle.std.proofs.Common.{◌≡◌, ◌≢◌, ℕ, suc, Bool, true, false, List, [], ◌∷◌, ◌++◌, get_or, map, is_some, refl, ap, sym, ◌∙◌, subst, arith}
use Rattle.std.specs.List.{All, AllPairs, Contains}
use Rattle.std.specs.Str.{bytes_eq}
use Rattle.std.proofs.lemmas.List.{get_or-map, length-map}
use Rattle.std.proofs.lemmas.List.Elements.{All-nil, All-cons, All-head, All-tail, All-append, All-map, All-weaker, Contains-append_left, Contains-append_right}
use Rattle.std.proofs.lemmas.List.Kept.{AllPairs-cons}
use Rattle.std.proofs.lemmas.Slice.Eq.{bytes_eq-Decides}
use Rattle.dt_tree.specs.declared.property.Property.{Property}
use Rattle.dt_tree.specs.NodeData.{Siblings, none, more, NodeData, node_data, child_names}
use Rattle.dt_tree.specs.PathMap.{child_named, node_at, path_map}
use Rattle.dt_tree.specs.Preorder.{precedes, paths_among, preorder}
use Rattle.dt_tree.specs.Sound.{is_among}
use Rattle.dt_tree.proofs.OrderLaws.{has_distinct, precedes-apart, among_some}
use Rattle.dt_tree.proofs.PhandleLaws.{IsApart, apart, only_children, among_apart, lifted, named_first, precedes_in_child}
use Rattle.dt_tree.proofs.Places.{IsSoundInside, is_path_map, bytes_eq-refl}

abbrev PathNames : Type 0
PathNames = List (List ℕ)

-- ---- pairs of a list
module _ {X : Type 0} (R : X → X → Type 0) where
  pairs_head : (x : X) (xs : List X) → AllPairs R (x ∷ xs) → All (R x) xs
  pairs_head x xs h = λ k d lt. h 0 (suc k) d (omega arith) (omega arith)

  pairs_tail : (x : X) (xs : List X) → AllPairs R (x ∷ xs) → AllPairs R xs
  pairs_tail x xs h = λ i j d lt within. h (suc i) (suc j) d (omega arith) (omega arith)

  pairs_append : (xs ys : List X) → AllPairs R xs → AllPairs R ys → All (λ x. All (R x) ys) xs → AllPairs R (xs ++ ys)
  pairs_append [] ys h k cross = k
  pairs_append (x ∷ xs) ys h k cross =
      AllPairs-cons R x (xs ++ ys) (All-append (R x) xs ys (pairs_head x xs h) (All-head (λ z. All (R z) ys) x xs cross))
      (pairs_append xs ys (pairs_tail x xs h) k (All-tail (λ z. All (R z) ys) x xs cross))

pairs_map : {X Y : Type 0} (R : X → X → Type 0) (f : Y → X) (ys : List Y) → AllPairs (λ x y. R (f x) (f y)) ys → AllPairs R (map f ys)
pairs_map R f [] h = λ i j d lt within. absurd (omega arith)
pairs_map {Y = Y} R f (y ∷ ys) h =
    let S : Y → Y → Type 0 = λ a b. R (f a) (f b) in
    AllPairs-cons R (f y) (map f ys) (All-map (R (f y)) f ys (pairs_head S y ys h)) (pairs_map R f ys (pairs_tail S y ys h))

-- ---- the paths of children
-- a child, or a node below one, stands at the path
abbrev StandsIn : Siblings → PathNames → Type 0
StandsIn f [] = ⊥
StandsIn f (y ∷ ys) = is_some (node_at (only_children f) (y ∷ ys)) ≡ true

abbrev Precede : Siblings → PathNames → PathNames → Type 0
Precede f p q = precedes (path_map (only_children f)) p q ≡ true

module _ (n : List ℕ) (p : List Property) (c rest : Siblings) where
  abbrev all : Siblings
  all = more n p c rest

  first_stands : is_some (node_at (only_children all) (n ∷ [])) ≡ true
  first_stands = rw (bytes_eq-refl n) refl

  below_stands : (q : PathNames) → StandsIn c q → StandsIn all (n ∷ q)
  below_stands [] h = absurd h
  below_stands (y ∷ ys) h = rw (bytes_eq-refl n) h

  module _ (alone : is_among n (child_names rest) ≡ false) where
    other : (y : List ℕ) (ys : PathNames) → StandsIn rest (y ∷ ys) → bytes_eq n y ≡ false
    other y ys h = among_apart n y (child_names rest) alone (among_some (only_children rest) y ys h) _ refl

    other_stands : (q : PathNames) → StandsIn rest q → StandsIn all q
    other_stands [] h = h
    other_stands (y ∷ ys) h = rw (other y ys h) h

    other_precedes : (q r : PathNames) → StandsIn rest q → Precede rest q r → Precede all q r
    other_precedes [] r s h = absurd s
    other_precedes (y ∷ ys) [] s h = h
    other_precedes (y ∷ ys) (z ∷ zs) s h =
        let apart_y = other y ys s in
        let same : child_named rest y ≡ child_named all y = rw apart_y refl in
        lifted rest all y z ys zs same (λ e. rw apart_y e) h

    first_before_other : (q r : PathNames) → StandsIn rest r → Precede all (n ∷ q) r
    first_before_other q [] s = absurd s
    first_before_other q (y ∷ ys) s = rw (other y ys s, bytes_eq-refl n) (among_some (only_children rest) y ys s)

  first_before_below : (q : PathNames) → StandsIn c q → Precede all (n ∷ []) (n ∷ q)
  first_before_below [] s = absurd s
  first_before_below (y ∷ ys) s = rw (bytes_eq-refl n) refl

-- what a node is besides its children changes no order below it
same_order : (b : NodeData) (q r : PathNames) → precedes (path_map b) q r ≡ precedes (path_map (only_children b.children)) q r
same_order b [] [] = refl
same_order b [] (z ∷ zs) = refl
same_order b (y ∷ ys) [] = refl
same_order b (y ∷ ys) (z ∷ zs) = refl

below_precedes : (n : List ℕ) (p : List Property) (c rest : Siblings) (q r : PathNames) → Precede c q r → Precede (more n p c rest) (n ∷ q) (n ∷ r)
below_precedes n p c rest q r h = precedes_in_child (only_children (more n p c rest)) (node_data n p c) n q r (named_first n p c rest) (same_order (node_data n p c) q r ∙ h)

stand : (f : Siblings) → IsApart f → All (StandsIn f) (paths_among f)
stand none a = All-nil (StandsIn none)
stand (more n p c rest) a =
    let f = more n p c rest in
    All-append (StandsIn f) (map (λ (q : PathNames). n ∷ q) ([] ∷ paths_among c)) (paths_among rest)
    (All-map (StandsIn f) (λ (q : PathNames). n ∷ q) ([] ∷ paths_among c)
    (All-cons (λ (q : PathNames). StandsIn f (n ∷ q)) [] (paths_among c) (first_stands n p c rest)
    (All-weaker (StandsIn c) (λ (q : PathNames). StandsIn f (n ∷ q)) (below_stands n p c rest) (paths_among c) (stand c a.1))))
    (All-weaker (StandsIn rest) (StandsIn f) (other_stands n p c rest a.0) (paths_among rest) (stand rest a.2))

-- ---- each path of the tree is listed
contains_first : {X : Type 0} (x : X) (xs : List X) → Contains (x ∷ xs) x
contains_first x xs = (0, omega arith, refl)

contains_map : (n : List ℕ) (qs : List PathNames) (q : PathNames) → Contains qs q → Contains (map (λ (r : PathNames). n ∷ r) qs) (n ∷ q)
contains_map n qs q h =
    let lt = h.1 in
    let long = length-map qs (λ (r : PathNames). n ∷ r) in
    (h.0, omega arith, get_or-map (λ (r : PathNames). n ∷ r) qs h.0 q (n ∷ q) lt ∙ ap (λ (r : PathNames). n ∷ r) h.2)

listed : (f : Siblings) (y : List ℕ) (ys : PathNames) → StandsIn f (y ∷ ys) → Contains (paths_among f) (y ∷ ys)
listed none y ys s = absurd (let bad : false ≡ true = s in cc bad)
listed (more n p c rest) y ys s = by_name _ refl s (listed c) (listed rest y ys) where
  in_child : (ys : PathNames) → is_some (node_at (node_data n p c) ys) ≡ true → ((z : List ℕ) (zs : PathNames) → StandsIn c (z ∷ zs) → Contains (paths_among c) (z ∷ zs)) → Contains ([] ∷ paths_among c) ys
  in_child [] s below = contains_first [] (paths_among c)
  in_child (z ∷ zs) s below = Contains-append_right ([] ∷ []) (paths_among c) (z ∷ zs) (below z zs s)

  by_name : (t : Bool) → bytes_eq n y ≡ t → StandsIn (more n p c rest) (y ∷ ys) → ((z : List ℕ) (zs : PathNames) → StandsIn c (z ∷ zs) → Contains (paths_among c) (z ∷ zs)) → (StandsIn rest (y ∷ ys) → Contains (paths_among rest) (y ∷ ys))
      → Contains (paths_among (more n p c rest)) (y ∷ ys)
  by_name true e s below beside =
      let same : n ≡ y = (bytes_eq-Decides n y).0 e in
      let there : is_some (node_at (node_data n p c) ys) ≡ true = rw e at s in
      Contains-append_left (map (λ (q : PathNames). n ∷ q) ([] ∷ paths_among c)) (paths_among rest) (y ∷ ys)
      (subst (λ (z : List ℕ). Contains (map (λ (q : PathNames). n ∷ q) ([] ∷ paths_among c)) (z ∷ ys)) same (contains_map n ([] ∷ paths_among c) ys (in_child ys there below)))
  by_name false e s below beside = Contains-append_right (map (λ (q : PathNames). n ∷ q) ([] ∷ paths_among c)) (paths_among rest) (y ∷ ys) (beside (rw e at s))

-- ---- their order
ordered : (f : Siblings) → IsApart f → AllPairs (Precede f) (paths_among f)
ordered none a = λ i j d lt within. absurd (omega arith)
ordered (more n p c rest) a =
    let R : PathNames → PathNames → Type 0 = Precede (more n p c rest) in
    let down : PathNames → PathNames = λ q. n ∷ q in
    let S : PathNames → PathNames → Type 0 = λ q r. R (down q) (down r) in
    pairs_append R (map down ([] ∷ paths_among c)) (paths_among rest)
    (pairs_map R down ([] ∷ paths_among c)
    (AllPairs-cons S [] (paths_among c) (All-weaker (StandsIn c) (S []) (first_before_below n p c rest) (paths_among c) (stand c a.1))
    (λ i j d lt within. below_precedes n p c rest (get_or (paths_among c) i d) (get_or (paths_among c) j d) (ordered c a.1 i j d lt within))))
    (λ i j d lt within. other_precedes n p c rest a.0 (get_or (paths_among rest) i d) (get_or (paths_among rest) j d) (stand rest a.2 i d (omega arith)) (ordered rest a.2 i j d lt within))
    (All-map (λ q. All (R q) (paths_among rest)) down ([] ∷ paths_among c)
    (λ k d lt. All-weaker (StandsIn rest) (R (down (get_or ([] ∷ paths_among c) k d))) (first_before_other n p c rest a.0 (get_or ([] ∷ paths_among c) k d)) (paths_among rest) (stand rest a.2)))

-- ---- the whole tree
pub all_stand : (b : NodeData) → IsSoundInside b → All (λ q. is_some (node_at b q) ≡ true) (preorder b)
all_stand b s = All-cons (λ q. is_some (node_at b q) ≡ true) [] (paths_among b.children) refl (All-weaker (StandsIn b.children) (λ q. is_some (node_at b q) ≡ true) there (paths_among b.children) (stand b.children (apart b.children s.siblings.distinct s.below))) where
  there : (q : PathNames) → StandsIn b.children q → is_some (node_at b q) ≡ true
  there [] h = absurd h
  there (y ∷ ys) h = h

pub all_listed : (b : NodeData) (q : PathNames) → is_some (node_at b q) ≡ true → Contains (preorder b) q
all_listed b [] e = contains_first [] (paths_among b.children)
all_listed b (y ∷ ys) e = Contains-append_right ([] ∷ []) (paths_among b.children) (y ∷ ys) (listed b.children y ys e)

pub all_ordered : (b : NodeData) → IsSoundInside b → AllPairs (λ q r. precedes (path_map b) q r ≡ true) (preorder b)
all_ordered b s =
    let a = apart b.children s.siblings.distinct s.below in
    let R : PathNames → PathNames → Type 0 = λ q r. precedes (path_map b) q r ≡ true in
    AllPairs-cons R [] (paths_among b.children) (All-weaker (StandsIn b.children) (R []) before (paths_among b.children) (stand b.children a))
    (λ i j d lt within. same_order b (get_or (paths_among b.children) i d) (get_or (paths_among b.children) j d) ∙ ordered b.children a i j d lt within) where
      before : (q : PathNames) → StandsIn b.children q → precedes (path_map b) [] q ≡ true
      before [] h = absurd h
      before (y ∷ ys) h = refl

not_itself : (b : NodeData) → IsSoundInside b → (q r : PathNames) → precedes (path_map b) q r ≡ true → q ≢ r
not_itself b s q r h same =
    let back : precedes (path_map b) r q ≡ false = precedes-apart (path_map b) (has_distinct (path_map b) (is_path_map b s)) q r h in
    let here : precedes (path_map b) r q ≡ true = subst (λ (x : PathNames). precedes (path_map b) r x ≡ true) (sym same) (subst (λ (x : PathNames). precedes (path_map b) x r ≡ true) same h) in
    let bad : true ≡ false = sym here ∙ back in cc bad

pub all_once : (b : NodeData) → IsSoundInside b → AllPairs (λ q r. q ≢ r) (preorder b)
all_once b s = λ i j d lt within. not_itself b s (get_or (preorder b) i d) (get_or (preorder b) j d) (all_ordered b s i j d lt within)
