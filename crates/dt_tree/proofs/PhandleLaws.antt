-- The walk for a phandle finds the first node with it.
use Rattle.std.proofs.Common.{◌≡◌, ℕ, Bool, true, false, ◌==◌, ◌⊎◌, inl, inr, List, [], ◌∷◌, Option, Some, None, is_some, option_and_then, if◌then◌else◌, refl, ap, sym, ◌∙◌, subst, arith}
use Rattle.std.specs.Option.{option_map, option_map_or}
use Rattle.std.specs.Str.{bytes_eq}
use Rattle.std.proofs.lemmas.Slice.Eq.{bytes_eq-Decides}
use Rattle.std.proofs.lemmas.Bool.Decides.{nat_tests}
use Rattle.dt_tree.specs.declared.property.Property.{Property}
use Rattle.dt_tree.specs.NodeData.{Siblings, none, more, NodeData, node_data, child_names}
use Rattle.dt_tree.specs.PathMap.{PathMap, child_named, node_at, value_of, path_map}
use Rattle.dt_tree.specs.Phandle.{phandle_of, or_else}
use Rattle.dt_tree.specs.Private.PhandleWalk.{has_phandle, path_among, path_below}
use Rattle.dt_tree.specs.Preorder.{is_earlier, part_below, precedes}
use Rattle.dt_tree.specs.Sound.{is_among, are_distinct, IsSoundBelow}
use Rattle.dt_tree.proofs.Places.{bytes_eq-refl, some_inj, distinct_head, distinct_tail, child-among}

abbrev PathNames : Type 0
PathNames = List (List ℕ)

-- the phandle in the node at a path, reserved or not
abbrev pub phandle_there : NodeData → PathNames → Option ℕ
phandle_there b path = option_and_then (λ (n : NodeData). phandle_of n.properties) (node_at b path)

-- nodes side by side, as the children of a node without properties
abbrev pub only_children : Siblings → NodeData
only_children f = node_data [] [] f

-- children differ in name, at every level
abbrev pub IsApart : Siblings → Type 0
IsApart none = Unit {0}
IsApart (more n p c rest) = (is_among n (child_names rest) ≡ false) × IsApart c × IsApart rest

pub apart : (f : Siblings) → are_distinct (child_names f) ≡ true → IsSoundBelow f → IsApart f
apart none d s = tt
apart (more n p c rest) d s = (distinct_head n (child_names rest) _ refl d, apart c s.1.distinct s.2, apart rest (distinct_tail n (child_names rest) _ refl d) s.3)

-- ---- names
pub among_apart : (n y : List ℕ) (ns : List (List ℕ)) → is_among n ns ≡ false → is_among y ns ≡ true → (t : Bool) → bytes_eq n y ≡ t → bytes_eq n y ≡ false
among_apart n y ns a b true e = absurd (let same : n ≡ y = (bytes_eq-Decides n y).0 e in let h : is_among y ns ≡ false = rw (← same) a in let bad : true ≡ false = sym b ∙ h in cc bad)
among_apart n y ns a b false e = e

pub there_among : (f : Siblings) (y : List ℕ) (ys : PathNames) (h : ℕ) → phandle_there (only_children f) (y ∷ ys) ≡ Some h → is_among y (child_names f) ≡ true
there_among f y ys h e = sym (child-among f y) ∙ some_below (child_named f y) e where
  some_below : (o : Option NodeData) → option_and_then (λ (n : NodeData). phandle_of n.properties) (option_and_then (λ (d : NodeData). node_at d ys) o) ≡ Some h → is_some o ≡ true
  some_below None e = absurd (cc e)
  some_below (Some d) e = refl

-- ---- the order below a child
part_same : (b d : NodeData) (k : List ℕ) → child_named b.children k ≡ child_named d.children k → part_below (path_map b) k ≡ part_below (path_map d) k
part_same b d k e = λ i. record {
  has = λ path. is_some (option_and_then (λ (x : NodeData). node_at x path) (e i));
  properties = λ path. option_map Rattle.dt_tree.specs.NodeData.property_names (option_map (λ (n : NodeData). n.properties) (option_and_then (λ (x : NodeData). node_at x path) (e i)));
  children = λ path. option_map (λ (n : NodeData). child_names n.children) (option_and_then (λ (x : NodeData). node_at x path) (e i));
  value = λ path j. option_and_then (λ ps. value_of ps j) (option_map (λ (n : NodeData). n.properties) (option_and_then (λ (x : NodeData). node_at x path) (e i)));
}

pub part_child : (b c : NodeData) (k : List ℕ) → child_named b.children k ≡ Some c → part_below (path_map b) k ≡ path_map c
part_child b c k e = λ i. record {
  has = λ path. is_some (option_and_then (λ (x : NodeData). node_at x path) (e i));
  properties = λ path. option_map Rattle.dt_tree.specs.NodeData.property_names (option_map (λ (n : NodeData). n.properties) (option_and_then (λ (x : NodeData). node_at x path) (e i)));
  children = λ path. option_map (λ (n : NodeData). child_names n.children) (option_and_then (λ (x : NodeData). node_at x path) (e i));
  value = λ path j. option_and_then (λ ps. value_of ps j) (option_map (λ (n : NodeData). n.properties) (option_and_then (λ (x : NodeData). node_at x path) (e i)));
}

pub precedes_in_child : (b c : NodeData) (k : List ℕ) (xs ys : PathNames) → child_named b.children k ≡ Some c → precedes (path_map c) xs ys ≡ true → precedes (path_map b) (k ∷ xs) (k ∷ ys) ≡ true
precedes_in_child b c k xs ys e p = rw (bytes_eq-refl k) (ap (λ (m : PathMap (List ℕ)). precedes m xs ys) (part_child b c k e) ∙ p)

-- the order among some children holds among others, where the first path's child is the same
pub lifted : (f g : Siblings) (x y : List ℕ) (xs ys : PathNames) → child_named f x ≡ child_named g x → (is_earlier x y (child_names f) ≡ true → is_earlier x y (child_names g) ≡ true)
    → precedes (path_map (only_children f)) (x ∷ xs) (y ∷ ys) ≡ true → precedes (path_map (only_children g)) (x ∷ xs) (y ∷ ys) ≡ true
lifted f g x y xs ys same earlier p = by_test (bytes_eq x y) refl where
  by_test : (t : Bool) → bytes_eq x y ≡ t → precedes (path_map (only_children g)) (x ∷ xs) (y ∷ ys) ≡ true
  by_test true e = let q : precedes (part_below (path_map (only_children f)) x) xs ys ≡ true = rw e at p in rw e (ap (λ (m : PathMap (List ℕ)). precedes m xs ys) (sym (part_same (only_children f) (only_children g) x same)) ∙ q)
  by_test false e = let q : is_earlier x y (child_names f) ≡ true = rw e at p in rw e (earlier q)

-- ---- a phandle
has_yes : (o : Option ℕ) (h : ℕ) → option_map_or (λ g. g == h) o false ≡ true → o ≡ Some h
has_yes None h e = absurd (cc e)
has_yes (Some g) h e = let same : g ≡ h = grind (arith, nat_tests) in ap (λ (x : ℕ). Some x) same

has_no : (o : Option ℕ) (h : ℕ) → option_map_or (λ g. g == h) o false ≡ false → o ≡ Some h → ⊥
has_no None h e is = cc is
has_no (Some g) h e is = let same : g ≡ h = some_inj g h is in grind (arith, nat_tests)

-- what an answer of the walk says
pub record IsFirstIn (b : NodeData) (h : ℕ) (path : PathNames) : Type 0 where
  pub has : phandle_there b path ≡ Some h
  pub first : (other : PathNames) → phandle_there b other ≡ Some h → (other ≡ path) ⊎ (precedes (path_map b) path other ≡ true)

abbrev pub IsPathTo : NodeData → ℕ → Option PathNames → Type 0
IsPathTo b h None = (path : PathNames) → phandle_there b path ≡ Some h → ⊥
IsPathTo b h (Some path) = IsFirstIn b h path

-- ---- a node, from its children
module _ (n : List ℕ) (p : List Property) (c : Siblings) (h : ℕ) where
  own_first : phandle_of p ≡ Some h → IsFirstIn (node_data n p c) h []
  own_first e = record { has = e; first = λ other. earlier other } where
    earlier : (other : PathNames) → phandle_there (node_data n p c) other ≡ Some h → (other ≡ []) ⊎ (precedes (path_map (node_data n p c)) [] other ≡ true)
    earlier [] e = inl refl
    earlier (y ∷ ys) e = inr refl

  child_first : (phandle_of p ≡ Some h → ⊥) → (path : PathNames) → IsFirstIn (only_children c) h path → IsFirstIn (node_data n p c) h path
  child_first unfit [] w = absurd (let bad : None ≡ Some h = w.has in cc bad)
  child_first unfit (x ∷ xs) w = record { has = w.has; first = λ other. earlier other } where
    earlier : (other : PathNames) → phandle_there (node_data n p c) other ≡ Some h → (other ≡ x ∷ xs) ⊎ (precedes (path_map (node_data n p c)) (x ∷ xs) other ≡ true)
    earlier [] e = absurd (unfit e)
    earlier (y ∷ ys) e = w.first (y ∷ ys) e

  nowhere_below : (phandle_of p ≡ Some h → ⊥) → ((path : PathNames) → phandle_there (only_children c) path ≡ Some h → ⊥) → (path : PathNames) → phandle_there (node_data n p c) path ≡ Some h → ⊥
  nowhere_below unfit none_below [] e = unfit e
  nowhere_below unfit none_below (y ∷ ys) e = none_below (y ∷ ys) e

  from_children : (phandle_of p ≡ Some h → ⊥) → (o : Option PathNames) → IsPathTo (only_children c) h o → IsPathTo (node_data n p c) h o
  from_children unfit None w = nowhere_below unfit w
  from_children unfit (Some path) w = child_first unfit path w

  from_test : (t : Bool) → has_phandle p h ≡ t → IsPathTo (only_children c) h (path_among c h) → IsPathTo (node_data n p c) h (if t then Some [] else path_among c h)
  from_test true e w = own_first (has_yes (phandle_of p) h e)
  from_test false e w = from_children (has_no (phandle_of p) h e) (path_among c h) w

  pub path_below-is : IsPathTo (only_children c) h (path_among c h) → IsPathTo (node_data n p c) h (path_below (node_data n p c) h)
  path_below-is w = from_test (has_phandle p h) refl w

-- ---- children, from the first and the others
pub named_first : (n : List ℕ) (p : List Property) (c rest : Siblings) → child_named (more n p c rest) n ≡ Some (node_data n p c)
named_first n p c rest = rw (bytes_eq-refl n) refl

pub first_in_there : (n : List ℕ) (p : List Property) (c rest : Siblings) (q : PathNames) → phandle_there (only_children (more n p c rest)) (n ∷ q) ≡ phandle_there (node_data n p c) q
first_in_there n p c rest q = ap (λ (o : Option NodeData). option_and_then (λ (d : NodeData). phandle_of d.properties) (option_and_then (λ (d : NodeData). node_at d q) o)) (named_first n p c rest)

pub other_in_there : (n : List ℕ) (p : List Property) (c rest : Siblings) (y : List ℕ) (ys : PathNames) → bytes_eq n y ≡ false → phandle_there (only_children (more n p c rest)) (y ∷ ys) ≡ phandle_there (only_children rest) (y ∷ ys)
other_in_there n p c rest y ys e = rw e refl

module _ (n : List ℕ) (p : List Property) (c rest : Siblings) (alone : is_among n (child_names rest) ≡ false) (h : ℕ) where
  abbrev all : Siblings
  all = more n p c rest

  abbrev first_node : NodeData
  first_node = node_data n p c

  first_there : (q : PathNames) → phandle_there (only_children all) (n ∷ q) ≡ phandle_there first_node q
  first_there q = first_in_there n p c rest q

  other_there : (y : List ℕ) (ys : PathNames) → bytes_eq n y ≡ false → phandle_there (only_children all) (y ∷ ys) ≡ phandle_there (only_children rest) (y ∷ ys)
  other_there y ys e = other_in_there n p c rest y ys e

  -- an answer in the first child
  in_first : (q : PathNames) → IsFirstIn first_node h q → IsFirstIn (only_children all) h (n ∷ q)
  in_first q w = record { has = first_there q ∙ w.has; first = λ other. earlier other } where
    earlier_at : (y : List ℕ) (ys : PathNames) (t : Bool) → bytes_eq n y ≡ t → phandle_there (only_children all) (y ∷ ys) ≡ Some h → (y ∷ ys ≡ n ∷ q) ⊎ (precedes (path_map (only_children all)) (n ∷ q) (y ∷ ys) ≡ true)
    earlier_at y ys true e is =
        let same : n ≡ y = (bytes_eq-Decides n y).0 e in
        let is' : phandle_there (only_children all) (n ∷ ys) ≡ Some h = subst (λ (z : List ℕ). phandle_there (only_children all) (z ∷ ys) ≡ Some h) (sym same) is in
        subst (λ (z : List ℕ). (z ∷ ys ≡ n ∷ q) ⊎ (precedes (path_map (only_children all)) (n ∷ q) (z ∷ ys) ≡ true)) same
        (place (w.first ys (sym (first_there ys) ∙ is'))) where
          place : (ys ≡ q) ⊎ (precedes (path_map first_node) q ys ≡ true) → (n ∷ ys ≡ n ∷ q) ⊎ (precedes (path_map (only_children all)) (n ∷ q) (n ∷ ys) ≡ true)
          place (inl e) = inl (ap (λ (z : PathNames). n ∷ z) e)
          place (inr e) = inr (precedes_in_child (only_children all) first_node n q ys (named_first n p c rest) e)
    earlier_at y ys false e is =
        let there : is_among y (child_names rest) ≡ true = there_among rest y ys h (sym (other_there y ys e) ∙ is) in
        inr (rw (e, bytes_eq-refl n) there)

    earlier : (other : PathNames) → phandle_there (only_children all) other ≡ Some h → (other ≡ n ∷ q) ⊎ (precedes (path_map (only_children all)) (n ∷ q) other ≡ true)
    earlier [] e = absurd (let bad : None ≡ Some h = e in cc bad)
    earlier (y ∷ ys) e = earlier_at y ys (bytes_eq n y) refl e

  not_first : (y : List ℕ) (ys : PathNames) → phandle_there (only_children rest) (y ∷ ys) ≡ Some h → bytes_eq n y ≡ false
  not_first y ys e = among_apart n y (child_names rest) alone (there_among rest y ys h e) _ refl

  -- an answer in the others
  in_others : ((path : PathNames) → phandle_there first_node path ≡ Some h → ⊥) → (path : PathNames) → IsFirstIn (only_children rest) h path → IsFirstIn (only_children all) h path
  in_others unfit [] w = absurd (let bad : None ≡ Some h = w.has in cc bad)
  in_others unfit (x ∷ xs) w = record { has = other_there x xs apart_x ∙ w.has; first = λ other. earlier other } where
    apart_x : bytes_eq n x ≡ false
    apart_x = not_first x xs w.has

    same_child : child_named rest x ≡ child_named all x
    same_child = rw apart_x refl

    earlier_at : (y : List ℕ) (ys : PathNames) (t : Bool) → bytes_eq n y ≡ t → phandle_there (only_children all) (y ∷ ys) ≡ Some h → (y ∷ ys ≡ x ∷ xs) ⊎ (precedes (path_map (only_children all)) (x ∷ xs) (y ∷ ys) ≡ true)
    earlier_at y ys true e is =
        let same : n ≡ y = (bytes_eq-Decides n y).0 e in
        let is' : phandle_there (only_children all) (n ∷ ys) ≡ Some h = subst (λ (z : List ℕ). phandle_there (only_children all) (z ∷ ys) ≡ Some h) (sym same) is in
        absurd (unfit ys (sym (first_there ys) ∙ is'))
    earlier_at y ys false e is = place (w.first (y ∷ ys) (sym (other_there y ys e) ∙ is)) where
      place : (y ∷ ys ≡ x ∷ xs) ⊎ (precedes (path_map (only_children rest)) (x ∷ xs) (y ∷ ys) ≡ true) → (y ∷ ys ≡ x ∷ xs) ⊎ (precedes (path_map (only_children all)) (x ∷ xs) (y ∷ ys) ≡ true)
      place (inl e) = inl e
      place (inr e) = inr (lifted rest all x y xs ys same_child (λ q. rw apart_x q) e)

    earlier : (other : PathNames) → phandle_there (only_children all) other ≡ Some h → (other ≡ x ∷ xs) ⊎ (precedes (path_map (only_children all)) (x ∷ xs) other ≡ true)
    earlier [] e = absurd (let bad : None ≡ Some h = e in cc bad)
    earlier (y ∷ ys) e = earlier_at y ys (bytes_eq n y) refl e

  nowhere_at : ((path : PathNames) → phandle_there first_node path ≡ Some h → ⊥) → ((path : PathNames) → phandle_there (only_children rest) path ≡ Some h → ⊥)
      → (y : List ℕ) (ys : PathNames) (t : Bool) → bytes_eq n y ≡ t → phandle_there (only_children all) (y ∷ ys) ≡ Some h → ⊥
  nowhere_at unfit missing y ys true e is =
      let same : n ≡ y = (bytes_eq-Decides n y).0 e in
      let is' : phandle_there (only_children all) (n ∷ ys) ≡ Some h = subst (λ (z : List ℕ). phandle_there (only_children all) (z ∷ ys) ≡ Some h) (sym same) is in
      unfit ys (sym (first_there ys) ∙ is')
  nowhere_at unfit missing y ys false e is = missing (y ∷ ys) (sym (other_there y ys e) ∙ is)

  nowhere : ((path : PathNames) → phandle_there first_node path ≡ Some h → ⊥) → ((path : PathNames) → phandle_there (only_children rest) path ≡ Some h → ⊥) → (path : PathNames) → phandle_there (only_children all) path ≡ Some h → ⊥
  nowhere unfit missing [] e = let bad : None ≡ Some h = e in cc bad
  nowhere unfit missing (y ∷ ys) e = nowhere_at unfit missing y ys (bytes_eq n y) refl e

  pub one_more : (o u : Option PathNames) → IsPathTo first_node h o → IsPathTo (only_children rest) h u → IsPathTo (only_children all) h (or_else (option_map (λ q. n ∷ q) o) u)
  one_more (Some q) u w v = in_first q w
  one_more None (Some path) w v = in_others w path v
  one_more None None w v = nowhere w v

pub path_among-is : (f : Siblings) → IsApart f → (h : ℕ) → IsPathTo (only_children f) h (path_among f h)
path_among-is none a h = none_there where
  none_there : (path : PathNames) → phandle_there (only_children none) path ≡ Some h → ⊥
  none_there [] e = let bad : None ≡ Some h = e in cc bad
  none_there (y ∷ ys) e = let bad : None ≡ Some h = e in cc bad
path_among-is (more n p c rest) a h = one_more n p c rest a.0 h (path_below (node_data n p c) h) (path_among rest h) (path_below-is n p c h (path_among-is c a.1 h)) (path_among-is rest a.2 h)
