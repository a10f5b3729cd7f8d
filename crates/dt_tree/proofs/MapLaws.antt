-- The path map loses nothing.
use Rattle.std.proofs.Common.{◌≡◌, ℕ, Bool, true, false, List, [], ◌∷◌, Some, None, option_and_then, refl, ap, sym, ◌∙◌, subst}
use Rattle.std.specs.Option.{option_map}
use Rattle.std.specs.Str.{bytes_eq}
use Rattle.std.proofs.lemmas.Slice.Eq.{bytes_eq-Decides}
use Rattle.dt_tree.specs.declared.property.Property.{Property}
use Rattle.dt_tree.specs.NodeData.{Siblings, none, more, NodeData, node_data, child_names, property_names}
use Rattle.dt_tree.specs.PathMap.{PathMap, child_named, value_of, properties_at, children_at, path_map}
use Rattle.dt_tree.proofs.Places.{bytes_eq-refl, distinct_head, distinct_tail}
use Rattle.dt_tree.specs.TreeData.{TreeData, IsTree}
use Rattle.dt_tree.specs.PathMap.{TreeMap, tree_map}
use Rattle.dt_tree.specs.Sound.{is_among, are_distinct, IsSoundBelow, IsSound}

pub missing_value : (ps : List Property) (j : List ℕ) → is_among j (property_names ps) ≡ false → value_of ps j ≡ None
missing_value [] j a = refl
missing_value (p ∷ ps) j a = at_head p ps j _ refl a (missing_value ps j) where
  at_head : (p : Property) (ps : List Property) (j : List ℕ) (t : Bool) → bytes_eq p.name j ≡ t → is_among j (property_names (p ∷ ps)) ≡ false → (is_among j (property_names ps) ≡ false → value_of ps j ≡ None) → value_of (p ∷ ps) j ≡ None
  at_head p ps j true e a ih = absurd (let h : true ≡ false = (rw e at a) in cc)
  at_head p ps j false e a ih = rw e (ih (rw e at a))

pub missing_child : (f : Siblings) (y : List ℕ) → is_among y (child_names f) ≡ false → child_named f y ≡ None
missing_child none y a = refl
missing_child (more n p c rest) y a = at_head n p c rest y _ refl a (missing_child rest y) where
  at_head : (n : List ℕ) (p : List Property) (c rest : Siblings) (y : List ℕ) (t : Bool) → bytes_eq n y ≡ t → is_among y (n ∷ child_names rest) ≡ false → (is_among y (child_names rest) ≡ false → child_named rest y ≡ None) → child_named (more n p c rest) y ≡ None
  at_head n p c rest y true e a ih = absurd (let h : true ≡ false = (rw e at a) in cc)
  at_head n p c rest y false e a ih = rw e (ih (rw e at a))

-- properties with the same names and values
rest_values : (n v v' : List ℕ) (ps qs : List Property) → is_among n (property_names ps) ≡ false → property_names ps ≡ property_names qs
    → ((j : List ℕ) → value_of (record { name = n; value = v } ∷ ps) j ≡ value_of (record { name = n; value = v' } ∷ qs) j) → (j : List ℕ) (t : Bool) → bytes_eq n j ≡ t → value_of ps j ≡ value_of qs j
rest_values n v v' ps qs a same values j true e =
    let is : n ≡ j = (bytes_eq-Decides n j).0 e in
    let a' : is_among j (property_names ps) ≡ false = rw (← is) a in
    let a'' : is_among j (property_names qs) ≡ false = rw (← same) a' in
    missing_value ps j a' ∙ sym (missing_value qs j a'')
rest_values n v v' ps qs a same values j false e = rw e at (values j)

same_properties : (ps qs : List Property) → are_distinct (property_names ps) ≡ true → property_names ps ≡ property_names qs → ((j : List ℕ) → value_of ps j ≡ value_of qs j) → ps ≡ qs
same_properties [] [] d names values = refl
same_properties [] (q ∷ qs) d names values = absurd (cc)
same_properties (p ∷ ps) [] d names values = absurd (cc)
same_properties (p ∷ ps) (q ∷ qs) d names values =
    let name_is : p.name ≡ q.name = cc in
    let rest_is : property_names ps ≡ property_names qs = cc in
    let values' : (j : List ℕ) → value_of (record { name = p.name; value = p.value } ∷ ps) j ≡ value_of (record { name = p.name; value = q.value } ∷ qs) j
    = subst (λ (m : List ℕ). (j : List ℕ) → value_of (record { name = p.name; value = p.value } ∷ ps) j ≡ value_of (record { name = m; value = q.value } ∷ qs) j) (sym name_is) values in
    let some_is : Some p.value ≡ Some q.value = rw (bytes_eq-refl p.name) at (values' p.name) in
    let value_is : p.value ≡ q.value = cc some_is in
    let rest = same_properties ps qs (distinct_tail p.name (property_names ps) _ refl d) rest_is
    (λ j. rest_values p.name p.value q.value ps qs (distinct_head p.name (property_names ps) _ refl d) rest_is values' j _ refl) in
    λ i. record { name = name_is i; value = value_is i } ∷ rest i

-- the same below each child
record SameBelow (f g : Siblings) : Type 0 where
  names : (y : List ℕ) (ys : List (List ℕ)) → option_map property_names (properties_at (node_data [] [] f) (y ∷ ys)) ≡ option_map property_names (properties_at (node_data [] [] g) (y ∷ ys))
  values : (y : List ℕ) (ys : List (List ℕ)) (j : List ℕ) → option_and_then (λ ps. value_of ps j) (properties_at (node_data [] [] f) (y ∷ ys)) ≡ option_and_then (λ ps. value_of ps j) (properties_at (node_data [] [] g) (y ∷ ys))
  children : (y : List ℕ) (ys : List (List ℕ)) → children_at (node_data [] [] f) (y ∷ ys) ≡ children_at (node_data [] [] g) (y ∷ ys)

module _ (n : List ℕ) (p p' : List Property) (c c' r r' : Siblings) (s : SameBelow (more n p c r) (more n p' c' r')) where
  own_names : property_names p ≡ property_names p'
  own_names = let e : Some (property_names p) ≡ Some (property_names p') = rw (bytes_eq-refl n) at (s.names n []) in cc e

  own_values : (j : List ℕ) → value_of p j ≡ value_of p' j
  own_values j = rw (bytes_eq-refl n) at (s.values n [] j)

  own_children : child_names c ≡ child_names c'
  own_children = let e : Some (child_names c) ≡ Some (child_names c') = rw (bytes_eq-refl n) at (s.children n []) in cc e

  inside_child : SameBelow c c'
  inside_child = record {
    names = λ y ys. rw (bytes_eq-refl n) at (s.names n (y ∷ ys));
    values = λ y ys j. rw (bytes_eq-refl n) at (s.values n (y ∷ ys) j);
    children = λ y ys. rw (bytes_eq-refl n) at (s.children n (y ∷ ys));
  }

  module _ (a : is_among n (child_names r) ≡ false) (same : child_names r ≡ child_names r') where
    both_missing : (y : List ℕ) → bytes_eq n y ≡ true → (child_named r y ≡ None) × (child_named r' y ≡ None)
    both_missing y e =
        let is : n ≡ y = (bytes_eq-Decides n y).0 e in
        let a' : is_among y (child_names r) ≡ false = rw (← is) a in
        let a'' : is_among y (child_names r') ≡ false = rw (← same) a' in
        (missing_child r y a', missing_child r' y a'')

    names_beside : (y : List ℕ) (ys : List (List ℕ)) (t : Bool) → bytes_eq n y ≡ t → option_map property_names (properties_at (node_data [] [] r) (y ∷ ys)) ≡ option_map property_names (properties_at (node_data [] [] r') (y ∷ ys))
    names_beside y ys true e = let m = both_missing y e in rw (m.0, m.1) refl
    names_beside y ys false e = rw e at (s.names y ys)

    values_beside : (y : List ℕ) (ys : List (List ℕ)) (j : List ℕ) (t : Bool) → bytes_eq n y ≡ t
        → option_and_then (λ ps. value_of ps j) (properties_at (node_data [] [] r) (y ∷ ys)) ≡ option_and_then (λ ps. value_of ps j) (properties_at (node_data [] [] r') (y ∷ ys))
    values_beside y ys j true e = let m = both_missing y e in rw (m.0, m.1) refl
    values_beside y ys j false e = rw e at (s.values y ys j)

    children_beside : (y : List ℕ) (ys : List (List ℕ)) (t : Bool) → bytes_eq n y ≡ t → children_at (node_data [] [] r) (y ∷ ys) ≡ children_at (node_data [] [] r') (y ∷ ys)
    children_beside y ys true e = let m = both_missing y e in rw (m.0, m.1) refl
    children_beside y ys false e = rw e at (s.children y ys)

    beside : SameBelow r r'
    beside = record { names = λ y ys. names_beside y ys _ refl; values = λ y ys j. values_beside y ys j _ refl; children = λ y ys. children_beside y ys _ refl }

same_siblings : (f g : Siblings) → are_distinct (child_names f) ≡ true → IsSoundBelow f → child_names f ≡ child_names g → SameBelow f g → f ≡ g
same_siblings none none d s names same = refl
same_siblings none (more n' p' c' r') d s names same = absurd (cc)
same_siblings (more n p c r) none d s names same = absurd (cc)
same_siblings (more n p c r) (more n' p' c' r') d s names same =
    let name_is : n ≡ n' = cc in
    let rest_is : child_names r ≡ child_names r' = cc in
    let same' : SameBelow (more n p c r) (more n p' c' r') = subst (λ (m : List ℕ). SameBelow (more n p c r) (more m p' c' r')) (sym name_is) same in
    let p_is = same_properties p p' s.0.distinct (own_names n p p' c c' r r' same') (own_values n p p' c c' r r' same') in
    let c_is = same_siblings c c' s.1.distinct s.2 (own_children n p p' c c' r r' same') (inside_child n p p' c c' r r' same') in
    let r_is = same_siblings r r' (distinct_tail n (child_names r) _ refl d) s.3 rest_is
    (beside n p p' c c' r r' same' (distinct_head n (child_names r) _ refl d) rest_is) in
    λ i. more (name_is i) (p_is i) (c_is i) (r_is i)

pub same_node : (a b : NodeData) → IsSound a → a.name ≡ b.name → path_map a ≡ path_map b → a ≡ b
same_node a b s name_is e =
    let names : Some (property_names a.properties) ≡ Some (property_names b.properties) = ap (λ (m : PathMap (List ℕ)). m.properties []) e in
    let kids : Some (child_names a.children) ≡ Some (child_names b.children) = ap (λ (m : PathMap (List ℕ)). m.children []) e in
    let p_is = same_properties a.properties b.properties s.properties.distinct (cc names) (λ j. ap (λ (m : PathMap (List ℕ)). m.value [] j) e) in
    let c_is = same_siblings a.children b.children s.siblings.distinct s.below (cc kids) (record {
      names = λ y ys. ap (λ (m : PathMap (List ℕ)). m.properties (y ∷ ys)) e;
      values = λ y ys j. ap (λ (m : PathMap (List ℕ)). m.value (y ∷ ys) j) e;
      children = λ y ys. ap (λ (m : PathMap (List ℕ)). m.children (y ∷ ys)) e;
    }) in
    λ i. record { name = name_is i; properties = p_is i; children = c_is i }

-- and so for whole trees
pub same_tree : (a b : TreeData) → IsTree a → IsTree b → tree_map a ≡ tree_map b → a ≡ b
same_tree a b s t e =
    let root_is : a.root ≡ b.root = same_node a.root b.root s.sound (s.no_name ∙ sym t.no_name) (ap (λ (m : TreeMap). m.nodes) e) in
    let reserves_are : a.reserves ≡ b.reserves = ap (λ (m : TreeMap). m.reserves) e in
    let cpu_is : a.boot_cpu ≡ b.boot_cpu = ap (λ (m : TreeMap). m.boot_cpu) e in
    λ i. record { reserves = reserves_are i; boot_cpu = cpu_is i; root = root_is i }
