-- What stands at a path.
use Rattle.std.proofs.Common.{◌≡◌, ℕ, Bool, true, false, ◌&&◌, List, [], ◌∷◌, ◌++◌, Option, Some, None, is_some, option_and_then, refl, ap, sym, ◌∙◌, subst}
use Rattle.std.specs.Option.{option_map}
use Rattle.std.specs.Str.{bytes_eq}
use Rattle.std.proofs.lemmas.Slice.Eq.{bytes_eq-Decides}
use Rattle.dt_tree.specs.declared.property.Property.{Property}
use Rattle.dt_tree.specs.Name.{is_name, are_names}
use Rattle.dt_tree.specs.NodeData.{Siblings, none, more, NodeData, node_data, child_names, property_names}
use Rattle.dt_tree.specs.PathMap.{child_named, node_at, value_of, properties_at, children_at, path_map, is_listed, IsPathMap}
use Rattle.dt_tree.specs.Sound.{is_among, are_distinct, AreSound, AreSiblings, IsSoundBelow, IsSound}

pub bytes_eq-refl : (x : List ℕ) → bytes_eq x x ≡ true
bytes_eq-refl x = (bytes_eq-Decides x x).1 refl

pub some_inj : {A : Type 0} (x y : A) → Some x ≡ Some y → x ≡ y
some_inj x y e = cc e

pub both : (a b : Bool) → (a && b) ≡ true → (a ≡ true) × (b ≡ true)
both true b e = (refl, e)
both false b e = absurd (cc e)

pub distinct_head : (n : List ℕ) (ns : List (List ℕ)) (t : Bool) → is_among n ns ≡ t → are_distinct (n ∷ ns) ≡ true → is_among n ns ≡ false
distinct_head n ns true e d = absurd (let h : false ≡ true = (rw e at d) in cc)
distinct_head n ns false e d = e

pub distinct_tail : (n : List ℕ) (ns : List (List ℕ)) (t : Bool) → is_among n ns ≡ t → are_distinct (n ∷ ns) ≡ true → are_distinct ns ≡ true
distinct_tail n ns true e d = absurd (let h : false ≡ true = (rw e at d) in cc)
distinct_tail n ns false e d = rw e at d

-- ---- children
pub child-among : (f : Siblings) (k : List ℕ) → is_some (child_named f k) ≡ is_among k (child_names f)
child-among none k = refl
child-among (more n p c rest) k = at_head n p c rest k _ refl (child-among rest k) where
  at_head : (n : List ℕ) (p : List Property) (c rest : Siblings) (k : List ℕ) (t : Bool) → bytes_eq n k ≡ t → is_some (child_named rest k) ≡ is_among k (child_names rest)
      → is_some (child_named (more n p c rest) k) ≡ is_among k (n ∷ child_names rest)
  at_head n p c rest k true e ih = rw e refl
  at_head n p c rest k false e ih = rw e ih

pub value-among : (ps : List Property) (k : List ℕ) → is_some (value_of ps k) ≡ is_among k (property_names ps)
value-among [] k = refl
value-among (p ∷ ps) k = at_head p ps k _ refl (value-among ps k) where
  at_head : (p : Property) (ps : List Property) (k : List ℕ) (t : Bool) → bytes_eq p.name k ≡ t → is_some (value_of ps k) ≡ is_among k (property_names ps)
      → is_some (value_of (p ∷ ps) k) ≡ is_among k (p.name ∷ property_names ps)
  at_head p ps k true e ih = rw e refl
  at_head p ps k false e ih = rw e ih

among_name : (ns : List (List ℕ)) (k : List ℕ) → are_names ns ≡ true → is_among k ns ≡ true → is_name k ≡ true
among_name [] k a e = absurd (cc e)
among_name (n ∷ ns) k a e = at_head n ns k (both (is_name n) (are_names ns) a) _ refl e (among_name ns k) where
  at_head : (n : List ℕ) (ns : List (List ℕ)) (k : List ℕ) → (is_name n ≡ true) × (are_names ns ≡ true) → (t : Bool) → bytes_eq n k ≡ t → is_among k (n ∷ ns) ≡ true → (are_names ns ≡ true → is_among k ns ≡ true → is_name k ≡ true) → is_name k ≡ true
  at_head n ns k a true e h ih = let same : n ≡ k = (bytes_eq-Decides n k).0 e in rw (← same) a.0
  at_head n ns k a false e h ih = ih a.1 (rw e at h)

-- ---- a sound node, its own name and its depth aside
pub record IsSoundInside (b : NodeData) : Type 0 where
  pub properties : AreSound b.properties
  pub siblings : AreSiblings b.children
  pub below : IsSoundBelow b.children

pub inside : (b : NodeData) → IsSound b → IsSoundInside b
inside b s = record { properties = s.properties; siblings = s.siblings; below = s.below }

pub found_child : (f : Siblings) → IsSoundBelow f → (k : List ℕ) (c : NodeData) → child_named f k ≡ Some c → IsSoundInside c
found_child none s k c e = absurd (cc e)
found_child (more n p d rest) s k c e = at_head n p d rest s k c _ refl e (found_child rest s.3 k c) where
  at_head : (n : List ℕ) (p : List Property) (d rest : Siblings) → IsSoundBelow (more n p d rest) → (k : List ℕ) (c : NodeData) (t : Bool) → bytes_eq n k ≡ t → child_named (more n p d rest) k ≡ Some c
      → (child_named rest k ≡ Some c → IsSoundInside c) → IsSoundInside c
  at_head n p d rest s k c true e h ih =
      let is : Some (node_data n p d) ≡ Some c = rw e at h in
      subst IsSoundInside (some_inj (node_data n p d) c is) (record { properties = s.0; siblings = s.1; below = s.2 })
  at_head n p d rest s k c false e h ih = ih (rw e at h)

pub found_at : (path : List (List ℕ)) (b c : NodeData) → IsSoundInside b → node_at b path ≡ Some c → IsSoundInside c
found_at [] b c s e = subst IsSoundInside (some_inj b c e) s
found_at (k ∷ ks) b c s e = through b c k ks s _ refl e (λ d. found_at ks d c) where
  through : (b c : NodeData) (k : List ℕ) (ks : List (List ℕ)) → IsSoundInside b → (o : Option NodeData) → child_named b.children k ≡ o → option_and_then (λ d. node_at d ks) o ≡ Some c
      → ((d : NodeData) → IsSoundInside d → node_at d ks ≡ Some c → IsSoundInside c) → IsSoundInside c
  through b c k ks s None is e ih = absurd (cc e)
  through b c k ks s (Some d) is e ih = ih d (found_child b.children s.below k d is) e

-- the names of a node's path are names
pub names_at : (path : List (List ℕ)) (b : NodeData) → IsSoundInside b → is_some (node_at b path) ≡ true → are_names path ≡ true
names_at [] b s e = refl
names_at (k ∷ ks) b s e = through b k ks s _ refl e (λ d. names_at ks d) where
  through : (b : NodeData) (k : List ℕ) (ks : List (List ℕ)) → IsSoundInside b → (o : Option NodeData) → child_named b.children k ≡ o → is_some (option_and_then (λ d. node_at d ks) o) ≡ true
      → ((d : NodeData) → IsSoundInside d → is_some (node_at d ks) ≡ true → are_names ks ≡ true) → are_names (k ∷ ks) ≡ true
  through b k ks s None is e ih = absurd (cc e)
  through b k ks s (Some d) is e ih =
      let there : is_among k (child_names b.children) ≡ true = sym (child-among b.children k) ∙ ap (λ (o : Option NodeData). is_some o) is in
      rw (among_name (child_names b.children) k s.siblings.named there) (ih d (found_child b.children s.below k d is) e)

-- ---- the map of a tree
and_then_some : (o : Option NodeData) → option_and_then (λ (c : NodeData). Some c) o ≡ o
and_then_some None = refl
and_then_some (Some c) = refl

pub node_at-append : (path : List (List ℕ)) (b : NodeData) (k : List ℕ) → node_at b (path ++ k ∷ []) ≡ option_and_then (λ (c : NodeData). child_named c.children k) (node_at b path)
node_at-append [] b k = and_then_some (child_named b.children k)
node_at-append (x ∷ xs) b k = through x xs k (child_named b.children x) (λ d. node_at-append xs d k) where
  through : (x : List ℕ) (xs : List (List ℕ)) (k : List ℕ) (o : Option NodeData) → ((d : NodeData) → node_at d (xs ++ k ∷ []) ≡ option_and_then (λ (c : NodeData). child_named c.children k) (node_at d xs))
      → option_and_then (λ (d : NodeData). node_at d (xs ++ k ∷ [])) o ≡ option_and_then (λ (c : NodeData). child_named c.children k) (option_and_then (λ (d : NodeData). node_at d xs) o)
  through x xs k None ih = refl
  through x xs k (Some d) ih = ih d

listed_below : (k : List ℕ) (o : Option NodeData) → is_some (option_and_then (λ (c : NodeData). child_named c.children k) o) ≡ is_listed k (option_map (λ (n : NodeData). child_names n.children) o)
listed_below k None = refl
listed_below k (Some c) = child-among c.children k

listed_there : (k : List ℕ) (o : Option NodeData) → is_listed k (option_map (λ (n : NodeData). child_names n.children) o) ≡ true → is_some o ≡ true
listed_there k None e = absurd (cc e)
listed_there k (Some c) e = refl

some_map : {A B : Type 0} (f : A → B) (o : Option A) → is_some (option_map f o) ≡ is_some o
some_map f None = refl
some_map f (Some x) = refl

valued : (k : List ℕ) (o : Option (List Property)) → is_some (option_and_then (λ ps. value_of ps k) o) ≡ is_listed k (option_map property_names o)
valued k None = refl
valued k (Some ps) = value-among ps k

children_differ : (o : Option NodeData) (ns : List (List ℕ)) → ((c : NodeData) → o ≡ Some c → IsSoundInside c) → option_map (λ (n : NodeData). child_names n.children) o ≡ Some ns → are_distinct ns ≡ true
children_differ None ns s e = absurd (cc e)
children_differ (Some c) ns s e = let is : child_names c.children ≡ ns = some_inj (child_names c.children) ns e in subst (λ (x : List (List ℕ)). are_distinct x ≡ true) is (s c refl).siblings.distinct

properties_differ : (o : Option NodeData) (ns : List (List ℕ)) → ((c : NodeData) → o ≡ Some c → IsSoundInside c) → option_map property_names (option_map (λ (n : NodeData). n.properties) o) ≡ Some ns → are_distinct ns ≡ true
properties_differ None ns s e = absurd (cc e)
properties_differ (Some c) ns s e = let is : property_names c.properties ≡ ns = some_inj (property_names c.properties) ns e in subst (λ (x : List (List ℕ)). are_distinct x ≡ true) is (s c refl).properties.distinct

pub is_path_map : (b : NodeData) → IsSoundInside b → IsPathMap (path_map b)
is_path_map b s = record {
  root = refl;
  above = λ path k e. listed_there k (node_at b path) (sym (below path k) ∙ e);
  below = below;
  child_lists = λ path. some_map (λ (n : NodeData). child_names n.children) (node_at b path);
  property_lists = λ path. some_map property_names (properties_at b path) ∙ some_map (λ (n : NodeData). n.properties) (node_at b path);
  no_child_twice = λ path ns e. children_differ (node_at b path) ns (λ c is. found_at path b c s is) e;
  no_property_twice = λ path ns e. properties_differ (node_at b path) ns (λ c is. found_at path b c s is) e;
  values = λ path k. valued k (properties_at b path);
} where
  below : (path : List (List ℕ)) (k : List ℕ) → is_some (node_at b (path ++ k ∷ [])) ≡ is_listed k (children_at b path)
  below path k = ap (λ (o : Option NodeData). is_some o) (node_at-append path b k) ∙ listed_below k (node_at b path)
