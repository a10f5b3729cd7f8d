-- A sound node merged into a sound one is sound, and no higher than the higher of the two.
use Rattle.std.proofs.Common.{◌≡◌, ℕ, ◌+◌, ◌≤◌, max, Bool, true, false, not, ◌||◌, List, [], ◌∷◌, ◌++◌, filter, Option, Some, None, refl, ap, sym, ◌∙◌, arith}
use Rattle.std.specs.Option.{option_map_or}
use Rattle.std.specs.Str.{bytes_eq}
use Rattle.std.proofs.lemmas.List.Folds.{list_all-append}
use Rattle.std.proofs.lemmas.Slice.Eq.{bytes_eq-Decides}
use Rattle.dt_tree.specs.declared.property.Property.{Property}
use Rattle.dt_tree.specs.Merged.{joined_names}
use Rattle.dt_tree.specs.Name.{is_name, are_names}
use Rattle.dt_tree.specs.NodeData.{Siblings, none, more, NodeData, child_names, property_names, height_of}
use Rattle.dt_tree.specs.PathMap.{child_named}
use Rattle.dt_tree.specs.Private.Merging.{merged_properties, new_siblings, merged_with, merged_siblings, merged}
use Rattle.dt_tree.specs.Sound.{is_among, are_distinct, AreSound, AreSiblings, IsSoundBelow, IsSound}
use Rattle.dt_tree.proofs.CallLaws.{child_height}
use Rattle.dt_tree.proofs.MergeLaws.{property_names-merged, child_names-merged}
use Rattle.dt_tree.proofs.Places.{IsSoundInside, found_child, distinct_head, distinct_tail}

-- ---- lists of names
module _ (p : List ℕ → Bool) where
  names-filter : (ms : List (List ℕ)) → are_names ms ≡ true → are_names (filter p ms) ≡ true
  names-filter [] a = refl
  names-filter (m ∷ ms) a = at_head _ refl _ refl a (names-filter ms) where
    at_head : (t : Bool) → p m ≡ t → (u : Bool) → is_name m ≡ u → are_names (m ∷ ms) ≡ true → (are_names ms ≡ true → are_names (filter p ms) ≡ true) → are_names (filter p (m ∷ ms)) ≡ true
    at_head t e false f a ih = absurd (let h : false ≡ true = (rw f at a) in cc h)
    at_head true e true f a ih = rw (e, f) (ih (rw f at a))
    at_head false e true f a ih = rw e (ih (rw f at a))

  among-filter : (k : List ℕ) (ms : List (List ℕ)) → is_among k ms ≡ false → is_among k (filter p ms) ≡ false
  among-filter k [] a = refl
  among-filter k (m ∷ ms) a = at_head _ refl _ refl a (among-filter k ms) where
    at_head : (t : Bool) → p m ≡ t → (u : Bool) → bytes_eq m k ≡ u → is_among k (m ∷ ms) ≡ false → (is_among k ms ≡ false → is_among k (filter p ms) ≡ false) → is_among k (filter p (m ∷ ms)) ≡ false
    at_head t e true f a ih = absurd (let h : true ≡ false = (rw f at a) in cc h)
    at_head true e false f a ih = rw (e, f) (ih (rw f at a))
    at_head false e false f a ih = rw e (ih (rw f at a))

  distinct-filter : (ms : List (List ℕ)) → are_distinct ms ≡ true → are_distinct (filter p ms) ≡ true
  distinct-filter [] d = refl
  distinct-filter (m ∷ ms) d = at_head _ refl (distinct-filter ms (distinct_tail m ms _ refl d)) where
    at_head : (t : Bool) → p m ≡ t → are_distinct (filter p ms) ≡ true → are_distinct (filter p (m ∷ ms)) ≡ true
    at_head true e ih = rw (e, among-filter m ms (distinct_head m ms _ refl d)) ih
    at_head false e ih = rw e ih

-- what is left out is not among what is left
filtered_out : (ns ms : List (List ℕ)) (k : List ℕ) → is_among k ns ≡ true → is_among k (filter (λ m. not (is_among m ns)) ms) ≡ false
filtered_out ns [] k a = refl
filtered_out ns (m ∷ ms) k a = at_head _ refl _ refl (filtered_out ns ms k a) where
  at_head : (t : Bool) → is_among m ns ≡ t → (u : Bool) → bytes_eq m k ≡ u → is_among k (filter (λ m. not (is_among m ns)) ms) ≡ false → is_among k (filter (λ m. not (is_among m ns)) (m ∷ ms)) ≡ false
  at_head true e u f ih = rw e ih
  at_head false e true f ih =
      let same : m ≡ k = (bytes_eq-Decides m k).0 f in
      absurd (let bad : false ≡ true = sym e ∙ ap (λ (x : List ℕ). is_among x ns) same ∙ a in cc bad)
  at_head false e false f ih = rw (e, f) ih

among-append : (k : List ℕ) (ns fs : List (List ℕ)) → is_among k ns ≡ false → is_among k fs ≡ false → is_among k (ns ++ fs) ≡ false
among-append k [] fs a b = b
among-append k (n ∷ ns) fs a b = at_head _ refl a (λ h. among-append k ns fs h b) where
  at_head : (t : Bool) → bytes_eq n k ≡ t → is_among k (n ∷ ns) ≡ false → (is_among k ns ≡ false → is_among k (ns ++ fs) ≡ false) → is_among k (n ∷ ns ++ fs) ≡ false
  at_head true e a ih = absurd (let h : true ≡ false = (rw e at a) in cc h)
  at_head false e a ih = rw e (ih (rw e at a))

among_first : (n : List ℕ) (ns : List (List ℕ)) → is_among n (n ∷ ns) ≡ true
among_first n ns = rw ((bytes_eq-Decides n n).1 refl) refl

among_later : (k n : List ℕ) (ns : List (List ℕ)) → is_among k ns ≡ true → is_among k (n ∷ ns) ≡ true
among_later k n ns a = at_head (bytes_eq n k) where
  at_head : (t : Bool) → (t || is_among k ns) ≡ true
  at_head true = refl
  at_head false = a

distinct-append : (ns fs : List (List ℕ)) → are_distinct ns ≡ true → are_distinct fs ≡ true → ((k : List ℕ) → is_among k ns ≡ true → is_among k fs ≡ false) → are_distinct (ns ++ fs) ≡ true
distinct-append [] fs d e a = e
distinct-append (n ∷ ns) fs d e a =
    rw (among-append n ns fs (distinct_head n ns _ refl d) (a n (among_first n ns))) (distinct-append ns fs (distinct_tail n ns _ refl d) e (λ k h. a k (among_later k n ns h)))

joined_distinct : (ns ms : List (List ℕ)) → are_distinct ns ≡ true → are_distinct ms ≡ true → are_distinct (joined_names ns ms) ≡ true
joined_distinct ns ms d e = distinct-append ns (filter (λ m. not (is_among m ns)) ms) d (distinct-filter (λ m. not (is_among m ns)) ms e) (filtered_out ns ms)

joined_are_names : (ns ms : List (List ℕ)) → are_names ns ≡ true → are_names ms ≡ true → are_names (joined_names ns ms) ≡ true
joined_are_names ns ms a b = rw (list_all-append is_name ns (filter (λ m. not (is_among m ns)) ms), a, names-filter (λ m. not (is_among m ns)) ms b) refl

-- ---- properties and children
properties_sound : (ps qs : List Property) → AreSound ps → AreSound qs → AreSound (merged_properties ps qs)
properties_sound ps qs s u = record {
  named = rw (property_names-merged ps qs) (joined_are_names (property_names ps) (property_names qs) s.named u.named);
  distinct = rw (property_names-merged ps qs) (joined_distinct (property_names ps) (property_names qs) s.distinct u.distinct);
}

siblings_sound : (f g : Siblings) → AreSiblings f → AreSiblings g → AreSiblings (merged_siblings f g)
siblings_sound f g s u = record {
  named = rw (child_names-merged f g) (joined_are_names (child_names f) (child_names g) s.named u.named);
  distinct = rw (child_names-merged f g) (joined_distinct (child_names f) (child_names g) s.distinct u.distinct);
}

below-new : (ns : List (List ℕ)) (g : Siblings) → IsSoundBelow g → IsSoundBelow (new_siblings ns g)
below-new ns none s = tt
below-new ns (more n p c rest) s = at_head _ refl (below-new ns rest s.3) where
  at_head : (t : Bool) → is_among n ns ≡ t → IsSoundBelow (new_siblings ns rest) → IsSoundBelow (new_siblings ns (more n p c rest))
  at_head true e ih = rw e ih
  at_head false e ih = rw e (s.0, s.1, s.2, ih)

below-merged : (f g t : Siblings) → IsSoundBelow f → IsSoundBelow g → IsSoundBelow t → IsSoundBelow (merged_with f g t)
below-merged none g t s u v = v
below-merged (more n p c rest) g t s u v =
    let child = at_child (child_named g n) (λ b e. found_child g u n b e) (λ b h. below-merged c b.children (new_siblings (child_names c) b.children) s.2 h (below-new (child_names c) b.children h)) in
    (child.0, child.1, child.2, below-merged rest g t s.3 u v) where
      at_child : (o : Option NodeData) → ((b : NodeData) → o ≡ Some b → IsSoundInside b) → ((b : NodeData) → IsSoundBelow b.children → IsSoundBelow (merged_siblings c b.children))
          → AreSound (option_map_or (λ b. merged_properties p b.properties) o p) × AreSiblings (option_map_or (λ b. merged_siblings c b.children) o c) × IsSoundBelow (option_map_or (λ b. merged_siblings c b.children) o c)
      at_child None found ih = (s.0, s.1, s.2)
      at_child (Some b) found ih =
          let i = found b refl in
          (properties_sound p b.properties s.0 i.properties, siblings_sound c b.children s.1 i.siblings, ih b i.below)

-- ---- height
height-new : (ns : List (List ℕ)) (g : Siblings) → height_of (new_siblings ns g) ≤ height_of g
height-new ns none = omega arith
height-new ns (more n p c rest) = at_head _ refl (height-new ns rest) where
  at_head : (t : Bool) → is_among n ns ≡ t → height_of (new_siblings ns rest) ≤ height_of rest → height_of (new_siblings ns (more n p c rest)) ≤ max (height_of c + 1) (height_of rest)
  at_head true e ih = rw e (omega (arith, ih))
  at_head false e ih = rw e (omega (arith, ih))

height-with : (f g t : Siblings) → height_of (merged_with f g t) ≤ max (height_of f) (max (height_of g) (height_of t))
height-with none g t = omega arith
height-with (more n p c rest) g t =
    let rests = height-with rest g t in
    let child = at_child (child_named g n) (λ b e. child_height g n b e) (λ b. height-with c b.children (new_siblings (child_names c) b.children)) in
    omega (arith, rests, child) where
      at_child : (o : Option NodeData) → ((b : NodeData) → o ≡ Some b → height_of b.children + 1 ≤ height_of g)
          → ((b : NodeData) → height_of (merged_siblings c b.children) ≤ max (height_of c) (max (height_of b.children) (height_of (new_siblings (child_names c) b.children))))
          → height_of (option_map_or (λ b. merged_siblings c b.children) o c) + 1 ≤ max (height_of c + 1) (height_of g)
      at_child None tall ih = omega arith
      at_child (Some b) tall ih = let h = tall b refl in let k = ih b in let m = height-new (child_names c) b.children in omega (arith, h, k, m)

pub height-merged : (f g : Siblings) → height_of (merged_siblings f g) ≤ max (height_of f) (height_of g)
height-merged f g = omega (arith, height-with f g (new_siblings (child_names f) g), height-new (child_names f) g)

-- ---- the node
pub merged_sound : (a b : NodeData) → IsSound a → IsSound b → IsSound (merged a b)
merged_sound a b s u = record {
  own_name = s.own_name;
  properties = properties_sound a.properties b.properties s.properties u.properties;
  siblings = siblings_sound a.children b.children s.siblings u.siblings;
  below = below-merged a.children b.children (new_siblings (child_names a.children) b.children) s.below u.below (below-new (child_names a.children) b.children u.below);
  shallow = omega (arith, height-merged a.children b.children, s.shallow, u.shallow);
}
