-- Nothing is listed of two nodes exactly where the same nodes and values stand at the same paths below them.
use Rattle.std.proofs.Common.{◌≡◌, ℕ, Bool, true, false, not, ◌||◌, if◌then◌else◌, List, [], ◌∷◌, ◌++◌, Option, Some, None, is_some, option_and_then, refl, ap, sym, ◌∙◌, subst}
use Rattle.std.specs.Option.{option_map, option_map_or}
use Rattle.std.specs.Str.{bytes_eq}
use Rattle.std.proofs.lemmas.Slice.Eq.{bytes_eq-Decides}
use Rattle.dt_tree.specs.declared.property.Property.{Property}
use Rattle.dt_tree.specs.NodeData.{Siblings, none, more, NodeData, node_data, nodes_of, child_names, property_names}
use Rattle.dt_tree.specs.PathMap.{child_named, node_at, value_of, path_map}
use Rattle.dt_tree.specs.Sound.{is_among, are_distinct, IsSoundBelow}
use Rattle.dt_tree.proofs.NameLists.{bytes_eq-sym}
use Rattle.dt_tree.proofs.Places.{bytes_eq-refl, child-among, distinct_head, distinct_tail, found_child, IsSoundInside, some_inj}
use Rattle.dtman_blobs.specs.Difference.Named.{NamedNode}
use Rattle.dtman_blobs.specs.Difference.Seen.{Part, seen}
use Rattle.dtman_blobs.specs.Difference.SameBoard.{is_own_phandle, AreSameNodes}
use Rattle.dtman_blobs.specs.Difference.Private.Differences.{property_told, node_told, is_new, properties_alone, nodes_alone, own_differences, shared_differences, node_differences}
use Rattle.dtman_blobs.specs.Difference.Private.Tests.{same_parts, is_same_value, is_alone}
use Rattle.dtman_blobs.proofs.DifferenceLemmas.ListedLemmas.{join-nil, listed-more, listed-nil, split-nil}
use Rattle.dtman_blobs.proofs.DifferenceLemmas.PartLemmas.{parts-equal, parts-refl}

abbrev pub Names : Type 0
Names = ℕ → Option NamedNode

pub true-false : {A : Type 0} → true ≡ false → A
true-false e = absurd (cc e)

-- ---- properties
-- a value, as it is seen under a name
abbrev shown : Names → List ℕ → Option (List ℕ) → Option (List Part)
shown n name o = option_map (seen n name) o

not-alone : (n n' : Names) (p : Property) (o : Option (List ℕ)) (t : Bool) → is_own_phandle p.name ≡ t → t ≡ false → not (t || is_same_value n n' p o) ≡ false → Some (seen n p.name p.value) ≡ shown n' p.name o
not-alone n n' p o true e f h = true-false f
not-alone n n' p None false e f h = true-false h
not-alone n n' p (Some w) false e f h = by_test (same_parts (seen n p.name p.value) (seen n' p.name w)) refl h where
  by_test : (t : Bool) → same_parts (seen n p.name p.value) (seen n' p.name w) ≡ t → not t ≡ false → Some (seen n p.name p.value) ≡ Some (seen n' p.name w)
  by_test true e h = ap (λ (l : List Part). Some l) (parts-equal (seen n p.name p.value) (seen n' p.name w) e)
  by_test false e h = true-false h

-- where none of the properties is alone, each value is the other's
none-alone : (n n' : Names) (is_first : Bool) (text : List ℕ) (ps qs : List Property) → properties_alone is_first text n n' ps qs ≡ [] → (name : List ℕ) → is_own_phandle name ≡ false → (v : List ℕ)
    → value_of ps name ≡ Some v → Some (seen n name v) ≡ shown n' name (value_of qs name)
none-alone n n' is_first text [] qs h name counts v is = absurd (cc)
none-alone n n' is_first text (p ∷ ps) qs h name counts v is =
    let parts = listed-nil (is_alone n n' qs) (property_told is_first text) p ps _ refl h in
    by_name (bytes_eq p.name name) refl is parts.0 (none-alone n n' is_first text ps qs parts.1 name counts v) where
      by_name : (t : Bool) → bytes_eq p.name name ≡ t → (if t then Some p.value else value_of ps name) ≡ Some v → is_alone n n' qs p ≡ false
          → (value_of ps name ≡ Some v → Some (seen n name v) ≡ shown n' name (value_of qs name)) → Some (seen n name v) ≡ shown n' name (value_of qs name)
      by_name true e is fails others =
          let same : p.name ≡ name = (bytes_eq-Decides p.name name).0 e in
          let value : p.value ≡ v = some_inj p.value v is in
          let own : is_own_phandle p.name ≡ false = ap is_own_phandle same ∙ counts in
          let at_p : Some (seen n p.name p.value) ≡ shown n' p.name (value_of qs p.name) = not-alone n n' p (value_of qs p.name) (is_own_phandle p.name) refl own fails in
          subst (λ (m : List ℕ). Some (seen n m v) ≡ shown n' m (value_of qs m)) same (subst (λ (w : List ℕ). Some (seen n p.name w) ≡ shown n' p.name (value_of qs p.name)) value at_p)
      by_name false e is fails others = others is

values-agree : (n n' : Names) (text : List ℕ) (ps qs : List Property) → properties_alone true text n n' ps qs ≡ [] → properties_alone false text n' n qs ps ≡ [] → (name : List ℕ) → is_own_phandle name ≡ false
    → shown n name (value_of ps name) ≡ shown n' name (value_of qs name)
values-agree n n' text ps qs first second name counts = by_values (value_of ps name) refl (value_of qs name) refl where
  by_values : (o : Option (List ℕ)) → value_of ps name ≡ o → (o' : Option (List ℕ)) → value_of qs name ≡ o' → shown n name o ≡ shown n' name o'
  by_values (Some v) e o' e' = none-alone n n' true text ps qs first name counts v e ∙ ap (shown n' name) e'
  by_values None e None e' = refl
  by_values None e (Some w) e' = absurd (let h : Some (seen n' name w) ≡ shown n name (value_of ps name) = none-alone n' n false text qs ps second name counts w e' in let g : Some (seen n' name w) ≡ None = h ∙ ap (shown n name) e in cc g)

-- each of the properties is found under its name
abbrev pub AreFound : List Property → List Property → Type 0
AreFound all [] = Unit {0}
AreFound all (p ∷ ps) = (value_of all p.name ≡ Some p.value) × AreFound all ps

or-false : (a b : Bool) → (a || b) ≡ false → (a ≡ false) × (b ≡ false)
or-false true b e = true-false e
or-false false b e = (refl, e)

found-behind : (q : Property) (all ps : List Property) → is_among q.name (property_names ps) ≡ false → AreFound all ps → AreFound (q ∷ all) ps
found-behind q all [] absent found = tt
found-behind q all (p ∷ ps) absent found =
    let parts = or-false (bytes_eq p.name q.name) (is_among q.name (property_names ps)) absent in
    let other : bytes_eq q.name p.name ≡ false = bytes_eq-sym p.name q.name false parts.0 in
    (rw other found.0, found-behind q all ps parts.1 found.1)

pub all-found : (ps : List Property) → are_distinct (property_names ps) ≡ true → AreFound ps ps
all-found [] d = tt
all-found (p ∷ ps) d =
    (rw (bytes_eq-refl p.name) refl, found-behind p ps ps (distinct_head p.name (property_names ps) _ refl d) (all-found ps (distinct_tail p.name (property_names ps) _ refl d)))

is-not-alone : (n n' : Names) (p : Property) (o : Option (List ℕ)) (t : Bool) → is_own_phandle p.name ≡ t → (t ≡ false → Some (seen n p.name p.value) ≡ shown n' p.name o) → not (t || is_same_value n n' p o) ≡ false
is-not-alone n n' p o true e same = refl
is-not-alone n n' p None false e same = absurd (cc (same refl))
is-not-alone n n' p (Some w) false e same =
    let equal : seen n p.name p.value ≡ seen n' p.name w = some_inj (seen n p.name p.value) (seen n' p.name w) (same refl) in
    ap not (ap (λ (l : List Part). same_parts l (seen n' p.name w)) equal ∙ parts-refl (seen n' p.name w))

alone-none : (n n' : Names) (is_first : Bool) (text : List ℕ) (all qs ps : List Property) → ((name : List ℕ) → is_own_phandle name ≡ false → shown n name (value_of all name) ≡ shown n' name (value_of qs name))
    → AreFound all ps → properties_alone is_first text n n' ps qs ≡ []
alone-none n n' is_first text all qs [] same found = refl
alone-none n n' is_first text all qs (p ∷ ps) same found =
    listed-more (is_alone n n' qs) (property_told is_first text) p ps
    (is-not-alone n n' p (value_of qs p.name) (is_own_phandle p.name) refl (λ counts. sym (ap (shown n p.name) found.0) ∙ same p.name counts))
    (alone-none n n' is_first text all qs ps same found.1)

-- ---- children
not-false : (t : Bool) → not t ≡ false → t ≡ true
not-false true e = refl
not-false false e = true-false e

none-new : (is_first : Bool) (text : List ℕ) (names : List (List ℕ)) (f : Siblings) → nodes_alone is_first text (nodes_of f) names ≡ [] → (k : List ℕ) → is_among k (child_names f) ≡ true → is_among k names ≡ true
none-new is_first text names none h k there = true-false (sym there)
none-new is_first text names (more n p kids rest) h k there =
    let parts = listed-nil (is_new names) (node_told is_first text) (node_data n p kids) (nodes_of rest) _ refl h in
    by_name (bytes_eq n k) refl there (not-false (is_among n names) parts.0) (none-new is_first text names rest parts.1 k) where
      by_name : (t : Bool) → bytes_eq n k ≡ t → (t || is_among k (child_names rest)) ≡ true → is_among n names ≡ true → (is_among k (child_names rest) ≡ true → is_among k names ≡ true) → is_among k names ≡ true
      by_name true e there here others = ap (λ (m : List ℕ). is_among m names) (sym ((bytes_eq-Decides n k).0 e)) ∙ here
      by_name false e there here others = others there

pub or-true : (a : Bool) → (a || true) ≡ true
or-true true = refl
or-true false = refl

new-none : (is_first : Bool) (text : List ℕ) (names : List (List ℕ)) (f : Siblings) → ((k : List ℕ) → is_among k (child_names f) ≡ true → is_among k names ≡ true) → nodes_alone is_first text (nodes_of f) names ≡ []
new-none is_first text names none all = refl
new-none is_first text names (more n p kids rest) all =
    listed-more (is_new names) (node_told is_first text) (node_data n p kids) (nodes_of rest)
    (ap not (all n (ap (λ (t : Bool). t || is_among n (child_names rest)) (bytes_eq-refl n))))
    (new-none is_first text names rest (λ k there. all k (ap (λ (t : Bool). bytes_eq n k || t) there ∙ or-true (bytes_eq n k))))

-- ---- from nothing listed to the same nodes
module _ (n n' : Names) where
  record OwnParts (text : List ℕ) (a b : NodeData) : Type 0 where
    pub first : properties_alone true text n n' a.properties b.properties ≡ []
    pub second : properties_alone false text n' n b.properties a.properties ≡ []
    pub nodes : nodes_alone true text (nodes_of a.children) (child_names b.children) ≡ []
    pub others : nodes_alone false text (nodes_of b.children) (child_names a.children) ≡ []
    pub shared : shared_differences n n' text a.children b.children ≡ []

  own-parts : (text : List ℕ) (a b : NodeData) → node_differences n n' text a b ≡ [] → OwnParts text a b
  own-parts text a b h =
      let w = split-nil (own_differences n n' text a b) (shared_differences n n' text a.children b.children) h in
      let p = split-nil (properties_alone true text n n' a.properties b.properties) _ w.0 in
      let q = split-nil (properties_alone false text n' n b.properties a.properties) _ p.1 in
      let r = split-nil (nodes_alone true text (nodes_of a.children) (child_names b.children)) _ q.1 in
      record { first = p.0; second = q.0; nodes = r.0; others = r.1; shared = w.1 }

  abbrev Nothing : NodeData → NodeData → Type 0
  Nothing c d = (text : List ℕ) × (node_differences n n' text c d ≡ [])

  -- the children that both have under a name
  shared-nothing : (f g : Siblings) (text : List ℕ) → shared_differences n n' text f g ≡ [] → (k : List ℕ) (c d : NodeData) → child_named f k ≡ Some c → child_named g k ≡ Some d → Nothing c d
  shared-nothing none g text h k c d e e' = absurd (cc)
  shared-nothing (more m p kids rest) g text h k c d e e' =
      let below : List ℕ = text ++ 47 ∷ m in
      let parts = split-nil (option_map_or (λ b. own_differences n n' (text ++ 47 ∷ m) (node_data m p kids) b ++ shared_differences n n' (text ++ 47 ∷ m) kids b.children) (child_named g m) []) (shared_differences n n' text rest g) h in
      by_name (bytes_eq m k) refl e parts.0 (shared-nothing rest g text parts.1 k c d) where
        by_name : (t : Bool) → bytes_eq m k ≡ t → (if t then Some (node_data m p kids) else child_named rest k) ≡ Some c
            → option_map_or (λ b. own_differences n n' (text ++ 47 ∷ m) (node_data m p kids) b ++ shared_differences n n' (text ++ 47 ∷ m) kids b.children) (child_named g m) [] ≡ []
            → (child_named rest k ≡ Some c → child_named g k ≡ Some d → Nothing c d) → Nothing c d
        by_name true t is here others =
            let there : child_named g m ≡ Some d = ap (λ (j : List ℕ). child_named g j) ((bytes_eq-Decides m k).0 t) ∙ e' in
            let same : node_data m p kids ≡ c = some_inj (node_data m p kids) c is in (
              text ++ 47 ∷ m,
              subst (λ (x : NodeData). node_differences n n' (text ++ 47 ∷ m) x d ≡ []) same
                  (sym (ap (λ (o : Option NodeData). option_map_or (λ b. own_differences n n' (text ++ 47 ∷ m) (node_data m p kids) b ++ shared_differences n n' (text ++ 47 ∷ m) kids b.children) o []) there) ∙ here),
            )
        by_name false t is here others = others is e'

  -- what stands at a path below two nodes is the same
  record SameBelow (path : List (List ℕ)) (o o' : Option NodeData) : Type 0 where
    pub has : is_some (option_and_then (λ c. node_at c path) o) ≡ is_some (option_and_then (λ c. node_at c path) o')
    pub value : (name : List ℕ) → is_own_phandle name ≡ false
        → shown n name (option_and_then (λ ps. value_of ps name) (option_map (λ b. b.properties) (option_and_then (λ c. node_at c path) o)))
        ≡ shown n' name (option_and_then (λ ps. value_of ps name) (option_map (λ b. b.properties) (option_and_then (λ c. node_at c path) o')))

  same-below : (path : List (List ℕ)) (a b : NodeData) → Nothing a b → SameBelow path (Some a) (Some b)
  same-below [] a b h =
      let parts = own-parts h.0 a b h.1 in
      record { has = refl; value = λ name counts. values-agree n n' h.0 a.properties b.properties parts.first parts.second name counts }
  same-below (k ∷ ks) a b h = let s = through (child_named a.children k) refl (child_named b.children k) refl (λ c d below. same-below ks c d below) in record { has = s.has; value = s.value } where
    parts : OwnParts h.0 a b
    parts = own-parts h.0 a b h.1

    through : (o : Option NodeData) → child_named a.children k ≡ o → (o' : Option NodeData) → child_named b.children k ≡ o' → ((c d : NodeData) → Nothing c d → SameBelow ks (Some c) (Some d)) → SameBelow ks o o'
    through None e None e' ih = record { has = refl; value = λ name counts. refl }
    through None e (Some d) e' ih =
        let there : is_among k (child_names b.children) ≡ true = sym (child-among b.children k) ∙ ap (λ (o : Option NodeData). is_some o) e' in
        let here : is_among k (child_names a.children) ≡ true = none-new false h.0 (child_names a.children) b.children parts.others k there in
        true-false (sym here ∙ sym (child-among a.children k) ∙ ap (λ (o : Option NodeData). is_some o) e)
    through (Some c) e None e' ih =
        let here : is_among k (child_names a.children) ≡ true = sym (child-among a.children k) ∙ ap (λ (o : Option NodeData). is_some o) e in
        let there : is_among k (child_names b.children) ≡ true = none-new true h.0 (child_names b.children) a.children parts.nodes k here in
        true-false (sym there ∙ sym (child-among b.children k) ∙ ap (λ (o : Option NodeData). is_some o) e')
    through (Some c) e (Some d) e' ih = ih c d (shared-nothing a.children b.children h.0 parts.shared k c d e e')

  pub nothing-same : (text : List ℕ) (a b : NodeData) → node_differences n n' text a b ≡ [] → AreSameNodes n n' (path_map a) (path_map b)
  nothing-same text a b h = record {
    has = λ path. (same-below path a b (text, h)).has;
    value = λ path name counts. (same-below path a b (text, h)).value name counts;
  }

  -- ---- and back
  abbrev pub Same : NodeData → NodeData → Type 0
  Same a b = AreSameNodes n n' (path_map a) (path_map b)

  -- the same below a child that both have
  pub same-child : (a b : NodeData) → Same a b → (k : List ℕ) (c d : NodeData) → child_named a.children k ≡ Some c → child_named b.children k ≡ Some d → Same c d
  same-child a b s k c d e e' = record {
    has = λ path.
        ap (λ (o : Option NodeData). is_some (option_and_then (λ x. node_at x path) o)) (sym e) ∙ s.has (k ∷ path)
        ∙ ap (λ (o : Option NodeData). is_some (option_and_then (λ x. node_at x path) o)) e';
    value = λ path name counts.
        ap (λ (o : Option NodeData). shown n name (option_and_then (λ ps. value_of ps name) (option_map (λ (b : NodeData). b.properties) (option_and_then (λ x. node_at x path) o)))) (sym e)
        ∙ s.value (k ∷ path) name counts
        ∙ ap (λ (o : Option NodeData). shown n' name (option_and_then (λ ps. value_of ps name) (option_map (λ (b : NodeData). b.properties) (option_and_then (λ x. node_at x path) o)))) e';
  }

  some-some : (o : Option NodeData) → is_some (option_and_then (λ (c : NodeData). Some c) o) ≡ is_some o
  some-some None = refl
  some-some (Some c) = refl

  pub same-names : (a b : NodeData) → Same a b → (k : List ℕ) → is_among k (child_names a.children) ≡ is_among k (child_names b.children)
  same-names a b s k =
      sym (child-among a.children k) ∙ sym (some-some (child_named a.children k)) ∙ s.has (k ∷ [])
      ∙ some-some (child_named b.children k) ∙ child-among b.children k

  own-nothing : (text : List ℕ) (a b : NodeData) → IsSoundInside a → IsSoundInside b → Same a b → own_differences n n' text a b ≡ []
  own-nothing text a b sound sound' s =
      join-nil (properties_alone true text n n' a.properties b.properties) _
      (alone-none n n' true text a.properties b.properties a.properties (λ name counts. s.value [] name counts) (all-found a.properties sound.properties.distinct))
      (join-nil (properties_alone false text n' n b.properties a.properties) _
      (alone-none n' n false text b.properties a.properties b.properties (λ name counts. sym (s.value [] name counts)) (all-found b.properties sound'.properties.distinct))
      (join-nil (nodes_alone true text (nodes_of a.children) (child_names b.children)) _
      (new-none true text (child_names b.children) a.children (λ k there. sym (same-names a b s k) ∙ there))
      (new-none false text (child_names a.children) b.children (λ k there. same-names a b s k ∙ there))))

  -- each of the nodes is found under its name
  abbrev pub AreFoundNodes : Siblings → Siblings → Type 0
  AreFoundNodes all none = Unit {0}
  AreFoundNodes all (more m p kids rest) = (child_named all m ≡ Some (node_data m p kids)) × AreFoundNodes all rest

  nodes-behind : (m : List ℕ) (p : List Property) (kids all f : Siblings) → is_among m (child_names f) ≡ false → AreFoundNodes all f → AreFoundNodes (more m p kids all) f
  nodes-behind m p kids all none absent found = tt
  nodes-behind m p kids all (more k q below rest) absent found =
      let parts = or-false (bytes_eq k m) (is_among m (child_names rest)) absent in
      let other : bytes_eq m k ≡ false = bytes_eq-sym k m false parts.0 in
      (rw other found.0, nodes-behind m p kids all rest parts.1 found.1)

  pub all-nodes-found : (f : Siblings) → are_distinct (child_names f) ≡ true → AreFoundNodes f f
  all-nodes-found none d = tt
  all-nodes-found (more m p kids rest) d =
      (rw (bytes_eq-refl m) refl, nodes-behind m p kids rest rest (distinct_head m (child_names rest) _ refl d) (all-nodes-found rest (distinct_tail m (child_names rest) _ refl d)))

  abbrev pub AgreeBelow : Siblings → Siblings → Type 0
  AgreeBelow all g = (k : List ℕ) (c d : NodeData) → child_named all k ≡ Some c → child_named g k ≡ Some d → Same c d

  shared-none : (f all g : Siblings) (text : List ℕ) → IsSoundBelow f → IsSoundBelow g → AreFoundNodes all f → AgreeBelow all g → shared_differences n n' text f g ≡ []
  shared-none none all g text sound sound' found agree = refl
  shared-none (more m p kids rest) all g text sound sound' found agree =
      join-nil (option_map_or (λ b. own_differences n n' (text ++ 47 ∷ m) (node_data m p kids) b ++ shared_differences n n' (text ++ 47 ∷ m) kids b.children) (child_named g m) []) _
      (by_child (child_named g m) refl (λ d. shared-none kids kids d.children (text ++ 47 ∷ m) sound.2)) (shared-none rest all g text sound.3 sound' found.1 agree) where
        inside_this : IsSoundInside (node_data m p kids)
        inside_this = record { properties = sound.0; siblings = sound.1; below = sound.2 }

        by_child : (o : Option NodeData) → child_named g m ≡ o
            → ((d : NodeData) → IsSoundBelow d.children → AreFoundNodes kids kids → AgreeBelow kids d.children → shared_differences n n' (text ++ 47 ∷ m) kids d.children ≡ [])
            → option_map_or (λ b. own_differences n n' (text ++ 47 ∷ m) (node_data m p kids) b ++ shared_differences n n' (text ++ 47 ∷ m) kids b.children) o [] ≡ []
        by_child None e below = refl
        by_child (Some d) e below =
            let s : Same (node_data m p kids) d = agree m (node_data m p kids) d found.0 e in
            let of_d : IsSoundInside d = found_child g sound' m d e in
            join-nil (own_differences n n' (text ++ 47 ∷ m) (node_data m p kids) d) (shared_differences n n' (text ++ 47 ∷ m) kids d.children)
            (own-nothing (text ++ 47 ∷ m) (node_data m p kids) d inside_this of_d s)
            (below d of_d.below (all-nodes-found kids sound.1.distinct) (same-child (node_data m p kids) d s))

  pub same-nothing : (text : List ℕ) (a b : NodeData) → IsSoundInside a → IsSoundInside b → Same a b → node_differences n n' text a b ≡ []
  same-nothing text a b sound sound' s =
      join-nil (own_differences n n' text a b) (shared_differences n n' text a.children b.children)
      (own-nothing text a b sound sound' s)
      (shared-none a.children a.children b.children text sound.below sound'.below (all-nodes-found a.children sound.siblings.distinct) (same-child a b s))
