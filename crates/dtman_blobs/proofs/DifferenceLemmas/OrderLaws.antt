-- Of one board, nothing stands in another order exactly where the names at each path are in one order.
use Rattle.std.proofs.Common.{◌≡◌, ℕ, ◌+◌, Bool, true, false, not, ◌&&◌, ◌||◌, if◌then◌else◌, filter, List, [], ◌∷◌, Option, Some, None, is_some, option_and_then, refl, ap, sym, ◌∙◌, subst, arith}
use Rattle.std.specs.Bool.{Decides}
use Rattle.std.specs.Cmp.Lexicographic.{pointwise}
use Rattle.std.specs.Option.{option_map}
use Rattle.std.specs.Str.{bytes_eq}
use Rattle.std.proofs.lemmas.Slice.Eq.{bytes_eq-Decides, slice_eq-Decides}
use Rattle.dt_tree.specs.declared.property.Property.{Property}
use Rattle.dt_tree.specs.NodeData.{Siblings, none, more, NodeData, node_data, nodes_of, child_names, property_names}
use Rattle.dt_tree.specs.PathMap.{child_named, node_at, value_of, path_map}
use Rattle.dt_tree.specs.Sound.{is_among, IsSoundBelow}
use Rattle.dt_tree.specs.TreeData.{TreeData, IsTree}
use Rattle.dt_tree.proofs.Places.{bytes_eq-refl, child-among, found_child, inside, IsSoundInside, some_inj}
use Rattle.dtman_blobs.specs.Difference.Named.{named_by}
use Rattle.dtman_blobs.specs.Difference.SameBoard.{is_own_phandle}
use Rattle.dtman_blobs.specs.Difference.SameOrder.{AreInOneOrder, TellsOrder}
use Rattle.dtman_blobs.specs.Difference.Private.Orders.{moves, moves_below, node_moves, own_moves, shared_nodes, shared_properties}
use Rattle.dtman_blobs.proofs.DifferenceLemmas.OrderLemmas.{moves_in_child}
use Rattle.dtman_blobs.proofs.DifferenceLemmas.SameNodes.{all-found, all-nodes-found, AgreeBelow, AreFound, AreFoundNodes, Names, or-true, Same, same-child, same-names, true-false}

-- ---- lists of names
names-decided : (xs ys : List (List ℕ)) → Decides (pointwise bytes_eq xs ys) (xs ≡ ys)
names-decided xs ys = slice_eq-Decides bytes_eq-Decides xs ys (pointwise bytes_eq xs ys) refl

abbrev count_of : Bool → ℕ
count_of t = if t then 0 else 1

moves-equal : (xs ys : List (List ℕ)) → moves xs ys ≡ 0 → xs ≡ ys
moves-equal xs ys h = by_test (pointwise bytes_eq xs ys) refl h where
  by_test : (t : Bool) → pointwise bytes_eq xs ys ≡ t → count_of t ≡ 0 → xs ≡ ys
  by_test true e h = (names-decided xs ys).0 e
  by_test false e h = absurd (omega arith)

equal-moves : (xs ys : List (List ℕ)) → xs ≡ ys → moves xs ys ≡ 0
equal-moves xs ys e = ap count_of ((names-decided xs ys).1 e)

sum-none : (x y : ℕ) → x + y ≡ 0 → (x ≡ 0) × (y ≡ 0)
sum-none x y h = (omega arith, omega arith)

none-sum : (x y : ℕ) → x ≡ 0 → y ≡ 0 → x + y ≡ 0
none-sum x y e f = omega arith

some-map : {A B : Type 0} (f : A → B) (o : Option A) → is_some (option_map f o) ≡ is_some o
some-map f None = refl
some-map f (Some x) = refl

-- ---- what is shared is all that counts
abbrev counts : List ℕ → Bool
counts n = not (is_own_phandle n)

abbrev counted : List Property → List (List ℕ)
counted ps = filter counts (property_names ps)

all-shared : (names : List (List ℕ)) (f : Siblings) → ((k : List ℕ) → is_among k (child_names f) ≡ true → is_among k names ≡ true) → shared_nodes names (nodes_of f) ≡ child_names f
all-shared names none all = refl
all-shared names (more n p kids rest) all =
    let left = shared_nodes names (nodes_of rest) in
    ap (λ (t : Bool). if t then n ∷ left else left) (all n (ap (λ (t : Bool). t || is_among n (child_names rest)) (bytes_eq-refl n)))
    ∙ ap (λ (l : List (List ℕ)). n ∷ l) (all-shared names rest (λ k there. all k (ap (λ (t : Bool). bytes_eq n k || t) there ∙ or-true (bytes_eq n k))))

all-counted : (qs all ps : List Property) → ((name : List ℕ) → is_own_phandle name ≡ false → is_some (value_of all name) ≡ is_some (value_of qs name)) → AreFound all ps
    → shared_properties qs ps ≡ counted ps
all-counted qs all [] same found = refl
all-counted qs all (p ∷ ps) same found = by_test (is_own_phandle p.name) refl (all-counted qs all ps same found.1) where
  left : List (List ℕ)
  left = shared_properties qs ps

  by_test : (t : Bool) → is_own_phandle p.name ≡ t → shared_properties qs ps ≡ counted ps
      → (if not (is_own_phandle p.name) && is_some (value_of qs p.name) then p.name ∷ shared_properties qs ps else shared_properties qs ps)
      ≡ (if not (is_own_phandle p.name) then p.name ∷ counted ps else counted ps)
  by_test true e others =
      ap (λ (t : Bool). if not t && is_some (value_of qs p.name) then p.name ∷ shared_properties qs ps else shared_properties qs ps) e
      ∙ others ∙ sym (ap (λ (t : Bool). if not t then p.name ∷ counted ps else counted ps) e)
  by_test false e others =
      ap (λ (t : Bool). if not t && is_some (value_of qs p.name) then p.name ∷ shared_properties qs ps else shared_properties qs ps) e
      ∙ ap (λ (t : Bool). if t then p.name ∷ shared_properties qs ps else shared_properties qs ps) (sym (same p.name e) ∙ ap (λ (o : Option (List ℕ)). is_some o) found.0)
      ∙ ap (λ (l : List (List ℕ)). p.name ∷ l) others ∙ sym (ap (λ (t : Bool). if not t then p.name ∷ counted ps else counted ps) e)

module _ (n n' : Names) where
  record SharedLists (a b : NodeData) : Type 0 where
    pub properties : shared_properties b.properties a.properties ≡ counted a.properties
    pub others : shared_properties a.properties b.properties ≡ counted b.properties
    pub children : shared_nodes (child_names b.children) (nodes_of a.children) ≡ child_names a.children
    pub siblings : shared_nodes (child_names a.children) (nodes_of b.children) ≡ child_names b.children

  are-there : (a b : NodeData) → Same n n' a b → (name : List ℕ) → is_own_phandle name ≡ false → is_some (value_of a.properties name) ≡ is_some (value_of b.properties name)
  are-there a b s name c =
      sym (some-map _ (value_of a.properties name)) ∙ ap (λ o. is_some o) (s.value [] name c) ∙ some-map _ (value_of b.properties name)

  shared-lists : (a b : NodeData) → IsSoundInside a → IsSoundInside b → Same n n' a b → SharedLists a b
  shared-lists a b sound sound' s = record {
    properties = all-counted b.properties a.properties a.properties (are-there a b s) (all-found a.properties sound.properties.distinct);
    others = all-counted a.properties b.properties b.properties (λ name c. sym (are-there a b s name c)) (all-found b.properties sound'.properties.distinct);
    children = all-shared (child_names b.children) a.children (λ k there. sym (same-names n n' a b s k) ∙ there);
    siblings = all-shared (child_names a.children) b.children (λ k there. same-names n n' a b s k ∙ there);
  }

  -- ---- from nothing in another order to one order
  child-moves : (f g : Siblings) → moves_below f g ≡ 0 → (k : List ℕ) (c d : NodeData) → child_named f k ≡ Some c → child_named g k ≡ Some d → node_moves c d ≡ 0
  child-moves none g h k c d e e' = absurd (cc)
  child-moves (more m p kids rest) g h k c d e e' =
      let parts = sum-none (moves_in_child g (node_data m p kids) (child_named g m)) (moves_below rest g) h in
      by_name (bytes_eq m k) refl e parts.0 (child-moves rest g parts.1 k c d) where
        by_name : (t : Bool) → bytes_eq m k ≡ t → (if t then Some (node_data m p kids) else child_named rest k) ≡ Some c → moves_in_child g (node_data m p kids) (child_named g m) ≡ 0
            → (child_named rest k ≡ Some c → child_named g k ≡ Some d → node_moves c d ≡ 0) → node_moves c d ≡ 0
        by_name true t is here others =
            let there : child_named g m ≡ Some d = ap (λ (j : List ℕ). child_named g j) ((bytes_eq-Decides m k).0 t) ∙ e' in
            subst (λ (x : NodeData). node_moves x d ≡ 0) (some_inj (node_data m p kids) c is) (sym (ap (moves_in_child g (node_data m p kids)) there) ∙ here)
        by_name false t is here others = others is e'

  -- what stands at a path below two nodes is in one order
  record OneOrderBelow (path : List (List ℕ)) (o o' : Option NodeData) : Type 0 where
    pub properties : option_map (λ names. filter counts names) (option_map property_names (option_map (λ (x : NodeData). x.properties) (option_and_then (λ c. node_at c path) o)))
        ≡ option_map (λ names. filter counts names) (option_map property_names (option_map (λ (x : NodeData). x.properties) (option_and_then (λ c. node_at c path) o')))
    pub children : option_map (λ (x : NodeData). child_names x.children) (option_and_then (λ c. node_at c path) o) ≡ option_map (λ (x : NodeData). child_names x.children) (option_and_then (λ c. node_at c path) o')

  order-below : (path : List (List ℕ)) (a b : NodeData) → IsSoundInside a → IsSoundInside b → Same n n' a b → node_moves a b ≡ 0 → OneOrderBelow path (Some a) (Some b)
  order-below [] a b sound sound' s h =
      let own = sum-none (own_moves a b) (moves_below a.children b.children) h in
      let parts = sum-none (moves (shared_properties b.properties a.properties) (shared_properties a.properties b.properties)) _ own.0 in
      let lists = shared-lists a b sound sound' s in
      record {
        properties = ap (λ (l : List (List ℕ)). Some l) (sym lists.properties ∙ moves-equal _ _ parts.0 ∙ lists.others);
        children = ap (λ (l : List (List ℕ)). Some l) (sym lists.children ∙ moves-equal _ _ parts.1 ∙ lists.siblings);
      }
  order-below (k ∷ ks) a b sound sound' s h =
      let found = through (child_named a.children k) refl (child_named b.children k) refl (λ c d sc sd same none. order-below ks c d sc sd same none) in
      record { properties = found.properties; children = found.children } where
        through : (o : Option NodeData) → child_named a.children k ≡ o → (o' : Option NodeData) → child_named b.children k ≡ o'
            → ((c d : NodeData) → IsSoundInside c → IsSoundInside d → Same n n' c d → node_moves c d ≡ 0 → OneOrderBelow ks (Some c) (Some d)) → OneOrderBelow ks o o'
        through None e None e' ih = record { properties = refl; children = refl }
        through None e (Some d) e' ih =
            true-false (sym (ap (λ (o : Option NodeData). is_some o) e') ∙ child-among b.children k ∙ sym (same-names n n' a b s k) ∙ sym (child-among a.children k) ∙ ap (λ (o : Option NodeData). is_some o) e)
        through (Some c) e None e' ih =
            true-false (sym (ap (λ (o : Option NodeData). is_some o) e) ∙ child-among a.children k ∙ same-names n n' a b s k ∙ sym (child-among b.children k) ∙ ap (λ (o : Option NodeData). is_some o) e')
        through (Some c) e (Some d) e' ih =
            ih c d (found_child a.children sound.below k c e) (found_child b.children sound'.below k d e') (same-child n n' a b s k c d e e')
            (child-moves a.children b.children (sum-none (own_moves a b) (moves_below a.children b.children) h).1 k c d e e')

  -- ---- and back
  abbrev InOrder : NodeData → NodeData → Type 0
  InOrder a b = AreInOneOrder (path_map a) (path_map b)

  order-child : (a b : NodeData) → InOrder a b → (k : List ℕ) (c d : NodeData) → child_named a.children k ≡ Some c → child_named b.children k ≡ Some d → InOrder c d
  order-child a b s k c d e e' = record {
    properties = λ path.
        ap (λ (o : Option NodeData). option_map (λ names. filter counts names) (option_map property_names (option_map (λ (x : NodeData). x.properties) (option_and_then (λ x. node_at x path) o)))) (sym e)
        ∙ s.properties (k ∷ path)
        ∙ ap (λ (o : Option NodeData). option_map (λ names. filter counts names) (option_map property_names (option_map (λ (x : NodeData). x.properties) (option_and_then (λ x. node_at x path) o)))) e';
    children = λ path.
        ap (λ (o : Option NodeData). option_map (λ (x : NodeData). child_names x.children) (option_and_then (λ x. node_at x path) o)) (sym e) ∙ s.children (k ∷ path)
        ∙ ap (λ (o : Option NodeData). option_map (λ (x : NodeData). child_names x.children) (option_and_then (λ x. node_at x path) o)) e';
  }

  own-none : (a b : NodeData) → IsSoundInside a → IsSoundInside b → Same n n' a b → InOrder a b → own_moves a b ≡ 0
  own-none a b sound sound' s order =
      let lists = shared-lists a b sound sound' s in
      none-sum (moves (shared_properties b.properties a.properties) (shared_properties a.properties b.properties)) _
      (equal-moves _ _ (lists.properties ∙ some_inj (counted a.properties) (counted b.properties) (order.properties []) ∙ sym lists.others))
      (equal-moves _ _ (lists.children ∙ some_inj (child_names a.children) (child_names b.children) (order.children []) ∙ sym lists.siblings))

  abbrev OrderBelow : Siblings → Siblings → Type 0
  OrderBelow all g = (k : List ℕ) (c d : NodeData) → child_named all k ≡ Some c → child_named g k ≡ Some d → InOrder c d

  none-below : (f all g : Siblings) → IsSoundBelow f → IsSoundBelow g → AreFoundNodes n n' all f → AgreeBelow n n' all g → OrderBelow all g → moves_below f g ≡ 0
  none-below none all g sound sound' found agree order = refl
  none-below (more m p kids rest) all g sound sound' found agree order =
      none-sum (moves_in_child g (node_data m p kids) (child_named g m)) (moves_below rest g)
      (by_child (child_named g m) refl (λ d. none-below kids kids d.children sound.2)) (none-below rest all g sound.3 sound' found.1 agree order) where
        inside_this : IsSoundInside (node_data m p kids)
        inside_this = record { properties = sound.0; siblings = sound.1; below = sound.2 }

        by_child : (o : Option NodeData) → child_named g m ≡ o
            → ((d : NodeData) → IsSoundBelow d.children → AreFoundNodes n n' kids kids → AgreeBelow n n' kids d.children → OrderBelow kids d.children → moves_below kids d.children ≡ 0)
            → moves_in_child g (node_data m p kids) o ≡ 0
        by_child None e below = refl
        by_child (Some d) e below =
            let s : Same n n' (node_data m p kids) d = agree m (node_data m p kids) d found.0 e in
            let inside_d : IsSoundInside d = found_child g sound' m d e in
            let in_order : InOrder (node_data m p kids) d = order m (node_data m p kids) d found.0 e in
            none-sum (own_moves (node_data m p kids) d) (moves_below kids d.children)
            (own-none (node_data m p kids) d inside_this inside_d s in_order)
            (below d inside_d.below (all-nodes-found n n' kids sound.1.distinct) (same-child n n' (node_data m p kids) d s) (order-child (node_data m p kids) d in_order))

pub one-order : (a b : TreeData) → IsTree a → IsTree b → (moved : ℕ) → moved ≡ node_moves a.root b.root → TellsOrder a b moved
one-order a b is is' moved is_moves same = (forth, back) where
  first : Names
  first = named_by a.root

  second : Names
  second = named_by b.root

  sound : IsSoundInside a.root
  sound = inside a.root is.sound

  sound' : IsSoundInside b.root
  sound' = inside b.root is'.sound

  forth : moved ≡ 0 → AreInOneOrder (path_map a.root) (path_map b.root)
  forth h = record {
    properties = λ path. (order-below first second path a.root b.root sound sound' same.nodes (sym is_moves ∙ h)).properties;
    children = λ path. (order-below first second path a.root b.root sound sound' same.nodes (sym is_moves ∙ h)).children;
  }

  back : AreInOneOrder (path_map a.root) (path_map b.root) → moved ≡ 0
  back order =
      is_moves
      ∙ none-sum (own_moves a.root b.root) (moves_below a.root.children b.root.children)
      (own-none first second a.root b.root sound sound' same.nodes order)
      (none-below first second a.root.children a.root.children b.root.children sound.below sound'.below (all-nodes-found first second a.root.children sound.siblings.distinct)
      (same-child first second a.root b.root same.nodes) (order-child first second a.root b.root order))
