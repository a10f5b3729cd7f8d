-- The open nodes of a tree builder as one tree: a node more, and a node that gets no more children.
use Rattle.std.proofs.Common.{◌≡◌, ℕ, ◌+◌, ◌-◌, ◌≤◌, ◌<◌, max, Bool, true, false, not, ◌&&◌, ◌||◌, List, [], ◌∷◌, ◌++◌, length, map, take, if◌then◌else◌, refl, sym, ap, ap₂, ◌∙◌, subst, append_assoc, append-nil, length-append, arith}
use Rattle.std.specs.List.{list_all}
use Rattle.std.specs.Str.{bytes_eq}
use Rattle.std.proofs.Math.Seq.{take-append_seam}
use Rattle.std.proofs.lemmas.Bool.{and_parts, and_from}
use Rattle.std.proofs.lemmas.List.{map-append, length-map}
use Rattle.dt_tree.specs.declared.limits.TheConstants.{MAX_DEPTH}
use Rattle.dt_tree.specs.declared.property.Property.{Property}
use Rattle.dt_tree.specs.Fault.{is_named, are_named}
use Rattle.dt_tree.specs.NodeData.{Siblings, none, more, NodeData, node_data, siblings, child_names, property_names, height_of}
use Rattle.dt_tree.specs.Preorder.{paths_among}
use Rattle.dt_tree.specs.Sound.{is_among, are_distinct}
use Rattle.dt_tree.proofs.SeenNames.{bytes_eq-comm}
use Rattle.dt_source.specs.TreeMeaning.Paths.{Path, same_path, is_listed}
use Rattle.dt_source.specs.TreeMeaning.Edits.{definition}
use Rattle.dt_live.specs.Builder.Lists.{defined_at, below_child, defined_among, lists_of, with_last}
use Rattle.dt_live.specs.Builder.Builders.{beside, chained, tree_of, names_of, last_path, is_filled, AreApart, AreOpen, IsTreeBuilder}
use Rattle.dt_live.proofs.BuilderLemmas.PathFacts.{or-false, not-true, bytes-itself}

-- ---- side by side
pub beside-none : (f : Siblings) → beside f none ≡ f
beside-none none = refl
beside-none (more n p c rest) = ap (more n p c) (beside-none rest)

pub siblings-append : (xs ys : List NodeData) → siblings (xs ++ ys) ≡ beside (siblings xs) (siblings ys)
siblings-append [] ys = refl
siblings-append (x ∷ xs) ys = ap (more x.name x.properties x.children) (siblings-append xs ys)

names-beside : (f g : Siblings) → child_names (beside f g) ≡ child_names f ++ child_names g
names-beside none g = refl
names-beside (more n p c rest) g = ap (λ ns. n ∷ ns) (names-beside rest g)

height-beside : (f g : Siblings) → height_of (beside f g) ≡ max (height_of f) (height_of g)
height-beside none g = omega arith
height-beside (more n p c rest) g = omega (arith, height-beside rest g)

pub named-all : (bs : List NodeData) → are_named bs ≡ list_all is_filled (child_names (siblings bs))
named-all [] = refl
named-all (b ∷ bs) = by_test (is_named b) (named-all bs) where
  by_test : (t : Bool) → are_named bs ≡ list_all is_filled (child_names (siblings bs)) → (if t then are_named bs else false) ≡ (t && list_all is_filled (child_names (siblings bs)))
  by_test true ih = ih
  by_test false ih = refl

-- ---- the last node gets no more children
abbrev pub joined : NodeData → NodeData → NodeData
joined q t = node_data q.name q.properties (beside q.children (more t.name t.properties t.children none))

joined-children : (q t : NodeData) → beside (beside q.children (more t.name t.properties t.children none)) none ≡ beside q.children (chained (t ∷ []))
joined-children q t =
    beside-none (beside q.children (more t.name t.properties t.children none))
    ∙ ap (λ f. beside q.children (more t.name t.properties f none)) (sym (beside-none t.children))

module _ (q t : NodeData) where
  chained-joined : (xs : List NodeData) → chained (xs ++ joined q t ∷ []) ≡ chained (xs ++ q ∷ t ∷ [])
  chained-joined [] = ap (λ f. more q.name q.properties f none) (joined-children q t)
  chained-joined (b ∷ bs) = ap (λ f. more b.name b.properties (beside b.children f) none) (chained-joined bs)

  pub tree-joined : (xs : List NodeData) → tree_of (xs ++ joined q t ∷ []) ≡ tree_of (xs ++ q ∷ t ∷ [])
  tree-joined [] = ap (λ f. node_data q.name q.properties f) (joined-children q t)
  tree-joined (b ∷ bs) = ap (λ f. node_data b.name b.properties (beside b.children f)) (chained-joined bs)

  open-joined : (xs : List NodeData) → AreOpen (xs ++ q ∷ t ∷ []) → AreOpen (xs ++ joined q t ∷ [])
  open-joined [] a = (a.0, subst (λ (f : Siblings). AreApart (child_names f)) (sym (joined-children q t)) a.1, tt)
  open-joined (b ∷ bs) a = (a.0, subst (λ (f : Siblings). AreApart (child_names (beside b.children f))) (sym (chained-joined bs)) a.1, open-joined bs a.2)

  pub joined-builder : (xs : List NodeData) → IsTreeBuilder (xs ++ q ∷ t ∷ []) → IsTreeBuilder (xs ++ joined q t ∷ [])
  joined-builder xs a = record {
    parts = open-joined xs a.parts;
    shallow = subst (λ (f : Siblings). height_of f ≤ MAX_DEPTH + 1) (sym (chained-joined xs)) a.shallow;
    root = ap (λ b. b.name) (tree-joined xs) ∙ a.root;
  }

  last_node-to : (xs : List NodeData) → last_path (xs ++ q ∷ t ∷ []) ≡ last_path (xs ++ joined q t ∷ []) ++ t.name ∷ []
  last_node-to [] = refl
  last_node-to (b ∷ bs) = map-append (λ x. x.name) bs (q ∷ t ∷ []) ∙ sym (append_assoc (names_of bs) (q.name ∷ []) (t.name ∷ [])) ∙ ap (λ z. z ++ t.name ∷ []) (sym (map-append (λ x. x.name) bs (joined q t ∷ [])))

  pub last_node-joined : (xs : List NodeData) → last_path (xs ++ joined q t ∷ []) ≡ take (length (last_path (xs ++ q ∷ t ∷ [])) - 1) (last_path (xs ++ q ∷ t ∷ []))
  last_node-joined xs =
      let w = last_path (xs ++ joined q t ∷ []) in
      let long : length (w ++ t.name ∷ []) - 1 ≡ length w = omega (arith, length-append w (t.name ∷ [])) in
      sym (ap (λ z. take (length z - 1) z) (last_node-to xs) ∙ ap (λ k. take k (w ++ t.name ∷ [])) long ∙ take-append_seam w (t.name ∷ []))

-- ---- what is known of the last node
last-open : (xs : List NodeData) (t : NodeData) → AreOpen (xs ++ t ∷ []) → AreOpen (t ∷ [])
last-open [] t a = a
last-open (b ∷ bs) t a = last-open bs t a.2

last-height : (xs : List NodeData) (t : NodeData) → height_of t.children + 1 ≤ height_of (chained (xs ++ t ∷ []))
last-height [] t = omega (arith, ap height_of (beside-none t.children))
last-height (b ∷ bs) t = omega (arith, last-height bs t, height-beside b.children (chained (bs ++ t ∷ [])))

pub record IsWhole (t : NodeData) : Type 0 where
  pub properties : are_distinct (property_names t.properties) ≡ true
  pub children : AreApart (child_names t.children)
  pub height : height_of t.children ≤ MAX_DEPTH

pub last-whole : (xs : List NodeData) (t : NodeData) → IsTreeBuilder (xs ++ t ∷ []) → IsWhole t
last-whole xs t a =
    let o = last-open xs t a.parts in
    record { properties = o.0; children = subst (λ (f : Siblings). AreApart (child_names f)) (beside-none t.children) o.1; height = omega (arith, last-height xs t, a.shallow) }

-- ---- a node more
all-append : (test : List ℕ → Bool) (ns : List (List ℕ)) (n : List ℕ) → list_all test ns ≡ true → test n ≡ true → list_all test (ns ++ n ∷ []) ≡ true
all-append test [] n a e = and_from (test n) true e refl
all-append test (m ∷ ns) n a e =
    let parts = and_parts (test m) (list_all test ns) a in and_from (test m) (list_all test (ns ++ n ∷ [])) parts.0 (all-append test ns n parts.1 e)

among-append : (m : List ℕ) (ns : List (List ℕ)) (n : List ℕ) → is_among m ns ≡ false → bytes_eq n m ≡ false → is_among m (ns ++ n ∷ []) ≡ false
among-append m [] n a e = ap (λ b. b || false) e
among-append m (k ∷ ns) n a e =
    let parts = or-false (bytes_eq k m) (is_among m ns) a in ap₂ (λ b c. b || c) parts.0 (among-append m ns n parts.1 e)

distinct-append : (ns : List (List ℕ)) (n : List ℕ) → are_distinct ns ≡ true → is_among n ns ≡ false → are_distinct (ns ++ n ∷ []) ≡ true
distinct-append [] n d a = refl
distinct-append (m ∷ ns) n d a =
    let parts = and_parts (not (is_among m ns)) (are_distinct ns) d in
    let others = or-false (bytes_eq m n) (is_among n ns) a in
    and_from (not (is_among m (ns ++ n ∷ []))) (are_distinct (ns ++ n ∷ []))
    (ap not (among-append m ns n (not-true (is_among m ns) parts.0) (bytes_eq-comm n m ∙ others.0)))
    (distinct-append ns n parts.1 others.1)

pub apart-append : (ns : List (List ℕ)) (n : List ℕ) → AreApart ns → is_filled n ≡ true → is_among n ns ≡ false → AreApart (ns ++ n ∷ [])
apart-append ns n a filled new = record { named = all-append is_filled ns n a.named filled; distinct = distinct-append ns n a.distinct new }

none-apart : AreApart []
none-apart = record { named = refl; distinct = refl }

module _ (t new : NodeData) (no_children : new.children ≡ none) where
  -- the names of the first ones
  chain-names : (xs : List NodeData) → child_names (chained (xs ++ t ∷ new ∷ [])) ≡ child_names (chained (xs ++ t ∷ []))
  chain-names [] = refl
  chain-names (b ∷ bs) = refl

  open-more : (xs : List NodeData) → is_filled new.name ≡ true → are_distinct (property_names new.properties) ≡ true → is_among new.name (child_names t.children) ≡ false
      → AreOpen (xs ++ t ∷ []) → AreOpen (xs ++ t ∷ new ∷ [])
  open-more [] filled differ fresh a =
      let kids : AreApart (child_names t.children) = subst (λ (f : Siblings). AreApart (child_names f)) (beside-none t.children) a.1 in (
        a.0,
        subst AreApart (sym (names-beside t.children (chained (new ∷ [])))) (apart-append (child_names t.children) new.name kids filled fresh),
        (differ, subst (λ (f : Siblings). AreApart (child_names (beside f none))) (sym no_children) none-apart, tt),
      )
  open-more (b ∷ bs) filled differ fresh a = (
    a.0,
    subst AreApart
        (names-beside b.children (chained (bs ++ t ∷ [])) ∙ ap (λ ns. child_names b.children ++ ns) (sym (chain-names bs)) ∙ sym (names-beside b.children (chained (bs ++ t ∷ new ∷ [])))) a.1,
    open-more bs filled differ fresh a.2,
  )

  height-more : (xs : List NodeData) → height_of (chained (xs ++ t ∷ new ∷ [])) ≤ max (height_of (chained (xs ++ t ∷ []))) (length xs + 2)
  height-more [] = omega (arith, ap (λ f. height_of (beside f none)) no_children, height-beside t.children (chained (new ∷ [])), ap height_of (beside-none t.children))
  height-more (b ∷ bs) = omega (arith, height-more bs, height-beside b.children (chained (bs ++ t ∷ new ∷ [])), height-beside b.children (chained (bs ++ t ∷ [])))

  root-name : (xs : List NodeData) → (tree_of (xs ++ t ∷ new ∷ [])).name ≡ (tree_of (xs ++ t ∷ [])).name
  root-name [] = refl
  root-name (b ∷ bs) = refl

  pub more-builder : (xs : List NodeData) → is_filled new.name ≡ true → are_distinct (property_names new.properties) ≡ true → is_among new.name (child_names t.children) ≡ false → length xs < MAX_DEPTH
      → IsTreeBuilder (xs ++ t ∷ []) → IsTreeBuilder (xs ++ t ∷ new ∷ [])
  more-builder xs filled differ fresh low a = record {
    parts = open-more xs filled differ fresh a.parts;
    shallow = omega (arith, height-more xs, a.shallow);
    root = root-name xs ∙ a.root;
  }

  pub last_node-more : (xs : List NodeData) → last_path (xs ++ t ∷ new ∷ []) ≡ last_path (xs ++ t ∷ []) ++ new.name ∷ []
  last_node-more [] = refl
  last_node-more (b ∷ bs) = map-append (λ x. x.name) bs (t ∷ new ∷ []) ∙ sym (append_assoc (names_of bs) (t.name ∷ []) (new.name ∷ [])) ∙ ap (λ z. z ++ new.name ∷ []) (sym (map-append (λ x. x.name) bs (t ∷ [])))

pub last_node-length : (xs : List NodeData) (t : NodeData) → length (last_path (xs ++ t ∷ [])) ≡ length xs
last_node-length [] t = refl
last_node-length (b ∷ bs) t = length-map (bs ++ t ∷ []) (λ x. x.name) ∙ omega (arith, length-append bs (t ∷ []))

pub tree-alone : (xs : List NodeData) (t : NodeData) → last_path (xs ++ t ∷ []) ≡ [] → tree_of (xs ++ t ∷ []) ≡ t
tree-alone [] t e = ap (node_data t.name t.properties) (beside-none t.children)
tree-alone (b ∷ bs) t e = absurd (omega (arith, last_node-length (b ∷ bs) t, ap length e))

-- ---- what is gathered from nodes, each below its own name
abbrev pub through : {X : Type 0} → (List ℕ → X → X) → Path → List X → List X
through up [] xs = xs
through up (n ∷ ns) xs = map (up n) (through up ns xs)

module _ {X : Type 0} (F : Siblings → List X) (up : List ℕ → X → X) (own : List Property → List X) (at-none : F none ≡ [])
    (at-more : (n : List ℕ) (p : List Property) (c rest : Siblings) → F (more n p c rest) ≡ map (up n) (own p ++ F c) ++ F rest) where
  gather-beside : (f g : Siblings) → F (beside f g) ≡ F f ++ F g
  gather-beside none g = ap (λ xs. xs ++ F g) (sym at-none)
  gather-beside (more n p c rest) g =
      at-more n p c (beside rest g) ∙ ap (λ xs. map (up n) (own p ++ F c) ++ xs) (gather-beside rest g)
      ∙ sym (append_assoc (map (up n) (own p ++ F c)) (F rest) (F g)) ∙ ap (λ xs. xs ++ F g) (sym (at-more n p c rest))

  one-node : (n : List ℕ) (p : List Property) (c : Siblings) → F (more n p c none) ≡ map (up n) (own p ++ F c)
  one-node n p c = at-more n p c none ∙ ap (λ xs. map (up n) (own p ++ F c) ++ xs) at-none ∙ append-nil (map (up n) (own p ++ F c))

  module _ (new : NodeData) where
    gather-below : (bs : List NodeData) (c : Siblings) → F (chained (bs ++ new ∷ [])) ≡ F (chained bs) ++ through up (names_of bs) (F (chained (new ∷ [])))
        → F (beside c (chained (bs ++ new ∷ []))) ≡ F (beside c (chained bs)) ++ through up (names_of bs) (F (chained (new ∷ [])))
    gather-below bs c e =
        gather-beside c (chained (bs ++ new ∷ [])) ∙ ap (λ xs. F c ++ xs) e
        ∙ sym (append_assoc (F c) (F (chained bs)) (through up (names_of bs) (F (chained (new ∷ [])))))
        ∙ ap (λ xs. xs ++ through up (names_of bs) (F (chained (new ∷ [])))) (sym (gather-beside c (chained bs)))

    gather-more : (bs : List NodeData) → F (chained (bs ++ new ∷ [])) ≡ F (chained bs) ++ through up (names_of bs) (F (chained (new ∷ [])))
    gather-more [] = ap (λ xs. xs ++ F (chained (new ∷ []))) (sym at-none)
    gather-more (b ∷ bs) =
        let last = through up (names_of bs) (F (chained (new ∷ []))) in
        one-node b.name b.properties (beside b.children (chained (bs ++ new ∷ [])))
        ∙ ap (λ xs. map (up b.name) (own b.properties ++ xs)) (gather-below bs b.children (gather-more bs))
        ∙ ap (map (up b.name)) (sym (append_assoc (own b.properties) (F (beside b.children (chained bs))) last))
        ∙ map-append (up b.name) (own b.properties ++ F (beside b.children (chained bs))) last
        ∙ ap (λ xs. xs ++ map (up b.name) last) (sym (one-node b.name b.properties (beside b.children (chained bs))))

    pub gather-tree : (xs : List NodeData) (t : NodeData)
        → F (tree_of (xs ++ t ∷ new ∷ [])).children ≡ F (tree_of (xs ++ t ∷ [])).children ++ through up (last_path (xs ++ t ∷ [])) (F (chained (new ∷ [])))
    gather-tree [] t = gather-below [] t.children (gather-more [])
    gather-tree (b ∷ bs) t =
        ap (λ ys. F (beside b.children (chained ys))) (sym (append_assoc bs (t ∷ []) (new ∷ []))) ∙ gather-below (bs ++ t ∷ []) b.children (gather-more (bs ++ t ∷ []))

-- paths
abbrev pub lower : List ℕ → Path → Path
lower n q = n ∷ q

through-path : (ns p : Path) → through lower ns (p ∷ []) ≡ (ns ++ p) ∷ []
through-path [] p = refl
through-path (n ∷ ns) p = ap (map (lower n)) (through-path ns p)

-- properties
lowered : (n : List ℕ) (p : Path) (ps : List Property) → map (below_child n) (defined_at p ps) ≡ defined_at (n ∷ p) ps
lowered n p [] = refl
lowered n p (x ∷ xs) = ap (λ es. definition (n ∷ p) x.name x.value ∷ es) (lowered n p xs)

through-defined : (ns p : Path) (ps : List Property) → through below_child ns (defined_at p ps) ≡ defined_at (ns ++ p) ps
through-defined [] p ps = refl
through-defined (n ∷ ns) p ps = ap (map (below_child n)) (through-defined ns p ps) ∙ lowered n (ns ++ p) ps

module _ (t new : NodeData) (no_children : new.children ≡ none) (xs : List NodeData) where
  paths-more : paths_among (tree_of (xs ++ t ∷ new ∷ [])).children ≡ paths_among (tree_of (xs ++ t ∷ [])).children ++ (last_path (xs ++ t ∷ []) ++ new.name ∷ []) ∷ []
  paths-more =
      gather-tree paths_among lower (λ p. [] ∷ []) refl (λ n p c rest. refl) new xs t
      ∙ ap (λ ps. paths_among (tree_of (xs ++ t ∷ [])).children ++ ps)
      (ap (λ f. through lower (last_path (xs ++ t ∷ [])) (paths_among (more new.name new.properties (beside f none) none))) no_children ∙ through-path (last_path (xs ++ t ∷ [])) (new.name ∷ []))

  own-defined : defined_among (chained (new ∷ [])) ≡ defined_at (new.name ∷ []) new.properties
  own-defined =
      ap (λ f. defined_among (more new.name new.properties (beside f none) none)) no_children
      ∙ append-nil (map (below_child new.name) (defined_at [] new.properties ++ []))
      ∙ ap (map (below_child new.name)) (append-nil (defined_at [] new.properties)) ∙ lowered new.name [] new.properties

  defined-more : defined_among (tree_of (xs ++ t ∷ new ∷ [])).children ≡ defined_among (tree_of (xs ++ t ∷ [])).children ++ defined_at (last_path (xs ++ t ∷ []) ++ new.name ∷ []) new.properties
  defined-more =
      gather-tree defined_among below_child (defined_at []) refl (λ n p c rest. refl) new xs t
      ∙ ap (λ es. defined_among (tree_of (xs ++ t ∷ [])).children ++ es)
      (ap (through below_child (last_path (xs ++ t ∷ []))) own-defined ∙ through-defined (last_path (xs ++ t ∷ [])) (new.name ∷ []) new.properties)

  root-properties : (ys : List NodeData) → (tree_of (ys ++ t ∷ new ∷ [])).properties ≡ (tree_of (ys ++ t ∷ [])).properties
  root-properties [] = refl
  root-properties (b ∷ bs) = refl

  pub lists-more : lists_of (tree_of (xs ++ t ∷ new ∷ [])) ≡ with_last (last_path (xs ++ t ∷ []) ++ new.name ∷ []) new.properties (lists_of (tree_of (xs ++ t ∷ [])))
  lists-more =
      let added = defined_at (last_path (xs ++ t ∷ []) ++ new.name ∷ []) new.properties in
      let definitions = ap₂ (λ ps es. defined_at [] ps ++ es) (root-properties xs) defined-more
      ∙ sym (append_assoc (defined_at [] (tree_of (xs ++ t ∷ [])).properties) (defined_among (tree_of (xs ++ t ∷ [])).children) added) in
      λ i. record { nodes = paths-more i; properties = definitions i }

-- ---- a path that isn't listed is that of no child
listed-append : (p : Path) (xs ys : List Path) → is_listed p (xs ++ ys) ≡ false → (is_listed p xs ≡ false) × (is_listed p ys ≡ false)
listed-append p [] ys e = (refl, e)
listed-append p (x ∷ xs) ys e =
    let parts = or-false (same_path p x) (is_listed p (xs ++ ys)) e in
    let others = listed-append p xs ys parts.1 in
    (ap₂ (λ a b. a || b) parts.0 others.0, others.1)

listed-lower : (n : List ℕ) (p : Path) (xs : List Path) → is_listed (n ∷ p) (map (lower n) xs) ≡ is_listed p xs
listed-lower n p [] = refl
listed-lower n p (x ∷ xs) = ap₂ (λ a b. a || b) (ap (λ b. b && same_path p x) (bytes-itself n)) (listed-lower n p xs)

child-listed : (n : List ℕ) (f : Siblings) → is_listed (n ∷ []) (paths_among f) ≡ false → is_among n (child_names f) ≡ false
child-listed n none e = refl
child-listed n (more m p c rest) e =
    let parts = listed-append (n ∷ []) (map (lower m) ([] ∷ paths_among c)) (paths_among rest) e in
    let first = or-false (bytes_eq n m && true) (is_listed (n ∷ []) (map (lower m) (paths_among c))) parts.0 in
    ap₂ (λ a b. a || b) (bytes_eq-comm m n ∙ and-true (bytes_eq n m) ∙ first.0) (child-listed n rest parts.1) where
      and-true : (b : Bool) → b ≡ (b && true)
      and-true true = refl
      and-true false = refl

beside-listed : (p : Path) (f g : Siblings) → is_listed p (paths_among (beside f g)) ≡ false → is_listed p (paths_among g) ≡ false
beside-listed p f g e = (listed-append p (paths_among f) (paths_among g) (ap (is_listed p) (sym (gather-beside paths_among lower (λ _. [] ∷ []) refl (λ n q c rest. refl) f g)) ∙ e)).1

module _ (t : NodeData) (n : List ℕ) where
  last-fresh : is_listed (n ∷ []) (paths_among (beside t.children none)) ≡ false → is_among n (child_names t.children) ≡ false
  last-fresh e = child-listed n t.children (ap (λ f. is_listed (n ∷ []) (paths_among f)) (sym (beside-none t.children)) ∙ e)

  chain-fresh : (xs : List NodeData) → is_listed (names_of (xs ++ t ∷ []) ++ n ∷ []) (paths_among (chained (xs ++ t ∷ []))) ≡ false → is_among n (child_names t.children) ≡ false
  chain-fresh [] e =
      let one = listed-append (t.name ∷ n ∷ []) (map (lower t.name) ([] ∷ paths_among (beside t.children none))) [] e in
      last-fresh (sym (listed-lower t.name (n ∷ []) ([] ∷ paths_among (beside t.children none))) ∙ one.0)
  chain-fresh (b ∷ bs) e =
      let w = names_of (bs ++ t ∷ []) ++ n ∷ [] in
      let inner = [] ∷ paths_among (beside b.children (chained (bs ++ t ∷ []))) in
      let one = listed-append (b.name ∷ w) (map (lower b.name) inner) [] e in
      let below = or-false (same_path w []) (is_listed w (paths_among (beside b.children (chained (bs ++ t ∷ []))))) (sym (listed-lower b.name w inner) ∙ one.0) in
      chain-fresh bs (beside-listed w b.children (chained (bs ++ t ∷ [])) below.1)

  pub tree-fresh : (xs : List NodeData) → is_listed (last_path (xs ++ t ∷ []) ++ n ∷ []) (paths_among (tree_of (xs ++ t ∷ [])).children) ≡ false → is_among n (child_names t.children) ≡ false
  tree-fresh [] e = last-fresh e
  tree-fresh (b ∷ bs) e = chain-fresh bs (beside-listed (names_of (bs ++ t ∷ []) ++ n ∷ []) b.children (chained (bs ++ t ∷ [])) e)
