-- The phandles that a canonical source gives are the tree's, so that no reference is left and no phandle is missing.
use Rattle.std.proofs.Common.{◌≡◌, ℕ, ◌==◌, Bool, true, false, not, ◌&&◌, ◌||◌, List, [], ◌∷◌, ◌++◌, map, Option, Some, None, is_some, option_and_then, Ok, Err, if◌then◌else◌, refl, sym, ap, ap₂, ◌∙◌, true≢false, arith, codes}
use Rattle.std.specs.List.{flat_map}
use Rattle.std.specs.Str.{bytes_eq}
use Rattle.std.proofs.lemmas.Bool.{and_parts, and_from}
use Rattle.std.proofs.lemmas.Bool.Decides.{nat_tests}
use Rattle.std.proofs.lemmas.List.Folds.{list_any-append}
use Rattle.std.proofs.lemmas.Slice.Eq.{bytes_eq-Decides}
use Rattle.dt_tree.specs.Steps.{then_do}
use Rattle.dt_tree.specs.NodeData.{NodeData}
use Rattle.dt_tree.specs.PathMap.{PathMap, path_map}
use Rattle.dt_tree.specs.Phandle.{is_reserved, phandle_in, phandle_at}
use Rattle.dt_tree.specs.Preorder.{paths_among}
use Rattle.dt_tree.specs.Sound.{is_among, are_distinct, IsSound}
use Rattle.dt_tree.proofs.Places.{distinct_head, distinct_tail, inside, is_path_map}
use Rattle.dt_source.specs.TreeMeaning.Paths.{Path, same_path, is_listed}
use Rattle.dt_source.specs.TreeMeaning.Edits.{is_of}
use Rattle.dt_source.specs.TreeMeaning.MapOf.{value_in}
use Rattle.dt_source.specs.TreeMeaning.Phandles.{PathPhandle, path_phandle, has_phandle, is_phandle, phandle_value, given_one, given_of}
use Rattle.dt_source.specs.TreeMeaning.References.{held, preorder}
use Rattle.dt_source.specs.TreeMeaning.Resolved.{Resolved}
use Rattle.dt_source.specs.TreeMeaning.Statements.{DuplicatePhandle}
use Rattle.dt_live.proofs.Each.{Each, each-more}
use Rattle.dt_live.specs.Builder.Lists.{lists_of}
use Rattle.dt_live.specs.Builder.Standing.{are_apart}
use Rattle.dt_live.proofs.BuilderLemmas.InTurn.{each-once}
use Rattle.dt_live.proofs.BuilderLemmas.Orders.{behind, there-same}
use Rattle.dt_live.proofs.BuilderLemmas.PathFacts.{not-both, not-true, or-false, same-is, same-itself, bytes-itself, listed-first, listed-next}
use Rattle.dt_live.proofs.BuilderLemmas.TreeLists.{map-lists}
use Rattle.dt_live.proofs.BuilderLemmas.TreeNodes.{tree-nodes}
use Rattle.dt_build.proofs.ApartKeys.{held-here, held-listed}
use Rattle.dt_build.proofs.ApartLists.{InPairs, pairs-behind}
use Rattle.dtman_engine.specs.Canonical.SourceOf.{value_of}
use Rattle.dtman_engine.specs.Canonical.Conditions.{HasSourcePhandles}
use Rattle.dtman_engine.proofs.CanonicalLemmas.MeaningLists.{Placed, said_of, in_turn, map-meant}

-- ---- the properties in order of the walk: no two of one node have a name
abbrev HasOtherKey : Placed → Placed → Type 0
HasOtherKey e x = is_of x.path x.name e ≡ false

other-names : (e : Placed) (xs : List Placed) → is_among e.name (map (λ x. x.name) xs) ≡ false → Each (HasOtherKey e) xs
other-names e [] a = tt
other-names e (x ∷ xs) a =
    let parts = or-false (bytes_eq x.name e.name) (is_among e.name (map (λ y. y.name) xs)) a in
    (by_name (same_path x.path e.path) (bytes_eq x.name e.name) parts.0, other-names e xs parts.1) where
      by_name : (s t : Bool) → t ≡ false → (s && t) ≡ false
      by_name true t e = e
      by_name false t e = refl

named-apart : (xs : List Placed) → are_distinct (map (λ x. x.name) xs) ≡ true → InPairs HasOtherKey xs
named-apart [] d = tt
named-apart (x ∷ xs) d =
    let names = map (λ y. y.name) xs in
    (other-names x xs (distinct_head x.name names (is_among x.name names) refl d), named-apart xs (distinct_tail x.name names (is_among x.name names) refl d))

key-apart : (e x : Placed) → same_path x.path e.path ≡ false → HasOtherKey e x
key-apart e x other = ap (λ t. t && bytes_eq x.name e.name) other

keys-apart : (es : List Placed) (ps : List Path) → are_apart ps ≡ true → ((p : Path) → is_listed p ps ≡ true → are_distinct (map (λ e. e.name) (held es p)) ≡ true) → InPairs HasOtherKey (flat_map (held es) ps)
keys-apart es [] a d = tt
keys-apart es (p ∷ ps) a d =
    let parts = and_parts (not (is_listed p ps)) (are_apart ps) a in
    pairs-behind HasOtherKey (held es p) (flat_map (held es) ps) (named-apart (held es p) (d p (listed-first p ps)))
    (keys-apart es ps parts.1 (λ q l. d q (listed-next q p ps l)))
    (each-more (λ e. p ≡ e.path) (λ e. Each (HasOtherKey e) (flat_map (held es) ps)) (held es p)
    (λ e here. each-more (λ x. is_listed x.path ps ≡ true) (HasOtherKey e) (flat_map (held es) ps)
    (λ x l. key-apart e x (by_same e x (same_path x.path e.path) refl here l (not-true (is_listed p ps) parts.0))) (held-listed es ps)) (held-here es p)) where
      by_same : (e x : Placed) (t : Bool) → same_path x.path e.path ≡ t → p ≡ e.path → is_listed x.path ps ≡ true → is_listed p ps ≡ false → t ≡ false
      by_same e x true same here l gone = not-both (is_listed p ps) (ap (λ q. is_listed q ps) (here ∙ sym (same-is x.path e.path same)) ∙ l) gone
      by_same e x false same here l gone = refl

-- each is found again
found-again : (xs : List Placed) → InPairs HasOtherKey xs → Each (λ e. value_in xs e.path e.name ≡ Some e.value) xs
found-again [] h = tt
found-again (e ∷ xs) h = (
  ap (λ t. if t then Some e.value else value_in xs e.path e.name) (and_from (same_path e.path e.path) (bytes_eq e.name e.name) (same-itself e.path) (bytes-itself e.name)),
  others xs h.0 (found-again xs h.1),
) where
  others : (ys : List Placed) → Each (HasOtherKey e) ys → Each (λ x. value_in xs x.path x.name ≡ Some x.value) ys → Each (λ x. value_in (e ∷ xs) x.path x.name ≡ Some x.value) ys
  others [] k g = tt
  others (y ∷ ys) k g = (ap (λ t. if t then Some e.value else value_in xs y.path y.name) k.0 ∙ g.0, others ys k.1 g.1)

module _ (b : NodeData) (sound : IsSound b) where
  abbrev nodes : List Path
  nodes = paths_among b.children

  abbrev pub all : List Placed
  all = in_turn b sound

  in-walk : (p : Path) → is_listed p (preorder nodes) ≡ is_listed p ([] ∷ nodes)
  in-walk p =
      let r : Resolved = record { nodes = nodes; properties = [] } in
      let are = tree-nodes b sound in
      ap (is_listed p) (sym (behind r are)) ∙ sym (there-same r are p)

  distinct-names : (p : Path) → is_listed p (preorder nodes) ≡ true → are_distinct (map (λ e. e.name) (held (lists_of b).properties p)) ≡ true
  distinct-names p l =
      (is_path_map b (inside b sound)).no_property_twice p (map (λ e. e.name) (held (lists_of b).properties p))
      (ap (λ m. m.properties p) (map-lists b sound) ∙ ap (λ t. if t then Some (map (λ e. e.name) (held (lists_of b).properties p)) else None) (sym (in-walk p) ∙ l))

  pub all-apart : InPairs HasOtherKey all
  all-apart = keys-apart (lists_of b).properties (preorder nodes) (each-once nodes (tree-nodes b sound)) distinct-names

  -- each has its value in the map
  pub all-found : Each (λ e. (path_map b).value e.path e.name ≡ Some e.value) all
  all-found = both all (held-listed (lists_of b).properties (preorder nodes)) (found-again all all-apart) where
    both : (xs : List Placed) → Each (λ e. is_listed e.path (preorder nodes) ≡ true) xs → Each (λ e. value_in all e.path e.name ≡ Some e.value) xs → Each (λ e. (path_map b).value e.path e.name ≡ Some e.value) xs
    both [] l f = tt
    both (x ∷ xs) l f = (
      ap (λ m. m.value x.path x.name) (map-meant b sound) ∙ ap (λ t. if t then value_in all x.path x.name else None) (sym (in-walk x.path) ∙ l.0) ∙ f.0,
      both xs l.1 f.1,
    )

-- ---- phandles
pub record Gives (h : ℕ) (e : Placed) : Type 0 where
  pub named : is_phandle e ≡ true
  pub phandle : phandle_in e.value ≡ Some h

phandle-said : (v : List ℕ) → phandle_value (value_of v) ≡ phandle_in v
phandle-said [] = refl
phandle-said (b ∷ bs) = refl

pub given-all : (xs : List Placed) (gs : List PathPhandle) → Each (λ e. is_phandle e ≡ true → (h : ℕ) × (phandle_in e.value ≡ Some h)) xs
    → InPairs (λ e x. (h : ℕ) → Gives h e → Gives h x → ⊥) xs → Each (λ e. (h : ℕ) → Gives h e → has_phandle h gs ≡ false) xs
    → (given : List PathPhandle) × (given_of (map said_of xs) gs ≡ Ok given)
given-all [] gs lawful apart new = (gs, refl)
given-all (x ∷ xs) gs lawful apart new = by_name (is_phandle x) refl (λ hs n. given-all xs hs lawful.1 apart.1 n) where
  later : (h : ℕ) → Gives h x → (ys : List Placed) → Each (λ y. (k : ℕ) → Gives k x → Gives k y → ⊥) ys → Each (λ e. (k : ℕ) → Gives k e → has_phandle k gs ≡ false) ys
      → Each (λ e. (k : ℕ) → Gives k e → has_phandle k (gs ++ path_phandle x.path h ∷ []) ≡ false) ys
  later h g [] a n = tt
  later h g (y ∷ ys) a n = (
    λ k gives.
        list_any-append (λ z. z.phandle == k) gs (path_phandle x.path h ∷ [])
        ∙ ap₂ (λ s t. s || (t || false)) (n.0 k gives) (by_number k gives (h == k) refl),
    later h g ys a.1 n.1,
  ) where
    by_number : (k : ℕ) → Gives k y → (t : Bool) → (h == k) ≡ t → t ≡ false
    by_number k gives true e =
        let same : h ≡ k = grind (arith, nat_tests) in
        absurd (a.0 k (record { named = g.named; phandle = g.phandle ∙ ap (λ z. Some z) same }) gives)
    by_number k gives false e = refl

  by_name : (t : Bool) → is_phandle x ≡ t
      → ((hs : List PathPhandle) → Each (λ e. (h : ℕ) → Gives h e → has_phandle h hs ≡ false) xs → (given : List PathPhandle) × (given_of (map said_of xs) hs ≡ Ok given))
      → (given : List PathPhandle) × ((if t then then_do (given_one x.path (phandle_value (value_of x.value)) gs) (given_of (map said_of xs)) else given_of (map said_of xs) gs) ≡ Ok given)
  by_name true named others =
      let h = lawful.0 named in
      let g : Gives h.0 x = record { named = named; phandle = h.1 } in
      let rest = others (gs ++ path_phandle x.path h.0 ∷ []) (later h.0 g xs apart.0 new.1) in (
        rest.0,
        ap (λ o. then_do (given_one x.path o gs) (given_of (map said_of xs))) (phandle-said x.value ∙ h.1)
            ∙ ap (λ t. then_do (if t then Err DuplicatePhandle else Ok (gs ++ path_phandle x.path h.0 ∷ [])) (given_of (map said_of xs))) (new.0 h.0 g)
            ∙ rest.1,
      )
  by_name false named others = others gs new.1

-- ---- those of a source tree
module _ (b : NodeData) (sound : IsSound b) (has : HasSourcePhandles (path_map b)) where
  abbrev m : PathMap (List ℕ)
  m = path_map b

  phandle-name : (e : Placed) → is_phandle e ≡ true → (e.name ≡ codes "phandle") × (is_reserved e.path ≡ false)
  phandle-name e named =
      let parts = and_parts (bytes_eq e.name (codes "phandle")) (not (is_reserved e.path)) named in
      ((bytes_eq-Decides e.name (codes "phandle")).0 parts.0, not-true (is_reserved e.path) parts.1)

  value-there : (e : Placed) → is_phandle e ≡ true → m.value e.path e.name ≡ Some e.value → m.value e.path (codes "phandle") ≡ Some e.value
  value-there e named found = ap (λ n. m.value e.path n) (sym (phandle-name e named).0) ∙ found

  phandle-there : (e : Placed) → is_phandle e ≡ true → m.value e.path e.name ≡ Some e.value → phandle_at m e.path ≡ phandle_in e.value
  phandle-there e named found =
      ap (λ t. if t then None else option_and_then phandle_in (m.value e.path (codes "phandle"))) (phandle-name e named).1
      ∙ ap (option_and_then phandle_in) (value-there e named found)

  lawful-all : (xs : List Placed) → Each (λ e. m.value e.path e.name ≡ Some e.value) xs → Each (λ e. is_phandle e ≡ true → (h : ℕ) × (phandle_in e.value ≡ Some h)) xs
  lawful-all xs found =
      each-more (λ e. m.value e.path e.name ≡ Some e.value) (λ e. is_phandle e ≡ true → (h : ℕ) × (phandle_in e.value ≡ Some h)) xs
      (λ e f named. there (phandle_in e.value) (ap is_some (sym (phandle-there e named f)) ∙ has.lawful e.path (phandle-name e named).1 (ap is_some (value-there e named f)))) found where
        there : (o : Option ℕ) → is_some o ≡ true → (h : ℕ) × (o ≡ Some h)
        there None e = absurd (true≢false (sym e))
        there (Some h) e = (h, refl)

  two-numbers : (e x : Placed) → m.value e.path e.name ≡ Some e.value → m.value x.path x.name ≡ Some x.value → HasOtherKey e x → (h : ℕ) → Gives h e → Gives h x → ⊥
  two-numbers e x f g other h a c =
      let same : e.path ≡ x.path = has.apart e.path x.path h (phandle-there e a.named f ∙ a.phandle) (phandle-there x c.named g ∙ c.phandle) in
      let names : x.name ≡ e.name = (phandle-name x c.named).0 ∙ sym (phandle-name e a.named).0 in
      not-both (is_of x.path x.name e)
      (ap₂ (λ p n. is_of p n e) (sym same) names ∙ and_from (same_path e.path e.path) (bytes_eq e.name e.name) (same-itself e.path) (bytes-itself e.name)) other

  numbers-apart : (xs : List Placed) → Each (λ e. m.value e.path e.name ≡ Some e.value) xs → InPairs HasOtherKey xs → InPairs (λ e x. (h : ℕ) → Gives h e → Gives h x → ⊥) xs
  numbers-apart [] found apart = tt
  numbers-apart (x ∷ xs) found apart = (against xs found.1 apart.0, numbers-apart xs found.1 apart.1) where
    against : (ys : List Placed) → Each (λ e. m.value e.path e.name ≡ Some e.value) ys → Each (HasOtherKey x) ys → Each (λ y. (h : ℕ) → Gives h x → Gives h y → ⊥) ys
    against [] f o = tt
    against (y ∷ ys) f o = (two-numbers x y found.0 f.0 o.0, against ys f.1 o.1)

  pub phandles-given : (given : List PathPhandle) × (given_of (map said_of (all b sound)) [] ≡ Ok given)
  phandles-given =
      let found = all-found b sound in
      given-all (all b sound) [] (lawful-all (all b sound) found) (numbers-apart (all b sound) found (all-apart b sound))
      (each-more (λ e. m.value e.path e.name ≡ Some e.value) (λ e. (h : ℕ) → Gives h e → has_phandle h [] ≡ false) (all b sound) (λ e f h g. refl) found)
