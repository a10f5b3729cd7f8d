-- Nodes in the order of the blob.
use Rattle.std.proofs.Common.{◌≡◌, ℕ, Bool, true, false, List, [], ◌∷◌, ◌++◌, drop, Option, Some, None, refl, ap, sym, subst, ◌∙◌, append_assoc}
use Rattle.std.specs.Prelude.{◌==◌, find, Result, IsOkAnd}
use Rattle.std.specs.Option.{option_map_or}
use Rattle.std.proofs.lemmas.List.{append-nil}
use Rattle.dt_tree.specs.declared.property.Property.{Property}
use Rattle.dt_tree.specs.NodeData.{NodeData, Siblings, none, more, node_data}
use Rattle.dt_blob.specs.Token.{Token, begin_node, end_node, property, nop, end, property_tokens, sibling_tokens, tokens_of, tree_tokens}
use Rattle.dt_patch.specs.declared.view.error.ViewError.{ViewError}
use Rattle.dt_patch.specs.declared.view.nodes.NodeOffset.{NodeOffset}
use Rattle.dt_patch.specs.declared.view.view.View.{View}
use Rattle.dt_patch.specs.View.Order.{all_of, upward, nodes_left, StandsIn, IsNext, from_first}
use Rattle.dt_patch.specs.View.Places.{IsPlaceOf}
use Rattle.dt_patch.specs.View.Private.Reading.{Finds, StandsNothing}
use Rattle.dt_patch.specs.View.Standing.{Ahead, StandsAt}
use Rattle.dt_patch.proofs.ViewLemmas.Beginnings.{shorter}
use Rattle.dt_patch.proofs.ViewLemmas.Descents.{regrouped}

-- ---- the root

pub root_first : (view : View) (at : ℕ) (root : NodeData) → Ahead view at (tree_tokens root) → StandsIn view at root (all_of root.children)
root_first view at root a =
    let same : tree_tokens root ≡ begin_node root.name ∷ (property_tokens root.properties ++ upward (root.children ∷ [])) = ap (λ (x : List Token). begin_node root.name ∷ x) (regrouped root.properties root.children none (end ∷ [])) in
    ([], subst (λ (x : List Token). Ahead view at x) same a, append-nil (all_of root.children))

-- what stands in the blob stands there
pub stands_in : (view : View) (at : ℕ) (node : NodeData) (later : List NodeData) → StandsIn view at node later → StandsAt view at node
stands_in view at node later s =
    let same : begin_node node.name ∷ (property_tokens node.properties ++ upward (node.children ∷ s.0)) ≡ tokens_of node ++ upward (s.0) =
    ap (λ (x : List Token). begin_node node.name ∷ x) (sym (regrouped node.properties node.children none (upward (s.0)))) in
    shorter view.strings.now (drop at view.structure.now) (tokens_of node) (upward (s.0)) (subst (λ (x : List Token). Ahead view at x) same (s.1))

-- ---- behind a node's beginning

-- what is left, from one token to the next
abbrev pub LeftOf : View → ℕ → List NodeData → Type 0
LeftOf view at later = (qs : List Property) × (gs : List Siblings) × Ahead view at (property_tokens qs ++ upward gs) × (nodes_left gs ≡ later)

-- a node's beginning, before the levels that come
begun : (n : List ℕ) (ps : List Property) (c rest : Siblings) (gs : List Siblings) → sibling_tokens (more n ps c rest) ++ end_node ∷ upward gs ≡ begin_node n ∷ (property_tokens ps ++ upward (c ∷ rest ∷ gs))
begun n ps c rest gs = ap (λ (x : List Token). begin_node n ∷ x) (regrouped ps c rest (end_node ∷ upward gs))

pub left_begin : (view : View) (from : ℕ) (place : NodeOffset) (next : ℕ) (t : Token) (name : List ℕ) (later : List NodeData) → Finds view from t place.at next → t ≡ begin_node name → LeftOf view from later → IsNext view (Some place) later
left_begin view from place next t name later f e l = by_list (l.0) (l.1) (l.2) (l.3) where
  by_list : (qs : List Property) (gs : List Siblings) → Ahead view from (property_tokens qs ++ upward gs) → nodes_left gs ≡ later → IsNext view (Some place) later
  by_list (q ∷ qs) gs a i = absurd (let bad : begin_node name ≡ property q.name q.value = sym e ∙ (f.ahead (property q.name q.value) (property_tokens qs ++ upward gs) a).0 in cc bad)
  by_list [] [] a i = absurd (let bad : begin_node name ≡ end = sym e ∙ (f.ahead end [] a).0 in cc bad)
  by_list [] (none ∷ gs) a i = absurd (let bad : begin_node name ≡ end_node = sym e ∙ (f.ahead end_node (upward gs) a).0 in cc bad)
  by_list [] (more n ps c rest ∷ gs) a i =
      let tail : List Token = property_tokens ps ++ upward (c ∷ rest ∷ gs) in
      let p = f.ahead (begin_node n) tail (subst (λ (x : List Token). Ahead view from x) (begun n ps c rest gs) a) in
      (node_data n ps c, all_of c ++ (all_of rest ++ nodes_left gs), sym i ∙ ap (λ (x : List NodeData). node_data n ps c ∷ x) (append_assoc (all_of c) (all_of rest) (nodes_left gs)), (rest ∷ gs, p.1, refl))

pub left_property : (view : View) (from at next : ℕ) (t : Token) (name value : List ℕ) (later : List NodeData) → Finds view from t at next → t ≡ property name value → LeftOf view from later → LeftOf view next later
left_property view from at next t name value later f e l = by_list (l.0) (l.1) (l.2) (l.3) where
  by_list : (qs : List Property) (gs : List Siblings) → Ahead view from (property_tokens qs ++ upward gs) → nodes_left gs ≡ later → LeftOf view next later
  by_list (q ∷ qs) gs a i = (qs, gs, (f.ahead (property q.name q.value) (property_tokens qs ++ upward gs) a).2, i)
  by_list [] [] a i = absurd (let bad : property name value ≡ end = sym e ∙ (f.ahead end [] a).0 in cc bad)
  by_list [] (none ∷ gs) a i = absurd (let bad : property name value ≡ end_node = sym e ∙ (f.ahead end_node (upward gs) a).0 in cc bad)
  by_list [] (more n ps c rest ∷ gs) a i =
      absurd (let bad : property name value ≡ begin_node n = sym e ∙ (f.ahead (begin_node n) (property_tokens ps ++ upward (c ∷ rest ∷ gs)) (subst (λ (x : List Token). Ahead view from x) (begun n ps c rest gs) a)).0 in cc bad)

pub left_end : (view : View) (from at next : ℕ) (t : Token) (later : List NodeData) → Finds view from t at next → t ≡ end_node → LeftOf view from later → LeftOf view next later
left_end view from at next t later f e l = by_list (l.0) (l.1) (l.2) (l.3) where
  by_list : (qs : List Property) (gs : List Siblings) → Ahead view from (property_tokens qs ++ upward gs) → nodes_left gs ≡ later → LeftOf view next later
  by_list (q ∷ qs) gs a i = absurd (let bad : end_node ≡ property q.name q.value = sym e ∙ (f.ahead (property q.name q.value) (property_tokens qs ++ upward gs) a).0 in cc bad)
  by_list [] [] a i = absurd (let bad : end_node ≡ end = sym e ∙ (f.ahead end [] a).0 in cc bad)
  by_list [] (none ∷ gs) a i = ([], gs, (f.ahead end_node (upward gs) a).2, i)
  by_list [] (more n ps c rest ∷ gs) a i =
      absurd (let bad : end_node ≡ begin_node n = sym e ∙ (f.ahead (begin_node n) (property_tokens ps ++ upward (c ∷ rest ∷ gs)) (subst (λ (x : List Token). Ahead view from x) (begun n ps c rest gs) a)).0 in cc bad)

pub left_over : (view : View) (from at next : ℕ) (t : Token) (later : List NodeData) → Finds view from t at next → t ≡ end → LeftOf view from later → later ≡ []
left_over view from at next t later f e l = by_list (l.0) (l.1) (l.2) (l.3) where
  by_list : (qs : List Property) (gs : List Siblings) → Ahead view from (property_tokens qs ++ upward gs) → nodes_left gs ≡ later → later ≡ []
  by_list (q ∷ qs) gs a i = absurd (let bad : end ≡ property q.name q.value = sym e ∙ (f.ahead (property q.name q.value) (property_tokens qs ++ upward gs) a).0 in cc bad)
  by_list [] [] a i = sym i
  by_list [] (none ∷ gs) a i = absurd (let bad : end ≡ end_node = sym e ∙ (f.ahead end_node (upward gs) a).0 in cc bad)
  by_list [] (more n ps c rest ∷ gs) a i =
      absurd (let bad : end ≡ begin_node n = sym e ∙ (f.ahead (begin_node n) (property_tokens ps ++ upward (c ∷ rest ∷ gs)) (subst (λ (x : List Token). Ahead view from x) (begun n ps c rest gs) a)).0 in cc bad)

-- a first token that is ahead and isn't a NOP
record First (qs : List Property) (gs : List Siblings) : Type 0 where
  token : Token
  others : List Token
  is : property_tokens qs ++ upward gs ≡ token ∷ others
  some : nop ≡ token → ⊥

first : (qs : List Property) (gs : List Siblings) → First qs gs
first (q ∷ qs) gs = record { token = property q.name q.value; others = property_tokens qs ++ upward gs; is = refl; some = λ e. cc e }
first [] [] = record { token = end; others = []; is = refl; some = λ e. cc e }
first [] (none ∷ gs) = record { token = end_node; others = upward gs; is = refl; some = λ e. cc e }
first [] (more n ps c rest ∷ gs) = record { token = begin_node n; others = property_tokens ps ++ upward (c ∷ rest ∷ gs); is = begun n ps c rest gs; some = λ e. cc e }

pub left_nop : (view : View) (from at next : ℕ) (t : Token) (later : List NodeData) → Finds view from t at next → t ≡ nop → LeftOf view from later → ⊥
left_nop view from at next t later f e l =
    let h = first (l.0) (l.1) in
    h.some (sym e ∙ (f.ahead h.token h.others (subst (λ (x : List Token). Ahead view from x) h.is (l.2))).0)

pub left_nothing : (view : View) (from : ℕ) (later : List NodeData) → StandsNothing view from → LeftOf view from later → ⊥
left_nothing view from later n l =
    let h = first (l.0) (l.1) in
    n h.token h.others (subst (λ (x : List Token). Ahead view from x) h.is (l.2))

-- ---- searches

-- the node at hand and those behind it, among which this one is found
abbrev pub Seeking : View → ℕ → (NodeData → Bool) → Option NodeData → Type 0
Seeking view at test o = (d : NodeData) × (later : List NodeData) × StandsIn view at d later × (find test (d ∷ later) ≡ o)

pub seeking_hit : (view : View) (place : NodeOffset) (test : NodeData → Bool) (o : Option NodeData) → (s : Seeking view place.at test o) → test (s.0) ≡ true → IsPlaceOf view (Some place) o
seeking_hit view place test o s h =
    let now : find test (s.0 ∷ s.1) ≡ Some (s.0) = rw h refl in
    (s.0, sym (s.3) ∙ now, stands_in view place.at (s.0) (s.1) (s.2))

pub seeking_none : (view : View) (at : ℕ) (test : NodeData → Bool) (o : Option NodeData) → (s : Seeking view at test o) → test (s.0) ≡ false → s.1 ≡ [] → o ≡ None
seeking_none view at test o s h e =
    let now : find test (s.0 ∷ s.1) ≡ find test (s.1) = rw h refl in
    sym (s.3) ∙ now ∙ ap (find test) e

pub seeking_next : (view : View) (at : ℕ) (place : NodeOffset) (test : NodeData → Bool) (o : Option NodeData) → (s : Seeking view at test o) → test (s.0) ≡ false → IsNext view (Some place) (s.1) → Seeking view place.at test o
seeking_next view at place test o s h n =
    let now : find test (s.0 ∷ s.1) ≡ find test (s.1) = rw h refl in
    (n.0, n.1, n.3, ap (find test) (sym (n.2)) ∙ sym now ∙ s.3)

-- the node at hand, behind which the first that passes is sought
abbrev pub Behind : View → ℕ → (NodeData → Bool) → List NodeData → Type 0
Behind view at test later = (d : NodeData) × (others : List NodeData) × StandsIn view at d others × (from_first test others ≡ later)

pub behind_none : (view : View) (at : ℕ) (test : NodeData → Bool) (later : List NodeData) → (b : Behind view at test later) → b.1 ≡ [] → later ≡ []
behind_none view at test later b e = sym (b.3) ∙ ap (from_first test) e

pub behind_hit : (view : View) (at : ℕ) (place : NodeOffset) (test : NodeData → Bool) (later : List NodeData) → (b : Behind view at test later) → (n : IsNext view (Some place) (b.1)) → test (n.0) ≡ true → IsNext view (Some place) later
behind_hit view at place test later b n h =
    let now : from_first test (n.0 ∷ n.1) ≡ n.0 ∷ n.1 = rw h refl in
    (n.0, n.1, sym (b.3) ∙ ap (from_first test) (n.2) ∙ now, n.3)

pub behind_miss : (view : View) (at : ℕ) (place : NodeOffset) (test : NodeData → Bool) (later : List NodeData) → (b : Behind view at test later) → (n : IsNext view (Some place) (b.1)) → test (n.0) ≡ false → Behind view place.at test later
behind_miss view at place test later b n h =
    let now : from_first test (n.0 ∷ n.1) ≡ from_first test (n.1) = rw h refl in
    (n.0, n.1, n.3, sym now ∙ ap (from_first test) (sym (n.2)) ∙ b.3)

-- the same answer, of the nodes that come
pub next_as : (view : View) (r : Result (Option NodeOffset) ViewError) (later : List NodeData) {others : List NodeData} → others ≡ later → IsOkAnd r (λ n. IsNext view n others) → IsOkAnd r (λ n. IsNext view n later)
next_as view r later e a = subst (λ (x : List NodeData). IsOkAnd r (λ n. IsNext view n x)) e a

-- what a test of a node's phandle says
pub test_as : (h : ℕ) (own told : Option ℕ) (is b : Bool) → own ≡ told → is ≡ option_map_or (λ g. g == h) own false → is ≡ b → option_map_or (λ g. g == h) told false ≡ b
test_as h own told is b e f g = ap (λ (o : Option ℕ). option_map_or (λ k. k == h) o false) (sym e) ∙ sym f ∙ g
