-- Tokens read one by one: what is read is a tree's tokens, and a tree's tokens are read.
use Rattle.std.proofs.Common.{◌≡◌, ℕ, ◌+◌, ◌≤◌, Bool, true, false, not, ◌&&◌, ◌==◌, List, [], ◌∷◌, ◌++◌, length, Option, Some, None, refl, ap, sym, subst, ◌∙◌, arith, append_assoc}
use Rattle.std.specs.Prelude.{nat_lt, option_and_then, is_none}
use Rattle.std.proofs.lemmas.List.{append-nil}
use Rattle.dt_tree.specs.declared.property.Property.{Property}
use Rattle.dt_tree.specs.NodeData.{NodeData, node_data, Siblings, none, more, siblings, nodes_of, child_names, property_names, height_of}
use Rattle.dt_tree.specs.Name.{is_name, are_names}
use Rattle.dt_tree.specs.Sound.{are_distinct, AreSound, AreSiblings, IsSoundBelow, IsSound}
use Rattle.dt_tree.specs.Fault.{fault_of, are_named}
use Rattle.dt_blob.specs.Token.{Token, begin_node, end_node, property, nop, end, property_tokens, sibling_tokens, tokens_of, tree_tokens}
use Rattle.dt_blob.specs.Steps.NodeBuilders.{NodeSoFar, node_so_far, State, begun, inside, behind, ended, begin_in, property_in, behind_node, node_of, end_in, close_in, step, run, root_of, root_from}
use Rattle.dt_blob.proofs.Tests.{both, equal, test_below, test_not_below, test_unequal}

-- ---- what has been read

abbrev pub opened_tokens : NodeSoFar → List Token
opened_tokens o = begin_node o.name ∷ (property_tokens o.properties ++ sibling_tokens (siblings o.children))

abbrev pub outer_tokens : List NodeSoFar → List Token
outer_tokens [] = []
outer_tokens (o ∷ os) = outer_tokens os ++ opened_tokens o

abbrev pub so_far : State → List Token
so_far begun = []
so_far (inside top outer) = outer_tokens outer ++ opened_tokens top
so_far (behind root) = tokens_of root
so_far (ended root) = tree_tokens root

pub properties_push : (ps : List Property) (p : Property) → property_tokens (ps ++ p ∷ []) ≡ property_tokens ps ++ property p.name p.value ∷ []
properties_push [] p = refl
properties_push (q ∷ ps) p = ap (λ (x : List Token). property q.name q.value ∷ x) (properties_push ps p)

children_push : (ns : List NodeData) (n : NodeData) → sibling_tokens (siblings (ns ++ n ∷ [])) ≡ sibling_tokens (siblings ns) ++ tokens_of n
children_push [] n = refl
children_push (m ∷ ns) n =
    let later = children_push ns n in
    let inner : List Token = sibling_tokens m.children in
    let ps : List Token = property_tokens m.properties in
    let rest : List Token = sibling_tokens (siblings ns) in
    ap (λ (x : List Token). begin_node m.name ∷ (ps ++ (inner ++ end_node ∷ x))) later
    ∙ ap (λ (x : List Token). begin_node m.name ∷ x) (ap (λ (x : List Token). ps ++ x) (sym (append_assoc inner (end_node ∷ rest) (tokens_of n))) ∙ sym (append_assoc ps (inner ++ end_node ∷ rest) (tokens_of n)))

-- a child goes behind the children
pub node_put : (node : NodeData) (outer : List NodeSoFar) → so_far (behind_node node outer) ≡ outer_tokens outer ++ tokens_of node
node_put node [] = refl
node_put node (o ∷ os) =
    let ps : List Token = property_tokens o.properties in
    ap (λ (x : List Token). outer_tokens os ++ begin_node o.name ∷ (ps ++ x)) (children_push o.children node)
    ∙ ap (λ (x : List Token). outer_tokens os ++ begin_node o.name ∷ x) (sym (append_assoc ps (sibling_tokens (siblings o.children)) (tokens_of node)))
    ∙ sym (append_assoc (outer_tokens os) (opened_tokens o) (tokens_of node))

pub some_same : {A : Type 0} (x y : A) → Some x ≡ Some y → x ≡ y
some_same x y e = cc

pub pushed : (s u v : State) (t : Token) → Some v ≡ Some u → so_far v ≡ so_far s ++ t ∷ [] → so_far u ≡ so_far s ++ t ∷ []
pushed s u v t e is = subst (λ (x : State). so_far x ≡ so_far s ++ t ∷ []) (some_same v u e) is

pub begin_sound : (s u : State) (name : List ℕ) → begin_in s name ≡ Some u → so_far u ≡ so_far s ++ begin_node name ∷ []
begin_sound begun u [] e = pushed begun u (inside (node_so_far [] [] []) []) (begin_node []) e refl
begin_sound begun u (b ∷ bs) e = absurd (cc e)
begin_sound (inside top outer) u name e = by_test _ refl e where
  by_test : (t : Bool) → (is_name name && nat_lt (length outer) 64) ≡ t → begin_in (inside top outer) name ≡ Some u → so_far u ≡ so_far (inside top outer) ++ begin_node name ∷ []
  by_test false f e = absurd (let bad : None ≡ Some u = (rw f at e) in cc)
  by_test true f e =
      let now : Some (inside (node_so_far name [] []) (top ∷ outer)) ≡ Some u = (rw f at e) in
      pushed (inside top outer) u (inside (node_so_far name [] []) (top ∷ outer)) (begin_node name) now refl
begin_sound (behind root) u name e = absurd (cc e)
begin_sound (ended root) u name e = absurd (cc e)

pub no_children : (ns : List NodeData) → (length ns == 0) ≡ true → ns ≡ []
no_children [] e = refl
no_children (n ∷ ns) e = let none : length (n ∷ ns) ≡ 0 = equal (length (n ∷ ns)) 0 e in absurd (omega arith)

abbrev pub the_property : List ℕ → List ℕ → Property
the_property name value = record { name = name; value = value }

abbrev pub after_property : NodeSoFar → List ℕ → List ℕ → List NodeData → NodeSoFar
after_property top name value ns = node_so_far top.name (top.properties ++ the_property name value ∷ []) ns

abbrev pub node_at : NodeSoFar → NodeData
node_at top = node_data top.name top.properties (siblings top.children)

pub property_sound : (s u : State) (name value : List ℕ) → property_in s name value ≡ Some u → so_far u ≡ so_far s ++ property name value ∷ []
property_sound begun u name value e = absurd (cc e)
property_sound (inside top outer) u name value e = by_test _ refl e where
  flat : so_far (inside (after_property top name value []) outer) ≡ so_far (inside (node_so_far top.name top.properties []) outer) ++ property name value ∷ []
  flat =
      let ps : List Token = property_tokens top.properties in
      ap (λ (x : List Token). outer_tokens outer ++ begin_node top.name ∷ (x ++ [])) (properties_push top.properties (the_property name value))
      ∙ ap (λ (x : List Token). outer_tokens outer ++ begin_node top.name ∷ x) (append-nil (ps ++ property name value ∷ []) ∙ ap (λ (x : List Token). x ++ property name value ∷ []) (sym (append-nil ps)))
      ∙ sym (append_assoc (outer_tokens outer) (begin_node top.name ∷ (ps ++ [])) (property name value ∷ []))

  by_test : (t : Bool) → (is_name name && length top.children == 0) ≡ t → property_in (inside top outer) name value ≡ Some u → so_far u ≡ so_far (inside top outer) ++ property name value ∷ []
  by_test false f e = absurd (let bad : None ≡ Some u = (rw f at e) in cc)
  by_test true f e =
      let now : Some (inside (after_property top name value top.children) outer) ≡ Some u = (rw f at e) in
      let empty = no_children top.children ((both (is_name name) (length top.children == 0) f).1) in
      pushed (inside top outer) u (inside (after_property top name value top.children) outer) (property name value) now
      (subst (λ (ns : List NodeData). so_far (inside (after_property top name value ns) outer) ≡ so_far (inside (node_so_far top.name top.properties ns) outer) ++ property name value ∷ []) (sym empty) flat)
property_sound (behind root) u name value e = absurd (cc e)
property_sound (ended root) u name value e = absurd (cc e)

-- the end of the node at hand
pub end_put : (top : NodeSoFar) (outer : List NodeSoFar) → so_far (behind_node (node_at top) outer) ≡ so_far (inside top outer) ++ end_node ∷ []
end_put top outer =
    let ps : List Token = property_tokens top.properties in
    let cs : List Token = sibling_tokens (siblings top.children) in
    node_put (node_at top) outer
    ∙ ap (λ (x : List Token). outer_tokens outer ++ begin_node top.name ∷ x) (sym (append_assoc ps cs (end_node ∷ [])))
    ∙ sym (append_assoc (outer_tokens outer) (opened_tokens top) (end_node ∷ []))

end_sound : (s u : State) → end_in s ≡ Some u → so_far u ≡ so_far s ++ end_node ∷ []
end_sound begun u e = absurd (cc e)
end_sound (inside top outer) u e = by_test _ refl e where
  by_test : (t : Bool) → is_none (fault_of top.properties top.children) ≡ t → end_in (inside top outer) ≡ Some u → so_far u ≡ so_far (inside top outer) ++ end_node ∷ []
  by_test false f e = absurd (let bad : None ≡ Some u = (rw f at e) in cc)
  by_test true f e =
      let now : Some (behind_node (node_at top) outer) ≡ Some u = (rw f at e) in
      pushed (inside top outer) u (behind_node (node_at top) outer) end_node now (end_put top outer)
end_sound (behind root) u e = absurd (cc e)
end_sound (ended root) u e = absurd (cc e)

close_sound : (s u : State) → close_in s ≡ Some u → so_far u ≡ so_far s ++ end ∷ []
close_sound begun u e = absurd (cc e)
close_sound (inside top outer) u e = absurd (cc e)
close_sound (behind root) u e = pushed (behind root) u (ended root) end e refl
close_sound (ended root) u e = absurd (cc e)

step_sound : (s u : State) (t : Token) → step s t ≡ Some u → so_far u ≡ so_far s ++ t ∷ []
step_sound s u (begin_node name) e = begin_sound s u name e
step_sound s u end_node e = end_sound s u e
step_sound s u (property name value) e = property_sound s u name value e
step_sound s u nop e = absurd (cc e)
step_sound s u end e = close_sound s u e

run_sound : (ts : List Token) (s u : State) → run s ts ≡ Some u → so_far u ≡ so_far s ++ ts
run_sound [] s u e = ap so_far (sym (some_same s u e)) ∙ sym (append-nil (so_far s))
run_sound (t ∷ ts) s u e = by_step _ refl e (λ v h. run_sound ts v u h) where
  by_step : (o : Option State) → step s t ≡ o → run s (t ∷ ts) ≡ Some u → ((v : State) → run v ts ≡ Some u → so_far u ≡ so_far v ++ ts) → so_far u ≡ so_far s ++ t ∷ ts
  by_step None f e ih = absurd (let bad : None ≡ Some u = (rw f at e) in cc)
  by_step (Some v) f e ih =
      let rest : run v ts ≡ Some u = (rw f at e) in
      ih v rest ∙ ap (λ (x : List Token). x ++ ts) (step_sound s v t f) ∙ append_assoc (so_far s) (t ∷ []) ts

-- ---- the root has no name

abbrev outermost : NodeSoFar → List NodeSoFar → NodeSoFar
outermost o [] = o
outermost o (p ∷ ps) = outermost p ps

abbrev Unnamed : State → Type 0
Unnamed begun = Unit {0}
Unnamed (inside top outer) = (outermost top outer).name ≡ []
Unnamed (behind root) = root.name ≡ []
Unnamed (ended root) = root.name ≡ []

unnamed_push : (top o : NodeSoFar) (outer : List NodeSoFar) → (outermost top (o ∷ outer)).name ≡ (outermost o outer).name
unnamed_push top o outer = refl

-- the outermost node's name doesn't depend on what else it holds
outer_name : (outer : List NodeSoFar) (a b : NodeSoFar) → a.name ≡ b.name → (outermost a outer).name ≡ (outermost b outer).name
outer_name [] a b e = e
outer_name (o ∷ outer) a b e = refl

unnamed_node : (node : NodeData) (top : NodeSoFar) (outer : List NodeSoFar) → node.name ≡ top.name → (outermost top outer).name ≡ [] → Unnamed (behind_node node outer)
unnamed_node node top [] e h = e ∙ h
unnamed_node node top (o ∷ os) e h = outer_name os (node_so_far o.name o.properties (o.children ++ node ∷ [])) o refl ∙ h

unnamed_step : (s u : State) (t : Token) → step s t ≡ Some u → Unnamed s → Unnamed u
unnamed_step begun u (begin_node []) e h = subst Unnamed (some_same (inside (node_so_far [] [] []) []) u e) refl
unnamed_step begun u (begin_node (b ∷ bs)) e h = absurd (cc e)
unnamed_step begun u end_node e h = absurd (cc e)
unnamed_step begun u (property name value) e h = absurd (cc e)
unnamed_step begun u nop e h = absurd (cc e)
unnamed_step begun u end e h = absurd (cc e)
unnamed_step (inside top outer) u (begin_node name) e h = by_test _ refl e where
  by_test : (t : Bool) → (is_name name && nat_lt (length outer) 64) ≡ t → begin_in (inside top outer) name ≡ Some u → Unnamed u
  by_test false f e = absurd (let bad : None ≡ Some u = (rw f at e) in cc)
  by_test true f e = let now : Some (inside (node_so_far name [] []) (top ∷ outer)) ≡ Some u = (rw f at e) in subst Unnamed (some_same (inside (node_so_far name [] []) (top ∷ outer)) u now) h
unnamed_step (inside top outer) u end_node e h = by_test _ refl e where
  by_test : (t : Bool) → is_none (fault_of top.properties top.children) ≡ t → end_in (inside top outer) ≡ Some u → Unnamed u
  by_test false f e = absurd (let bad : None ≡ Some u = (rw f at e) in cc)
  by_test true f e = let now : Some (behind_node (node_at top) outer) ≡ Some u = (rw f at e) in subst Unnamed (some_same (behind_node (node_at top) outer) u now) (unnamed_node (node_at top) top outer refl h)
unnamed_step (inside top outer) u (property name value) e h = by_test _ refl e where
  by_test : (t : Bool) → (is_name name && length top.children == 0) ≡ t → property_in (inside top outer) name value ≡ Some u → Unnamed u
  by_test false f e = absurd (let bad : None ≡ Some u = (rw f at e) in cc)
  by_test true f e = let now : Some (inside (after_property top name value top.children) outer) ≡ Some u = (rw f at e) in subst Unnamed (some_same (inside (after_property top name value top.children) outer) u now) (outer_name outer (after_property top name value top.children) top refl ∙ h)
unnamed_step (inside top outer) u nop e h = absurd (cc e)
unnamed_step (inside top outer) u end e h = absurd (cc e)
unnamed_step (behind root) u (begin_node name) e h = absurd (cc e)
unnamed_step (behind root) u end_node e h = absurd (cc e)
unnamed_step (behind root) u (property name value) e h = absurd (cc e)
unnamed_step (behind root) u nop e h = absurd (cc e)
unnamed_step (behind root) u end e h = subst Unnamed (some_same (ended root) u e) h
unnamed_step (ended root) u (begin_node name) e h = absurd (cc e)
unnamed_step (ended root) u end_node e h = absurd (cc e)
unnamed_step (ended root) u (property name value) e h = absurd (cc e)
unnamed_step (ended root) u nop e h = absurd (cc e)
unnamed_step (ended root) u end e h = absurd (cc e)

unnamed_run : (ts : List Token) (s u : State) → run s ts ≡ Some u → Unnamed s → Unnamed u
unnamed_run [] s u e h = subst Unnamed (some_same s u e) h
unnamed_run (t ∷ ts) s u e h = by_step _ refl e (λ v k. unnamed_run ts v u k) where
  by_step : (o : Option State) → step s t ≡ o → run s (t ∷ ts) ≡ Some u → ((v : State) → run v ts ≡ Some u → Unnamed v → Unnamed u) → Unnamed u
  by_step None f e ih = absurd (let bad : None ≡ Some u = (rw f at e) in cc)
  by_step (Some v) f e ih = let rest : run v ts ≡ Some u = (rw f at e) in ih v rest (unnamed_step s v t f h)

-- the tokens from which a root is read are the root's, and it has no name
pub record IsRead (ts : List Token) (root : NodeData) : Type 0 where
  pub tokens : ts ≡ tree_tokens root
  pub unnamed : root.name ≡ []

read_by : (ts : List Token) (root : NodeData) (o : Option State) → run begun ts ≡ o → option_and_then root_of o ≡ Some root → IsRead ts root
read_by ts root None f e = absurd (cc e)
read_by ts root (Some begun) f e = absurd (cc e)
read_by ts root (Some (inside top outer)) f e = absurd (cc e)
read_by ts root (Some (behind n)) f e = absurd (cc e)
read_by ts root (Some (ended n)) f e =
    let same : n ≡ root = some_same n root e in
    subst (IsRead ts) same (record { tokens = sym (run_sound ts begun (ended n) f); unnamed = unnamed_run ts begun (ended n) f tt })

pub root_sound : (ts : List Token) (root : NodeData) → root_from begun ts ≡ Some root → IsRead ts root
unfolding root_from
root_sound ts root e = read_by ts root (run begun ts) refl e

-- ---- a tree's tokens are read

run_append : (a b : List Token) (s u : State) → run s a ≡ Some u → run s (a ++ b) ≡ run u b
run_append [] b s u e = ap (λ (x : State). run x b) (some_same s u e)
run_append (t ∷ a) b s u e = by_step _ refl e (λ v k. run_append a b v u k) where
  by_step : (o : Option State) → step s t ≡ o → run s (t ∷ a) ≡ Some u → ((v : State) → run v a ≡ Some u → run v (a ++ b) ≡ run u b) → run s ((t ∷ a) ++ b) ≡ run u b
  by_step None f e ih = absurd (let bad : None ≡ Some u = (rw f at e) in cc)
  by_step (Some v) f e ih = let rest : run v a ≡ Some u = (rw f at e) in rw f (ih v rest)

step_then : (s u : State) (t : Token) (ts : List Token) → step s t ≡ Some u → run s (t ∷ ts) ≡ run u ts
step_then s u t ts e = rw e refl

names_head : (n : List ℕ) (ns : List (List ℕ)) → are_names (n ∷ ns) ≡ true → (is_name n ≡ true) × (are_names ns ≡ true)
names_head n ns e = both (is_name n) (are_names ns) e

run_properties : (qs ps : List Property) (name : List ℕ) (outer : List NodeSoFar) → are_names (property_names qs) ≡ true
    → run (inside (node_so_far name ps []) outer) (property_tokens qs) ≡ Some (inside (node_so_far name (ps ++ qs) []) outer)
run_properties [] ps name outer h = ap (λ (x : List Property). Some (inside (node_so_far name x []) outer)) (sym (append-nil ps))
run_properties (q ∷ qs) ps name outer h =
    let n = names_head q.name (property_names qs) h in
    let first : property_in (inside (node_so_far name ps []) outer) q.name q.value ≡ Some (inside (node_so_far name (ps ++ q ∷ []) []) outer) = rw (n.0) refl in
    step_then (inside (node_so_far name ps []) outer) (inside (node_so_far name (ps ++ q ∷ []) []) outer) (property q.name q.value) (property_tokens qs) first
    ∙ run_properties qs (ps ++ q ∷ []) name outer (n.1)
    ∙ ap (λ (x : List Property). Some (inside (node_so_far name x []) outer)) (append_assoc ps (q ∷ []) qs)

pub siblings-nodes : (f : Siblings) → siblings (nodes_of f) ≡ f
siblings-nodes none = refl
siblings-nodes (more n p c rest) = ap (λ (x : Siblings). more n p c x) (siblings-nodes rest)

name_there : (n : List ℕ) → is_name n ≡ true → not (length n == 0) ≡ true
name_there [] e = absurd (cc e)
name_there (b ∷ bs) e = let some : (length (b ∷ bs) == 0) ≡ false = test_unequal (length (b ∷ bs)) 0 (omega arith) in rw some refl

children_named : (f : Siblings) → are_names (child_names f) ≡ true → are_named (nodes_of f) ≡ true
children_named none h = refl
children_named (more n p c rest) h = let e = names_head n (child_names rest) h in rw (name_there n (e.0)) (children_named rest (e.1))

no_fault_of : (p : List Property) (c : Siblings) → AreSound p → AreSiblings c → height_of c ≤ 64 → fault_of p (nodes_of c) ≡ None
no_fault_of p c s t h =
    let named = children_named c t.named in
    let first : are_distinct (property_names p) ≡ true = s.distinct in
    let same = siblings-nodes c in
    let second : are_distinct (child_names (siblings (nodes_of c))) ≡ true = rw same t.distinct in
    let third : nat_lt 64 (height_of (siblings (nodes_of c))) ≡ false = rw same (test_not_below 64 (height_of c) h) in
    rw (named, first, second, third) refl

-- the node that its tokens leave
closed : (n : List ℕ) (p : List Property) (c : Siblings) → fault_of p (nodes_of c) ≡ None → node_of (node_so_far n p (nodes_of c)) ≡ Some (node_data n p c)
closed n p c e = rw (e, siblings-nodes c) refl

-- reads the properties, the children and the end of a node
inner_read : (n : List ℕ) (p : List Property) (c : Siblings) (outer : List NodeSoFar) → AreSound p → AreSiblings c → height_of c ≤ 64
    → run (inside (node_so_far n p []) outer) (sibling_tokens c) ≡ Some (inside (node_so_far n p (nodes_of c)) outer)
    → run (inside (node_so_far n [] []) outer) (property_tokens p ++ (sibling_tokens c ++ end_node ∷ [])) ≡ Some (behind_node (node_data n p c) outer)
inner_read n p c outer s t h e =
    let close : end_in (inside (node_so_far n p (nodes_of c)) outer) ≡ Some (behind_node (node_data n p c) outer) = rw (closed n p c (no_fault_of p c s t h)) refl in
    run_append (property_tokens p) (sibling_tokens c ++ end_node ∷ []) (inside (node_so_far n [] []) outer) (inside (node_so_far n p []) outer) (run_properties p [] n outer s.named)
    ∙ run_append (sibling_tokens c) (end_node ∷ []) (inside (node_so_far n p []) outer) (inside (node_so_far n p (nodes_of c)) outer) e
    ∙ step_then (inside (node_so_far n p (nodes_of c)) outer) (behind_node (node_data n p c) outer) end_node [] close

run_siblings : (f : Siblings) (top : NodeSoFar) (outer : List NodeSoFar) → are_names (child_names f) ≡ true → IsSoundBelow f → height_of f + length outer ≤ 64
    → run (inside top outer) (sibling_tokens f) ≡ Some (inside (node_so_far top.name top.properties (top.children ++ nodes_of f)) outer)
run_siblings none top outer a s h = ap (λ (x : List NodeData). Some (inside (node_so_far top.name top.properties x) outer)) (sym (append-nil top.children))
run_siblings (more n p c rest) top outer a s h =
    let name = names_head n (child_names rest) a in
    let deep : nat_lt (length outer) 64 ≡ true = test_below (length outer) 64 (omega arith) in
    let first : begin_in (inside top outer) n ≡ Some (inside (node_so_far n [] []) (top ∷ outer)) = rw (name.0, deep) refl in
    let child : NodeData = node_data n p c in
    let next : NodeSoFar = node_so_far top.name top.properties (top.children ++ child ∷ []) in
    let below = run_siblings c (node_so_far n p []) (top ∷ outer) s.1.named s.2 (omega arith) in
    let inner = inner_read n p c (top ∷ outer) s.0 s.1 (omega arith) below in
    step_then (inside top outer) (inside (node_so_far n [] []) (top ∷ outer)) (begin_node n) (property_tokens p ++ (sibling_tokens c ++ end_node ∷ sibling_tokens rest)) first
    ∙ ap (run (inside (node_so_far n [] []) (top ∷ outer))) (regrouped (property_tokens p) (sibling_tokens c) (sibling_tokens rest))
    ∙ run_append (property_tokens p ++ (sibling_tokens c ++ end_node ∷ [])) (sibling_tokens rest) (inside (node_so_far n [] []) (top ∷ outer)) (inside next outer) inner
    ∙ run_siblings rest next outer (name.1) s.3 (omega arith)
    ∙ ap (λ (x : List NodeData). Some (inside (node_so_far top.name top.properties x) outer)) (append_assoc top.children (child ∷ []) (nodes_of rest)) where
      regrouped : (a b d : List Token) → a ++ (b ++ end_node ∷ d) ≡ (a ++ (b ++ end_node ∷ [])) ++ d
      regrouped a b d = ap (λ (x : List Token). a ++ x) (sym (append_assoc b (end_node ∷ []) d)) ∙ sym (append_assoc a (b ++ end_node ∷ []) d)

pub root_again : (root : NodeData) → IsSound root → root.name ≡ [] → root_from begun (tree_tokens root) ≡ Some root
unfolding root_from
root_again root s e =
    let p : List Property = root.properties in
    let c : Siblings = root.children in
    let below = run_siblings c (node_so_far [] p []) [] s.siblings.named s.below (let h = s.shallow in omega (arith, h)) in
    let inner = inner_read [] p c [] s.properties s.siblings s.shallow below in
    let all : run begun (tree_tokens (node_data [] p c)) ≡ Some (ended (node_data [] p c)) =
    run_append (property_tokens p ++ (sibling_tokens c ++ end_node ∷ [])) (end ∷ []) (inside (node_so_far [] [] []) []) (behind (node_data [] p c)) inner in
    let same : node_data [] p c ≡ root = ap (λ (x : List ℕ). node_data x p c) (sym e) in
    subst (λ (x : NodeData). option_and_then root_of (run begun (tree_tokens x)) ≡ Some x) same (rw all refl)
