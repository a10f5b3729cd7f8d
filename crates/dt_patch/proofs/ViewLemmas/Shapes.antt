-- The tokens that are accepted are those of a root within the limits.
use Rattle.std.proofs.Common.{◌≡◌, ℕ, zero, suc, ◌+◌, ◌<◌, ◌≤◌, Bool, true, false, not, ◌&&◌, ◌==◌, List, [], ◌∷◌, ◌++◌, length, Option, Some, None, refl, ap, sym, ◌∙◌, arith, append_assoc, add-one}
use Rattle.std.specs.Prelude.{nat_lt}
use Rattle.std.specs.Option.{option_map_or}
use Rattle.std.proofs.lemmas.List.{length-append}
use Rattle.dt_tree.specs.declared.property.Property.{Property}
use Rattle.dt_tree.specs.Name.{is_name, are_names}
use Rattle.dt_tree.specs.NodeData.{NodeData, Siblings, none, more, siblings, property_names, height_of}
use Rattle.dt_blob.specs.Token.{Token, begin_node, end_node, property, nop, end, property_tokens, sibling_tokens, tree_tokens}
use Rattle.dt_blob.specs.Steps.NodeBuilders.{NodeSoFar, node_so_far, State, begun, inside, behind, ended, behind_node}
use Rattle.dt_blob.specs.Steps.NodeBuilders as builders
use Rattle.dt_blob.proofs.States.{so_far, node_at, the_property, after_property, property_sound, end_put}
use Rattle.dt_blob.proofs.Tests.{below, both, test_below, test_unequal}
use Rattle.dt_patch.specs.View.Shows.{NamedBelow, IsNamed}
use Rattle.dt_patch.specs.declared.view.stages.Stage.{Stage}
use Rattle.dt_patch.specs.declared.view.stages.Stage.TheVariants as stage
use Rattle.dt_patch.specs.View.Private.Stages.{begin_in, property_in, end_in, is_over, accepts}
use Rattle.dt_patch.proofs.ViewLemmas.Descents.{regrouped}

-- ---- a root's tokens are accepted

accept_properties : (ps : List Property) → are_names (property_names ps) ≡ true → (d : ℕ) (ts : List Token) → accepts (stage.Inside d false) (property_tokens ps ++ ts) ≡ accepts (stage.Inside d false) ts
accept_properties [] n d ts = refl
accept_properties (p ∷ ps) n d ts =
    let q = both (is_name p.name) (are_names (property_names ps)) n in
    let lawful : is_name p.name ≡ true = q.0 in
    rw lawful (accept_properties ps (q.1) d ts)

-- whether a node has a child, once these are behind it
abbrev has : Siblings → Bool → Bool
has none c = c
has (more name ps children rest) c = true

has_more : (f : Siblings) → has f true ≡ true
has_more none = refl
has_more (more name ps children rest) = refl

accept_end : (d : ℕ) (c : Bool) (ts : List Token) → accepts (stage.Inside (d + 1) c) (end_node ∷ ts) ≡ accepts (stage.Inside d true) ts
accept_end d c ts = rw add-one refl

accept_siblings : (f : Siblings) → NamedBelow f → (d : ℕ) → height_of f + d ≤ 64 → (c : Bool) (ts : List Token) → accepts (stage.Inside d c) (sibling_tokens f ++ ts) ≡ accepts (stage.Inside d (has f c)) ts
accept_siblings none n d h c ts = refl
accept_siblings (more name ps children rest) n d h c ts =
    let lawful : is_name name ≡ true = n.0 in
    let room : nat_lt d 64 ≡ true = test_below d 64 (omega arith) in
    let deep : height_of children + (d + 1) ≤ 64 = omega arith in
    let wide : height_of rest + d ≤ 64 = omega arith in
    rw (lawful, room) (
    ap (accepts (stage.Inside (d + 1) false)) (regrouped ps children rest ts)
    ∙ accept_properties ps (n.1) (d + 1) (sibling_tokens children ++ end_node ∷ (sibling_tokens rest ++ ts))
    ∙ accept_siblings children (n.2) (d + 1) deep false (end_node ∷ (sibling_tokens rest ++ ts))
    ∙ accept_end d (has children false) (sibling_tokens rest ++ ts)
    ∙ accept_siblings rest (n.3) d wide true ts
    ∙ ap (λ (b : Bool). accepts (stage.Inside d b) ts) (has_more rest)
    )

accept_root : (name : List ℕ) (ts : List Token) → name ≡ [] → accepts stage.Before (begin_node name ∷ ts) ≡ accepts (stage.Inside 0 false) ts
accept_root [] ts e = refl
accept_root (b ∷ bs) ts e = absurd (cc e)

pub accept_tree : (root : NodeData) → IsNamed root → accepts stage.Before (tree_tokens root) ≡ true
accept_tree root n =
    let shallow = n.shallow in
    accept_root root.name ((property_tokens root.properties ++ (sibling_tokens root.children ++ end_node ∷ [])) ++ end ∷ []) n.no_name
    ∙ ap (accepts (stage.Inside 0 false)) (regrouped root.properties root.children none (end ∷ []))
    ∙ accept_properties root.properties n.properties 0 (sibling_tokens root.children ++ end_node ∷ (end ∷ []))
    ∙ accept_siblings root.children n.below 0 (omega arith) false (end_node ∷ (end ∷ []))

-- ---- what is accepted are a root's tokens

abbrev NameAt : ℕ → List ℕ → Type 0
NameAt zero name = name ≡ []
NameAt (suc d) name = is_name name ≡ true

-- a node whose end hasn't come, with so many round it
record OpenAt (d : ℕ) (o : NodeSoFar) : Type 0 where
  name : NameAt d o.name
  properties : are_names (property_names o.properties) ≡ true
  below : NamedBelow (siblings o.children)
  shallow : height_of (siblings o.children) + d ≤ 64

abbrev OuterAt : List NodeSoFar → Type 0
OuterAt [] = Unit {0}
OuterAt (o ∷ os) = OpenAt (length os) o × OuterAt os

abbrev Lawful : State → Type 0
Lawful begun = Unit {0}
Lawful (inside top outer) = OpenAt (length outer) top × OuterAt outer
Lawful (behind root) = IsNamed root
Lawful (ended root) = ⊥

abbrev stage_of : State → Stage
stage_of begun = stage.Before
stage_of (inside top outer) = stage.Inside (length outer) (not (length top.children == 0))
stage_of (behind root) = stage.Behind
stage_of (ended root) = stage.Behind

record Steps (s : State) (t : Token) (u : Stage) : Type 0 where
  state : State
  stage_is : stage_of state ≡ u
  adds : so_far state ≡ so_far s ++ t ∷ []
  lawful : Lawful state

some_same : {A : Type 0} (x y : A) → Some x ≡ Some y → x ≡ y
some_same x y e = cc

begins : (s : State) (name : List ℕ) (u : Stage) → Lawful s → begin_in (stage_of s) name ≡ Some u → Steps s (begin_node name) u
begins begun [] u l e = record {
  state = inside (node_so_far [] [] []) [];
  stage_is = some_same (stage.Inside 0 false) u e;
  adds = refl;
  lawful = (record { name = refl; properties = refl; below = tt; shallow = omega arith }, tt);
}
begins begun (b ∷ bs) u l e = absurd (cc e)
begins (inside top outer) name u l e = by_test _ refl e where
  by_test : (t : Bool) → (is_name name && nat_lt (length outer) 64) ≡ t → begin_in (stage_of (inside top outer)) name ≡ Some u → Steps (inside top outer) (begin_node name) u
  by_test false f e = absurd (let bad : None ≡ Some u = (rw f at e) in cc)
  by_test true f e =
      let now : Some (stage.Inside (length outer + 1) false) ≡ Some u = (rw f at e) in
      let p = both (is_name name) (nat_lt (length outer) 64) f in
      let room : length outer < 64 = below (length outer) 64 (p.1) in
      record {
        state = inside (node_so_far name [] []) (top ∷ outer);
        stage_is = ap (λ (n : ℕ). stage.Inside n false) (sym (add-one (length outer))) ∙ some_same (stage.Inside (length outer + 1) false) u now;
        adds = refl;
        lawful = (record { name = p.0; properties = refl; below = tt; shallow = omega arith }, l);
      }
begins (behind root) name u l e = absurd (cc e)
begins (ended root) name u l e = absurd l

twice_not : (b : Bool) → not (not b) ≡ true → b ≡ true
twice_not true e = refl
twice_not false e = absurd (cc e)

names_push : (ps : List Property) (p : Property) → are_names (property_names ps) ≡ true → is_name p.name ≡ true → are_names (property_names (ps ++ p ∷ [])) ≡ true
names_push [] p a n = rw n refl
names_push (q ∷ ps) p a n =
    let b = both (is_name q.name) (are_names (property_names ps)) a in
    let first : is_name q.name ≡ true = b.0 in
    rw first (names_push ps p (b.1) n)

adds_property : (s : State) (name value : List ℕ) (u : Stage) → Lawful s → property_in (stage_of s) name ≡ Some u → Steps s (property name value) u
adds_property begun name value u l e = absurd (cc e)
adds_property (inside top outer) name value u l e = by_test _ refl e where
  by_test : (t : Bool) → (is_name name && not (not (length top.children == 0))) ≡ t → property_in (stage_of (inside top outer)) name ≡ Some u → Steps (inside top outer) (property name value) u
  by_test false f e = absurd (let bad : None ≡ Some u = (rw f at e) in cc)
  by_test true f e =
      let now : Some (stage_of (inside top outer)) ≡ Some u = (rw f at e) in
      let p = both (is_name name) (not (not (length top.children == 0))) f in
      let lawful : is_name name ≡ true = p.0 in
      let empty : (length top.children == 0) ≡ true = twice_not (length top.children == 0) (p.1) in
      let v : State = inside (after_property top name value top.children) outer in
      let read : builders.property_in (inside top outer) name value ≡ Some v = rw (lawful, empty) refl in
      record {
        state = v;
        stage_is = some_same (stage_of (inside top outer)) u now;
        adds = property_sound (inside top outer) v name value read;
        lawful = (record { name = l.0.name; properties = names_push top.properties (the_property name value) l.0.properties lawful; below = l.0.below; shallow = l.0.shallow }, l.1);
      }
adds_property (behind root) name value u l e = absurd (cc e)
adds_property (ended root) name value u l e = absurd l

named_push : (cs : List NodeData) (n : NodeData) → NamedBelow (siblings cs) → is_name n.name ≡ true → are_names (property_names n.properties) ≡ true → NamedBelow n.children → NamedBelow (siblings (cs ++ n ∷ []))
named_push [] n b i a k = (i, a, k, tt)
named_push (c ∷ cs) n b i a k = (b.0, b.1, b.2, named_push cs n (b.3) i a k)

height_push : (cs : List NodeData) (n : NodeData) (d : ℕ) → height_of (siblings cs) + d ≤ 64 → (height_of n.children + 1) + d ≤ 64 → height_of (siblings (cs ++ n ∷ [])) + d ≤ 64
height_push [] n d h k = omega arith
height_push (c ∷ cs) n d h k = let later = height_push cs n d (omega arith) k in omega arith

some_children : (cs : List NodeData) (n : NodeData) → not (length (cs ++ n ∷ []) == 0) ≡ true
some_children cs n = let other : (length (cs ++ n ∷ []) == 0) ≡ false = test_unequal (length (cs ++ n ∷ [])) 0 (omega (arith, length-append cs (n ∷ []))) in rw other refl

ends_node : (s : State) (u : Stage) → Lawful s → end_in (stage_of s) ≡ Some u → Steps s end_node u
ends_node begun u l e = absurd (cc e)
ends_node (inside top []) u l e =
    let shallow = l.0.shallow in
    record {
      state = behind (node_at top);
      stage_is = some_same stage.Behind u e;
      adds = end_put top [];
      lawful = record { no_name = l.0.name; properties = l.0.properties; below = l.0.below; shallow = omega arith };
    }
ends_node (inside top (o ∷ os)) u l e =
    let deep = l.0.shallow in
    let last : height_of (siblings top.children) + 1 + length os ≤ 64 = omega arith in
    record {
      state = inside (node_so_far o.name o.properties (o.children ++ node_at top ∷ [])) os;
      stage_is = ap (λ (b : Bool). stage.Inside (length os) b) (some_children o.children (node_at top)) ∙ some_same (stage.Inside (length os) true) u e;
      adds = end_put top (o ∷ os);
      lawful = (
        record {
          name = l.1.0.name;
          properties = l.1.0.properties;
          below = named_push o.children (node_at top) l.1.0.below l.0.name l.0.properties l.0.below;
          shallow = height_push o.children (node_at top) (length os) l.1.0.shallow last;
        },
        l.1.1,
      );
    }
ends_node (behind root) u l e = absurd (cc e)
ends_node (ended root) u l e = absurd l

pub record Rooted (s : State) (ts : List Token) : Type 0 where
  pub root : NodeData
  pub tokens : so_far s ++ ts ≡ tree_tokens root
  pub named : IsNamed root

next : (s : State) (t : Token) (ts : List Token) (o : Option Stage) → ((u : Stage) → o ≡ Some u → Steps s t u) → option_map_or (λ u. accepts u ts) o false ≡ true
    → ((v : State) → Lawful v → accepts (stage_of v) ts ≡ true → Rooted v ts) → Rooted s (t ∷ ts)
next s t ts None f e ih = absurd (cc e)
next s t ts (Some u) f e ih =
    let p = f u refl in
    let r = ih p.state p.lawful (ap (λ (x : Stage). accepts x ts) p.stage_is ∙ e) in
    record {
      root = r.root;
      tokens = sym (append_assoc (so_far s) (t ∷ []) ts) ∙ ap (λ (x : List Token). x ++ ts) (sym p.adds) ∙ r.tokens;
      named = r.named;
    }

over : (s : State) (ts : List Token) → Lawful s → is_over (stage_of s) ts ≡ true → Rooted s (end ∷ ts)
over begun ts l e = absurd (cc e)
over (inside top outer) ts l e = absurd (cc e)
over (behind root) [] l e = record { root = root; tokens = refl; named = l }
over (behind root) (t ∷ ts) l e = absurd (cc e)
over (ended root) ts l e = absurd l

sound : (ts : List Token) (s : State) → Lawful s → accepts (stage_of s) ts ≡ true → Rooted s ts
sound [] s l e = absurd (cc e)
sound (begin_node name ∷ ts) s l e = next s (begin_node name) ts (begin_in (stage_of s) name) (λ u f. begins s name u l f) e (λ v k a. sound ts v k a)
sound (end_node ∷ ts) s l e = next s end_node ts (end_in (stage_of s)) (λ u f. ends_node s u l f) e (λ v k a. sound ts v k a)
sound (property name value ∷ ts) s l e = next s (property name value) ts (property_in (stage_of s) name) (λ u f. adds_property s name value u l f) e (λ v k a. sound ts v k a)
sound (nop ∷ ts) s l e = absurd (cc e)
sound (end ∷ ts) s l e = over s ts l e

pub accepted_tree : (ts : List Token) → accepts stage.Before ts ≡ true → Rooted begun ts
accepted_tree ts e = sound ts begun tt e
