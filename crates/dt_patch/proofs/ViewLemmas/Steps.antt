-- Steps from node to node, and the levels that end between them.
use Rattle.std.proofs.Common.{◌≡◌, ℕ, zero, suc, ◌+◌, ◌<◌, ◌≤◌, List, [], ◌∷◌, ◌++◌, drop, Some, refl, ap, sym, subst, ◌∙◌, arith, append_assoc}
use Rattle.dt_tree.specs.declared.property.Property.{Property}
use Rattle.dt_tree.specs.NodeData.{NodeData, Siblings, none, more, node_data}
use Rattle.dt_blob.specs.Token.{Token, begin_node, end_node, property, nop, end, property_tokens, sibling_tokens}
use Rattle.dt_patch.specs.declared.view.nodes.NodeOffset.{NodeOffset}
use Rattle.dt_patch.specs.declared.view.view.View.{View}
use Rattle.dt_patch.specs.View.Order.{all_of, upward, nodes_left, IsNext}
use Rattle.dt_patch.specs.View.Stepping.{ended}
use Rattle.dt_patch.specs.View.Private.Reading.{Finds, StandsNothing}
use Rattle.dt_patch.specs.View.Standing.{Ahead}
use Rattle.dt_patch.proofs.ViewLemmas.Orders.{left_begin, left_nop, left_nothing, left_over}
use Rattle.dt_patch.proofs.ViewLemmas.Descents.{regrouped}

-- what is left of levels of which so many end before the next node, once some have ended
pub record Passing (view : View) (at left depth : ℕ) (fs : List Siblings) : Type 0 where
  pub ps : List Property
  pub gs : List Siblings
  pub ahead : Ahead view at (property_tokens ps ++ upward gs)
  pub is : nodes_left gs ≡ nodes_left fs
  pub counts : left + ended fs ≡ depth + ended gs

begun : (n : List ℕ) (ps : List Property) (c rest : Siblings) (gs : List Siblings) → sibling_tokens (more n ps c rest) ++ end_node ∷ upward gs ≡ begin_node n ∷ (property_tokens ps ++ upward (c ∷ rest ∷ gs))
begun n ps c rest gs = ap (λ (x : List Token). begin_node n ∷ x) (regrouped ps c rest (end_node ∷ upward gs))

pub pass_nothing : (view : View) (from left depth : ℕ) (fs : List Siblings) → StandsNothing view from → Passing view from left depth fs → ⊥
pass_nothing view from left depth fs n p = left_nothing view from (nodes_left fs) n (p.ps, p.gs, p.ahead, p.is)

pub pass_nop : (view : View) (from at next left depth : ℕ) (t : Token) (fs : List Siblings) → Finds view from t at next → t ≡ nop → Passing view from left depth fs → ⊥
pass_nop view from at next left depth t fs f e p = left_nop view from at next t (nodes_left fs) f e (p.ps, p.gs, p.ahead, p.is)

pub pass_over : (view : View) (from at next left depth : ℕ) (t : Token) (fs : List Siblings) → Finds view from t at next → t ≡ end → Passing view from left depth fs → (nodes_left fs ≡ []) × (left + ended fs ≡ depth)
pass_over view from at next left depth t fs f e p = (left_over view from at next t (nodes_left fs) f e (p.ps, p.gs, p.ahead, p.is), by_list p.ps p.gs p.ahead p.counts) where
  by_list : (qs : List Property) (gs : List Siblings) → Ahead view from (property_tokens qs ++ upward gs) → left + ended fs ≡ depth + ended gs → left + ended fs ≡ depth
  by_list (q ∷ qs) gs a i = absurd (let bad : end ≡ property q.name q.value = sym e ∙ (f.ahead (property q.name q.value) (property_tokens qs ++ upward gs) a).0 in cc bad)
  by_list [] [] a i = omega (arith, i)
  by_list [] (none ∷ gs) a i = absurd (let bad : end ≡ end_node = sym e ∙ (f.ahead end_node (upward gs) a).0 in cc bad)
  by_list [] (more n ps c rest ∷ gs) a i = omega (arith, i)

pub pass_begin : (view : View) (from : ℕ) (place : NodeOffset) (next left depth : ℕ) (t : Token) (name : List ℕ) (fs : List Siblings) → Finds view from t place.at next → t ≡ begin_node name → Passing view from left depth fs → IsNext view (Some place) (nodes_left fs) × (left + 1 + ended fs ≡ depth + 1)
pass_begin view from place next left depth t name fs f e p = (left_begin view from place next t name (nodes_left fs) f e (p.ps, p.gs, p.ahead, p.is), by_list p.ps p.gs p.ahead p.counts) where
  by_list : (qs : List Property) (gs : List Siblings) → Ahead view from (property_tokens qs ++ upward gs) → left + ended fs ≡ depth + ended gs → left + 1 + ended fs ≡ depth + 1
  by_list (q ∷ qs) gs a i = absurd (let bad : begin_node name ≡ property q.name q.value = sym e ∙ (f.ahead (property q.name q.value) (property_tokens qs ++ upward gs) a).0 in cc bad)
  by_list [] [] a i = absurd (let bad : begin_node name ≡ end = sym e ∙ (f.ahead end [] a).0 in cc bad)
  by_list [] (none ∷ gs) a i = absurd (let bad : begin_node name ≡ end_node = sym e ∙ (f.ahead end_node (upward gs) a).0 in cc bad)
  by_list [] (more n ps c rest ∷ gs) a i = omega (arith, i)

pub pass_property : (view : View) (from at next left depth : ℕ) (t : Token) (name value : List ℕ) (fs : List Siblings) → Finds view from t at next → t ≡ property name value → Passing view from left depth fs → Passing view next left depth fs
pass_property view from at next left depth t name value fs f e p = by_list p.ps p.gs p.ahead p.is p.counts where
  by_list : (qs : List Property) (gs : List Siblings) → Ahead view from (property_tokens qs ++ upward gs) → nodes_left gs ≡ nodes_left fs → left + ended fs ≡ depth + ended gs → Passing view next left depth fs
  by_list (q ∷ qs) gs a i k = record { ps = qs; gs = gs; ahead = (f.ahead (property q.name q.value) (property_tokens qs ++ upward gs) a).2; is = i; counts = k }
  by_list [] [] a i k = absurd (let bad : property name value ≡ end = sym e ∙ (f.ahead end [] a).0 in cc bad)
  by_list [] (none ∷ gs) a i k = absurd (let bad : property name value ≡ end_node = sym e ∙ (f.ahead end_node (upward gs) a).0 in cc bad)
  by_list [] (more n ps c rest ∷ gs) a i k =
      absurd (let bad : property name value ≡ begin_node n = sym e ∙ (f.ahead (begin_node n) (property_tokens ps ++ upward (c ∷ rest ∷ gs)) (subst (λ (x : List Token). Ahead view from x) (begun n ps c rest gs) a)).0 in cc bad)

-- behind an end: one level more has ended, and others are left
record Ending (view : View) (next left depth : ℕ) (fs : List Siblings) : Type 0 where
  gs : List Siblings
  ahead : Ahead view next (upward gs)
  is : nodes_left gs ≡ nodes_left fs
  counts : left + ended fs ≡ depth + suc (ended gs)

ending : (view : View) (from at next left depth : ℕ) (t : Token) (fs : List Siblings) → Finds view from t at next → t ≡ end_node → Passing view from left depth fs → Ending view next left depth fs
ending view from at next left depth t fs f e p = by_list p.ps p.gs p.ahead p.is p.counts where
  by_list : (qs : List Property) (gs : List Siblings) → Ahead view from (property_tokens qs ++ upward gs) → nodes_left gs ≡ nodes_left fs → left + ended fs ≡ depth + ended gs → Ending view next left depth fs
  by_list (q ∷ qs) gs a i k = absurd (let bad : end_node ≡ property q.name q.value = sym e ∙ (f.ahead (property q.name q.value) (property_tokens qs ++ upward gs) a).0 in cc bad)
  by_list [] [] a i k = absurd (let bad : end_node ≡ end = sym e ∙ (f.ahead end [] a).0 in cc bad)
  by_list [] (none ∷ gs) a i k = record { gs = gs; ahead = (f.ahead end_node (upward gs) a).2; is = i; counts = k }
  by_list [] (more n ps c rest ∷ gs) a i k =
      absurd (let bad : end_node ≡ begin_node n = sym e ∙ (f.ahead (begin_node n) (property_tokens ps ++ upward (c ∷ rest ∷ gs)) (subst (λ (x : List Token). Ahead view from x) (begun n ps c rest gs) a)).0 in cc bad)

pub pass_out : (view : View) (from at next left depth : ℕ) (t : Token) (fs : List Siblings) → Finds view from t at next → t ≡ end_node → left ≡ 0 → Passing view from left depth fs → depth < ended fs
pass_out view from at next left depth t fs f e h p =
    let d = ending view from at next left depth t fs f e p in
    let counts = d.counts in
    omega (arith, counts, h)

pub pass_end : (view : View) (from at next left less depth : ℕ) (t : Token) (fs : List Siblings) → Finds view from t at next → t ≡ end_node → less + 1 ≡ left → Passing view from left depth fs → Passing view next less depth fs
pass_end view from at next left less depth t fs f e h p =
    let d = ending view from at next left depth t fs f e p in
    let counts = d.counts in
    record { ps = []; gs = d.gs; ahead = d.ahead; is = d.is; counts = omega (arith, counts, h) }
