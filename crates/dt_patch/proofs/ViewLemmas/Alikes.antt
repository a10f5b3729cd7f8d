-- A child by a name that may lack its unit address, and a node by such names.
use Rattle.std.proofs.Common.{◌≡◌, ℕ, ◌+◌, ◌<◌, ◌≤◌, true, false, List, [], ◌∷◌, ◌++◌, length, get_or, drop, Option, Some, None, option_and_then, refl, ap, sym, subst, ◌∙◌}
use Rattle.std.proofs.lemmas.List.{at_drop_more, at_drop_all}
use Rattle.dt_tree.specs.declared.property.Property.{Property}
use Rattle.dt_tree.specs.NodeData.{NodeData, Siblings, none, more}
use Rattle.dt_blob.specs.Token.{Token, begin_node, end_node, property, property_tokens, sibling_tokens}
use Rattle.dt_patch.specs.declared.view.nodes.NodeOffset.{NodeOffset}
use Rattle.dt_patch.specs.declared.view.view.View.{View}
use Rattle.dt_patch.specs.View.Alike.{child_like, down_like, is_like, node_like}
use Rattle.dt_patch.specs.View.Places.{IsPlaceOf}
use Rattle.dt_patch.specs.View.Private.Reading.{Finds, inside_tokens}
use Rattle.dt_patch.specs.View.Standing.{Ahead, StandsAt, ends}
use Rattle.dt_patch.proofs.ViewLemmas.Descents.{the_node, first_stands, behind_begin, met_end, met_property}

-- among the nodes that are left the name has this one
abbrev pub AlikeLeft : View → ℕ → Token → List ℕ → Option NodeData → Type 0
AlikeLeft view at last name o = (qs : List Property) × (nodes : Siblings) × Ahead view at (inside_tokens qs nodes last) × (child_like nodes name ≡ o)

-- the node that was met, and those behind it
record Met (view : View) (at next : ℕ) (own : List ℕ) (last : Token) (name : List ℕ) (o : Option NodeData) : Type 0 where
  ps : List Property
  children : Siblings
  rest : Siblings
  stands : StandsAt view at (the_node own ps children)
  inside : Ahead view next (property_tokens ps ++ (sibling_tokens children ++ end_node ∷ (sibling_tokens rest ++ last ∷ [])))
  is : child_like (more own ps children rest) name ≡ o

meets : (view : View) (from at next : ℕ) (t : Token) (own name : List ℕ) (last : Token) (o : Option NodeData) → Finds view from t at next → t ≡ begin_node own → ends last ≡ true → AlikeLeft view from last name o → Met view at next own last name o
meets view from at next t own name last o f e l r = by_list (r.0) (r.1) (r.2) (r.3) where
  by_list : (qs : List Property) (nodes : Siblings) → Ahead view from (inside_tokens qs nodes last) → child_like nodes name ≡ o → Met view at next own last name o
  by_list (q ∷ qs) nodes a i = absurd (let bad : begin_node own ≡ property q.name q.value = sym e ∙ (f.ahead (property q.name q.value) (inside_tokens qs nodes last) a).0 in cc bad)
  by_list [] none a i = absurd (let bad : false ≡ true = ap ends (sym e ∙ (f.ahead last [] a).0) ∙ l in cc bad)
  by_list [] (more n ps children rest) a i =
      let p = f.ahead (begin_node n) ((property_tokens ps ++ (sibling_tokens children ++ end_node ∷ sibling_tokens rest)) ++ last ∷ []) a in
      let same : n ≡ own = (let both : begin_node own ≡ begin_node n = sym e ∙ p.0 in cc both) in
      record {
        ps = ps;
        children = children;
        rest = rest;
        stands = subst (λ (x : List ℕ). StandsAt view at (the_node x ps children)) same (first_stands view at n ps children rest (last ∷ []) (p.1));
        inside = behind_begin view next ps children rest (last ∷ []) (p.2);
        is = ap (λ (x : List ℕ). child_like (more x ps children rest) name) (sym same) ∙ i;
      }

pub alike_hit : (view : View) (from : ℕ) (place : NodeOffset) (next : ℕ) (t : Token) (own name : List ℕ) (last : Token) (o : Option NodeData) → Finds view from t place.at next → t ≡ begin_node own → is_like own name ≡ true → ends last ≡ true → AlikeLeft view from last name o → IsPlaceOf view (Some place) o
alike_hit view from place next t own name last o f e h l r =
    let m = meets view from place.at next t own name last o f e l r in
    let found : child_like (more own m.ps m.children m.rest) name ≡ Some (the_node own m.ps m.children) = rw h refl in
    (the_node own m.ps m.children, sym m.is ∙ found, m.stands)

-- what is inside the node that was met
pub record Passed (view : View) (next : ℕ) (last : Token) (name : List ℕ) (o : Option NodeData) : Type 0 where
  pub ps : List Property
  pub children : Siblings
  pub rest : Siblings
  pub inside : Ahead view next (property_tokens ps ++ (sibling_tokens children ++ end_node ∷ (sibling_tokens rest ++ last ∷ [])))
  pub is : child_like rest name ≡ o

pub alike_miss : (view : View) (from at next : ℕ) (t : Token) (own name : List ℕ) (last : Token) (o : Option NodeData) → Finds view from t at next → t ≡ begin_node own → is_like own name ≡ false → ends last ≡ true → AlikeLeft view from last name o → Passed view next last name o
alike_miss view from at next t own name last o f e h l r =
    let m = meets view from at next t own name last o f e l r in
    let missed : child_like (more own m.ps m.children m.rest) name ≡ child_like m.rest name = rw h refl in
    record { ps = m.ps; children = m.children; rest = m.rest; inside = m.inside; is = sym missed ∙ m.is }

pub alike_property : (view : View) (from at next : ℕ) (t : Token) (n v name : List ℕ) (last : Token) (o : Option NodeData) → Finds view from t at next → t ≡ property n v → ends last ≡ true → AlikeLeft view from last name o → AlikeLeft view next last name o
alike_property view from at next t n v name last o f e l r =
    let i = met_property view from at next t n v (r.0) (r.1) last f e l (r.2) in
    (i.0, r.1, i.1, r.3)

pub alike_end : (view : View) (from at next : ℕ) (t u : Token) (name : List ℕ) (last : Token) (o : Option NodeData) → Finds view from t at next → t ≡ u → ends u ≡ true → AlikeLeft view from last name o → o ≡ None
alike_end view from at next t u name last o f e l r =
    let empty = met_end view from at next t u (r.0) (r.1) last f e l (r.2) in
    sym (r.3) ∙ ap (λ (x : Siblings). child_like x name) empty

-- ---- down a path

-- the names that are left lead from the node at hand where all lead
abbrev pub LeadsAlike : View → ℕ → List (List ℕ) → Option NodeData → Type 0
LeadsAlike view at left all = (e : NodeData) × StandsAt view at e × (node_like e left ≡ all)

step : (all : List (List ℕ)) (i : ℕ) (k : List ℕ) (b : NodeData) → (i < length all) × (k ≡ get_or all i k) → node_like b (drop i all) ≡ option_and_then (λ c. node_like c (drop (i + 1) all)) (down_like b k)
step all i k b h = at_drop_more (node_like b) all i k h.0 ∙ ap (λ (x : List ℕ). option_and_then (λ c. node_like c (drop (i + 1) all)) (down_like b x)) (sym h.1)

pub leads_nowhere : (view : View) (at i : ℕ) (names : List (List ℕ)) (k : List ℕ) (all : Option NodeData) → (i < length names) × (k ≡ get_or names i k) → ((d : NodeData) → StandsAt view at d → down_like d k ≡ None) → LeadsAlike view at (drop i names) all → all ≡ None
leads_nowhere view at i names k all h c l =
    sym (l.2) ∙ (step names i k (l.0) h ∙ ap (λ (o : Option NodeData). option_and_then (λ x. node_like x (drop (i + 1) names)) o) (c (l.0) (l.1)))

pub leads_down : (view : View) (at i : ℕ) (names : List (List ℕ)) (k : List ℕ) (all : Option NodeData) (next : NodeOffset) → (i < length names) × (k ≡ get_or names i k) → ((d : NodeData) → StandsAt view at d → IsPlaceOf view (Some next) (down_like d k)) → LeadsAlike view at (drop i names) all
    → LeadsAlike view next.at (drop (i + 1) names) all
leads_down view at i names k all next h c l =
    let p = c (l.0) (l.1) in
    (p.0, p.2, sym (step names i k (l.0) h ∙ ap (λ (o : Option NodeData). option_and_then (λ x. node_like x (drop (i + 1) names)) o) (p.1)) ∙ l.2)

pub leads_over : (view : View) (node : NodeOffset) (names : List (List ℕ)) (i : ℕ) (all : Option NodeData) → length names ≤ i → LeadsAlike view node.at (drop i names) all → IsPlaceOf view (Some node) all
leads_over view node names i all h l = (l.0, sym (l.2) ∙ at_drop_all (node_like (l.0)) names i h, l.1)
