-- A child by its name, and a node by the names that lead to it.
use Rattle.std.proofs.Common.{◌≡◌, ℕ, ◌+◌, ◌<◌, true, false, List, [], ◌∷◌, ◌++◌, length, get_or, drop, Option, Some, None, refl, ap, sym, subst, ◌∙◌}
use Rattle.std.specs.Str.{bytes_eq}
use Rattle.dt_tree.specs.declared.property.Property.{Property}
use Rattle.dt_tree.specs.NodeData.{NodeData, Siblings, none, more}
use Rattle.dt_tree.specs.PathMap.{child_named, node_at}
use Rattle.dt_tree.proofs.Descent.{node_at-none, node_at-some}
use Rattle.dt_blob.specs.Token.{Token, begin_node, end_node, property, property_tokens, sibling_tokens}
use Rattle.dt_patch.specs.declared.view.nodes.NodeOffset.{NodeOffset}
use Rattle.dt_patch.specs.declared.view.view.View.{View}
use Rattle.dt_patch.specs.View.Places.{IsPlaceOf}
use Rattle.dt_patch.specs.View.Private.Reading.{Finds, inside_tokens}
use Rattle.dt_patch.specs.View.Standing.{Ahead, StandsAt, ends}
use Rattle.dt_patch.proofs.ViewLemmas.Descents.{the_node, first_stands, behind_begin, met_end, met_property}

-- among the nodes that are left the name has this one
abbrev pub NamedLeft : View → ℕ → Token → List ℕ → Option NodeData → Type 0
NamedLeft view at last name o = (qs : List Property) × (nodes : Siblings) × Ahead view at (inside_tokens qs nodes last) × (child_named nodes name ≡ o)

-- the node that was met, and those behind it
record Met (view : View) (at next : ℕ) (own : List ℕ) (last : Token) (name : List ℕ) (o : Option NodeData) : Type 0 where
  ps : List Property
  children : Siblings
  rest : Siblings
  stands : StandsAt view at (the_node own ps children)
  inside : Ahead view next (property_tokens ps ++ (sibling_tokens children ++ end_node ∷ (sibling_tokens rest ++ last ∷ [])))
  is : child_named (more own ps children rest) name ≡ o

meets : (view : View) (from at next : ℕ) (t : Token) (own name : List ℕ) (last : Token) (o : Option NodeData) → Finds view from t at next → t ≡ begin_node own → ends last ≡ true → NamedLeft view from last name o → Met view at next own last name o
meets view from at next t own name last o f e l r = by_list (r.0) (r.1) (r.2) (r.3) where
  by_list : (qs : List Property) (nodes : Siblings) → Ahead view from (inside_tokens qs nodes last) → child_named nodes name ≡ o → Met view at next own last name o
  by_list (q ∷ qs) nodes a i = absurd (let bad : begin_node own ≡ property q.name q.value = sym e ∙ (f.ahead (property q.name q.value) (inside_tokens qs nodes last) a).0 in cc bad)
  by_list [] none a i = absurd (let bad : false ≡ true = ap ends (sym e ∙ (f.ahead last [] a).0) ∙ l in cc bad)
  by_list [] (more n ps children rest) a i =
      let p = f.ahead (begin_node n) ((property_tokens ps ++ (sibling_tokens children ++ end_node ∷ sibling_tokens rest)) ++ last ∷ []) a in
      let same : n ≡ own = (let both : begin_node own ≡ begin_node n = sym e ∙ p.0 in cc both) in
      record {
        ps = ps;
        children = children;
        rest = rest;
        stands = subst (λ (x : List ℕ). StandsAt view at (the_node x ps children)) same (first_stands view at n ps children rest (last ∷ []) (p.1));
        inside = behind_begin view next ps children rest (last ∷ []) (p.2);
        is = ap (λ (x : List ℕ). child_named (more x ps children rest) name) (sym same) ∙ i;
      }

pub named_hit : (view : View) (from : ℕ) (place : NodeOffset) (next : ℕ) (t : Token) (own name : List ℕ) (last : Token) (o : Option NodeData) → Finds view from t place.at next → t ≡ begin_node own → bytes_eq own name ≡ true → ends last ≡ true → NamedLeft view from last name o → IsPlaceOf view (Some place) o
named_hit view from place next t own name last o f e h l r =
    let m = meets view from place.at next t own name last o f e l r in
    let found : child_named (more own m.ps m.children m.rest) name ≡ Some (the_node own m.ps m.children) = rw h refl in
    (the_node own m.ps m.children, sym m.is ∙ found, m.stands)

-- what is inside the node that was met
pub record Passed (view : View) (next : ℕ) (last : Token) (name : List ℕ) (o : Option NodeData) : Type 0 where
  pub ps : List Property
  pub children : Siblings
  pub rest : Siblings
  pub inside : Ahead view next (property_tokens ps ++ (sibling_tokens children ++ end_node ∷ (sibling_tokens rest ++ last ∷ [])))
  pub is : child_named rest name ≡ o

pub named_miss : (view : View) (from at next : ℕ) (t : Token) (own name : List ℕ) (last : Token) (o : Option NodeData) → Finds view from t at next → t ≡ begin_node own → bytes_eq own name ≡ false → ends last ≡ true → NamedLeft view from last name o → Passed view next last name o
named_miss view from at next t own name last o f e h l r =
    let m = meets view from at next t own name last o f e l r in
    let missed : child_named (more own m.ps m.children m.rest) name ≡ child_named m.rest name = rw h refl in
    record { ps = m.ps; children = m.children; rest = m.rest; inside = m.inside; is = sym missed ∙ m.is }

pub named_property : (view : View) (from at next : ℕ) (t : Token) (n v name : List ℕ) (last : Token) (o : Option NodeData) → Finds view from t at next → t ≡ property n v → ends last ≡ true → NamedLeft view from last name o → NamedLeft view next last name o
named_property view from at next t n v name last o f e l r =
    let i = met_property view from at next t n v (r.0) (r.1) last f e l (r.2) in
    (i.0, r.1, i.1, r.3)

pub named_end : (view : View) (from at next : ℕ) (t u : Token) (name : List ℕ) (last : Token) (o : Option NodeData) → Finds view from t at next → t ≡ u → ends u ≡ true → NamedLeft view from last name o → o ≡ None
named_end view from at next t u name last o f e l r =
    let empty = met_end view from at next t u (r.0) (r.1) last f e l (r.2) in
    sym (r.3) ∙ ap (λ (x : Siblings). child_named x name) empty

-- ---- down a path

-- the names that are left lead from the node at hand where all lead
abbrev pub Leads : View → ℕ → List (List ℕ) → Option NodeData → Type 0
Leads view at left all = (e : NodeData) × StandsAt view at e × (node_at e left ≡ all)

pub leads_none : (view : View) (at i : ℕ) (names : List (List ℕ)) (k : List ℕ) (all : Option NodeData) → (i < length names) × (k ≡ get_or names i k) → ((d : NodeData) → StandsAt view at d → child_named d.children k ≡ None) → Leads view at (drop i names) all → all ≡ None
leads_none view at i names k all h c l = sym (l.2) ∙ node_at-none names i k (l.0) h (c (l.0) (l.1))

pub leads_some : (view : View) (at i : ℕ) (names : List (List ℕ)) (k : List ℕ) (all : Option NodeData) (child : NodeOffset) → (i < length names) × (k ≡ get_or names i k) → ((d : NodeData) → StandsAt view at d → IsPlaceOf view (Some child) (child_named d.children k)) → Leads view at (drop i names) all
    → Leads view child.at (drop (i + 1) names) all
leads_some view at i names k all child h c l =
    let p = c (l.0) (l.1) in
    (p.0, p.2, sym (node_at-some names i k (l.0) (p.0) h (p.1)) ∙ l.2)
