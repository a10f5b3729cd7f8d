-- What is met inside a node.
use Rattle.std.proofs.Common.{◌≡◌, ℕ, zero, suc, ◌+◌, Bool, true, false, List, [], ◌∷◌, ◌++◌, drop, Option, Some, None, refl, ap, sym, subst, ◌∙◌, arith, append_assoc, add-one}
use Rattle.dt_tree.specs.declared.property.Property.{Property}
use Rattle.dt_tree.specs.NodeData.{NodeData, Siblings, none, more}
use Rattle.dt_blob.specs.Holds.{is_nop}
use Rattle.dt_blob.specs.Token.{Token, begin_node, end_node, property, nop, end, property_tokens, sibling_tokens, tokens_of}
use Rattle.dt_patch.specs.declared.view.view.View.{View}
use Rattle.dt_patch.specs.View.Ending.{closed}
use Rattle.dt_patch.specs.View.Private.Reading.{Finds, Opens, StandsNothing, inside_tokens}
use Rattle.dt_patch.specs.View.Reaching.{Reached}
use Rattle.dt_patch.specs.View.Standing.{Ahead, HasNoNode, StandFrom, StandsAt, ends}
use Rattle.dt_patch.proofs.ViewLemmas.Beginnings.{shorter}

-- ---- a node's beginning

pub opens : (view : View) (from : ℕ) (t : Token) (name : List ℕ) (at next : ℕ) → Finds view from t at next → t ≡ begin_node name → Opens view from name at next
opens view from t name at next f e = record {
  ahead = λ n us a.
      let p = f.ahead (begin_node n) us a in
      let same : begin_node name ≡ begin_node n = sym e ∙ p.0 in
      (cc same, p.1, p.2);
  reach = λ ts r.
      let p = f.reach ts r in
      (p.0, subst (λ (x : Token). Reached view next (ts ++ x ∷ [])) e (p.1));
  starts = record { token = t; next = next; spelled = f.spelled; further = f.further; inside = f.inside; some = ap is_nop e };
  further = (let begins = f.begins in let further = f.further in omega (arith, begins, further));
  stands = subst (λ (x : Token). Ahead view from (x ∷ [])) e (f.back [] (record { all = []; front = []; behind = drop next view.structure.now; after = []; is = refl; spells = refl; kept = refl }));
}

abbrev is_begin : Token → Bool
is_begin (begin_node name) = true
is_begin end_node = false
is_begin (property name value) = false
is_begin nop = false
is_begin end = false

-- another token is no node's beginning
pub no_node : (view : View) (from : ℕ) (t u : Token) (at next : ℕ) → Finds view from t at next → t ≡ u → is_begin u ≡ false → HasNoNode view from
no_node view from t u at next f e n name a = let bad : true ≡ false = ap is_begin (sym (f.ahead (begin_node name) [] a).0 ∙ e) ∙ n in cc bad

pub nothing_begins : (view : View) (from : ℕ) → StandsNothing view from → HasNoNode view from
nothing_begins view from n name a = n (begin_node name) [] a

-- ---- behind properties

pub met_node : (view : View) (from at next : ℕ) (t : Token) (name : List ℕ) (qs : List Property) (nodes : Siblings) (last : Token) → Finds view from t at next → t ≡ begin_node name → ends last ≡ true → Ahead view from (inside_tokens qs nodes last) → StandFrom view at nodes
met_node view from at next t name [] none last f e l a =
    let p = f.ahead last [] a in
    absurd (let bad : false ≡ true = ap ends (sym e ∙ p.0) ∙ l in cc)
met_node view from at next t name [] (more n ps children rest) last f e l a =
    (last, l, (f.ahead (begin_node n) ((property_tokens ps ++ (sibling_tokens children ++ end_node ∷ sibling_tokens rest)) ++ last ∷ []) a).1)
met_node view from at next t name (q ∷ qs) nodes last f e l a =
    let p = f.ahead (property q.name q.value) (inside_tokens qs nodes last) a in
    absurd (let bad : begin_node name ≡ property q.name q.value = sym e ∙ p.0 in cc)

pub met_end : (view : View) (from at next : ℕ) (t u : Token) (qs : List Property) (nodes : Siblings) (last : Token) → Finds view from t at next → t ≡ u → ends u ≡ true → Ahead view from (inside_tokens qs nodes last) → nodes ≡ none
met_end view from at next t u [] none last f e l a = refl
met_end view from at next t u [] (more n ps children rest) last f e l a =
    let p = f.ahead (begin_node n) ((property_tokens ps ++ (sibling_tokens children ++ end_node ∷ sibling_tokens rest)) ++ last ∷ []) a in
    absurd (let bad : true ≡ false = sym l ∙ ap ends (sym e ∙ p.0) in cc)
met_end view from at next t u (q ∷ qs) nodes last f e l a =
    let p = f.ahead (property q.name q.value) (inside_tokens qs nodes last) a in
    absurd (let bad : true ≡ false = sym l ∙ ap ends (sym e ∙ p.0) in cc)

-- what is inside a node, from one token to the next
abbrev pub Inside : View → ℕ → Siblings → Token → Type 0
Inside view at nodes last = (qs : List Property) × Ahead view at (inside_tokens qs nodes last)

pub met_property : (view : View) (from at next : ℕ) (t : Token) (name value : List ℕ) (qs : List Property) (nodes : Siblings) (last : Token) → Finds view from t at next → t ≡ property name value → ends last ≡ true → Ahead view from (inside_tokens qs nodes last) → Inside view next nodes last
met_property view from at next t name value [] none last f e l a =
    let p = f.ahead last [] a in
    absurd (let bad : false ≡ true = ap ends (sym e ∙ p.0) ∙ l in cc)
met_property view from at next t name value [] (more n ps children rest) last f e l a =
    let p = f.ahead (begin_node n) ((property_tokens ps ++ (sibling_tokens children ++ end_node ∷ sibling_tokens rest)) ++ last ∷ []) a in
    absurd (let bad : property name value ≡ begin_node n = sym e ∙ p.0 in cc)
met_property view from at next t name value (q ∷ qs) nodes last f e l a =
    (qs, (f.ahead (property q.name q.value) (inside_tokens qs nodes last) a).2)

pub met_nothing : (view : View) (from : ℕ) (qs : List Property) (nodes : Siblings) (last : Token) → StandsNothing view from → Ahead view from (inside_tokens qs nodes last) → ⊥
met_nothing view from [] none last n a = n last [] a
met_nothing view from [] (more name ps children rest) last n a = n (begin_node name) ((property_tokens ps ++ (sibling_tokens children ++ end_node ∷ sibling_tokens rest)) ++ last ∷ []) a
met_nothing view from (q ∷ qs) nodes last n a = n (property q.name q.value) (inside_tokens qs nodes last) a

pub met_nop_inside : (view : View) (from at next : ℕ) (t : Token) (qs : List Property) (nodes : Siblings) (last : Token) → Finds view from t at next → t ≡ nop → ends last ≡ true → Ahead view from (inside_tokens qs nodes last) → ⊥
met_nop_inside view from at next t [] none last f e l a =
    let p = f.ahead last [] a in
    let bad : false ≡ true = ap ends (sym e ∙ p.0) ∙ l in cc bad
met_nop_inside view from at next t [] (more n ps children rest) last f e l a =
    let p = f.ahead (begin_node n) ((property_tokens ps ++ (sibling_tokens children ++ end_node ∷ sibling_tokens rest)) ++ last ∷ []) a in
    let bad : nop ≡ begin_node n = sym e ∙ p.0 in cc bad
met_nop_inside view from at next t (q ∷ qs) nodes last f e l a =
    let p = f.ahead (property q.name q.value) (inside_tokens qs nodes last) a in
    let bad : nop ≡ property q.name q.value = sym e ∙ p.0 in cc bad

-- ---- the end of a node

closed_properties : (d : ℕ) (ps : List Property) (ts : List Token) → closed d (property_tokens ps ++ ts) ≡ closed d ts
closed_properties d [] ts = refl
closed_properties zero (p ∷ ps) ts = closed_properties zero ps ts
closed_properties (suc d) (p ∷ ps) ts = closed_properties (suc d) ps ts

-- a node's tokens before others
pub regrouped : (ps : List Property) (children rest : Siblings) (ts : List Token)
    → (property_tokens ps ++ (sibling_tokens children ++ end_node ∷ sibling_tokens rest)) ++ ts ≡ property_tokens ps ++ (sibling_tokens children ++ end_node ∷ (sibling_tokens rest ++ ts))
regrouped ps children rest ts =
    append_assoc (property_tokens ps) (sibling_tokens children ++ end_node ∷ sibling_tokens rest) ts
    ∙ ap (λ (x : List Token). property_tokens ps ++ x) (append_assoc (sibling_tokens children) (end_node ∷ sibling_tokens rest) ts)

closed_siblings : (f : Siblings) (d : ℕ) (ts : List Token) → closed d (sibling_tokens f ++ ts) ≡ closed d ts
closed_siblings none d ts = refl
closed_siblings (more name ps children rest) zero ts =
    ap (closed 1) (regrouped ps children rest ts)
    ∙ closed_properties 1 ps (sibling_tokens children ++ end_node ∷ (sibling_tokens rest ++ ts))
    ∙ closed_siblings children 1 (end_node ∷ (sibling_tokens rest ++ ts))
    ∙ closed_siblings rest zero ts
closed_siblings (more name ps children rest) (suc d) ts =
    ap (closed (suc (suc d))) (regrouped ps children rest ts)
    ∙ closed_properties (suc (suc d)) ps (sibling_tokens children ++ end_node ∷ (sibling_tokens rest ++ ts))
    ∙ closed_siblings children (suc (suc d)) (end_node ∷ (sibling_tokens rest ++ ts))
    ∙ closed_siblings rest (suc d) ts

pub closed_inside : (ps : List Property) (nodes : Siblings) (ts : List Token) → closed 0 (property_tokens ps ++ (sibling_tokens nodes ++ end_node ∷ ts)) ≡ Some ts
closed_inside ps nodes ts = closed_properties 0 ps (sibling_tokens nodes ++ end_node ∷ ts) ∙ closed_siblings nodes 0 (end_node ∷ ts)

-- the tokens that are left lead to the end behind which others stand
abbrev pub Closing : View → ℕ → ℕ → List Token → Type 0
Closing view at levels ts = (us : List Token) × Ahead view at us × (closed levels us ≡ Some ts)

step_by : (view : View) (from at next levels : ℕ) (t : Token) (us ts : List Token) → Finds view from t at next → Ahead view from us → closed levels us ≡ Some ts → (vs : List Token) × (us ≡ t ∷ vs) × Ahead view next vs
step_by view from at next levels t [] ts f a c = absurd (cc c)
step_by view from at next levels t (u ∷ us) ts f a c = let p = f.ahead u us a in (us, ap (λ (x : Token). x ∷ us) (sym p.0), p.2)

-- the tokens that are left, once one was found
pub stepped : (view : View) (from at next levels : ℕ) (t u : Token) (ts : List Token) → Finds view from t at next → t ≡ u → Closing view from levels ts → (vs : List Token) × Ahead view next vs × (closed levels (u ∷ vs) ≡ Some ts)
stepped view from at next levels t u ts f e c =
    let s = step_by view from at next levels t (c.0) ts f (c.1) (c.2) in
    (s.0, s.2, ap (closed levels) (ap (λ (x : Token). x ∷ s.0) (sym e) ∙ sym (s.1)) ∙ c.2)

pub closing_nothing : (view : View) (from levels : ℕ) (ts : List Token) → StandsNothing view from → Closing view from levels ts → ⊥
closing_nothing view from levels ts n c = by_list (c.0) (c.1) (c.2) where
  by_list : (us : List Token) → Ahead view from us → closed levels us ≡ Some ts → ⊥
  by_list [] a e = cc e
  by_list (u ∷ us) a e = n u us a

pub closing_begin : (view : View) (from at next levels : ℕ) (t : Token) (name : List ℕ) (ts : List Token) → Finds view from t at next → t ≡ begin_node name → Closing view from levels ts → Closing view next (levels + 1) ts
closing_begin view from at next levels t name ts f e c = let s = stepped view from at next levels t (begin_node name) ts f e c in (s.0, s.1, rw add-one (s.2))

pub closing_property : (view : View) (from at next levels : ℕ) (t : Token) (name value : List ℕ) (ts : List Token) → Finds view from t at next → t ≡ property name value → Closing view from levels ts → Closing view next levels ts
closing_property view from at next zero t name value ts f e c = let s = stepped view from at next zero t (property name value) ts f e c in (s.0, s.1, s.2)
closing_property view from at next (suc levels) t name value ts f e c = let s = stepped view from at next (suc levels) t (property name value) ts f e c in (s.0, s.1, s.2)

some_same : {A : Type 0} (x y : A) → Some x ≡ Some y → x ≡ y
some_same x y e = cc

pub closing_last : (view : View) (from at next levels : ℕ) (t : Token) (ts : List Token) → Finds view from t at next → t ≡ end_node → levels ≡ 0 → Closing view from levels ts → Ahead view next ts
closing_last view from at next zero t ts f e z c = let s = stepped view from at next zero t end_node ts f e c in subst (λ (x : List Token). Ahead view next x) (some_same (s.0) ts (s.2)) (s.1)
closing_last view from at next (suc levels) t ts f e z c = absurd (omega arith)

pub closing_end : (view : View) (from at next levels : ℕ) (t : Token) (ts : List Token) → Finds view from t at next → t ≡ end_node → (levels ≡ 0 → ⊥) → Closing view from levels ts → (d : ℕ) → d + 1 ≡ levels → Closing view next d ts
closing_end view from at next zero t ts f e n c d h = absurd (n refl)
closing_end view from at next (suc levels) t ts f e n c d h =
    let s = stepped view from at next (suc levels) t end_node ts f e c in
    let same : levels ≡ d = omega arith in
    (s.0, s.1, ap (λ (x : ℕ). closed x (s.0)) (sym same) ∙ s.2)

pub closing_no : (view : View) (from at next levels : ℕ) (t u : Token) (ts : List Token) → Finds view from t at next → t ≡ u → ((vs : List Token) → closed levels (u ∷ vs) ≡ Some ts → ⊥) → Closing view from levels ts → ⊥
closing_no view from at next levels t u ts f e n c = let s = stepped view from at next levels t u ts f e c in n (s.0) (s.2)

pub closed_end : (levels : ℕ) (vs ts : List Token) → closed levels (end ∷ vs) ≡ Some ts → ⊥
closed_end zero vs ts e = cc e
closed_end (suc levels) vs ts e = cc e

pub closed_nop : (levels : ℕ) (vs ts : List Token) → closed levels (nop ∷ vs) ≡ Some ts → ⊥
closed_nop zero vs ts e = cc e
closed_nop (suc levels) vs ts e = cc e

-- ---- from node to node

-- what stands behind a node's beginning
pub behind_begin : (view : View) (at : ℕ) (ps : List Property) (children rest : Siblings) (ts : List Token)
    → Ahead view at ((property_tokens ps ++ (sibling_tokens children ++ end_node ∷ sibling_tokens rest)) ++ ts) → Ahead view at (property_tokens ps ++ (sibling_tokens children ++ end_node ∷ (sibling_tokens rest ++ ts)))
behind_begin view at ps children rest ts a = subst (λ (x : List Token). Ahead view at x) (regrouped ps children rest ts) a

abbrev pub the_node : List ℕ → List Property → Siblings → NodeData
the_node name ps children = record { name = name; properties = ps; children = children }

-- the first of nodes side by side stands where they do
pub first_stands : (view : View) (at : ℕ) (name : List ℕ) (ps : List Property) (children rest : Siblings) (ts : List Token) → Ahead view at (sibling_tokens (more name ps children rest) ++ ts) → StandsAt view at (the_node name ps children)
first_stands view at name ps children rest ts a =
    let same : sibling_tokens (more name ps children rest) ++ ts ≡ tokens_of (the_node name ps children) ++ (sibling_tokens rest ++ ts) =
    ap (λ (x : List Token). begin_node name ∷ x) (regrouped ps children rest ts ∙ sym (regrouped ps children none (sibling_tokens rest ++ ts))) in
    shorter view.strings.now (drop at view.structure.now) (tokens_of (the_node name ps children)) (sibling_tokens rest ++ ts) (subst (λ (x : List Token). Ahead view at x) same a)

pub sibling_stands : (view : View) (at : ℕ) (name : List ℕ) (ps : List Property) (children rest : Siblings) → StandFrom view at (more name ps children rest) → StandsAt view at (the_node name ps children)
sibling_stands view at name ps children rest s = first_stands view at name ps children rest (s.0 ∷ []) (s.2)
