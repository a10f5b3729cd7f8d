-- What stands before the places that walks come to.
use Rattle.std.proofs.Common.{◌≡◌, ℕ, zero, suc, ◌+◌, ◌<◌, ◌≤◌, Bool, true, false, List, [], ◌∷◌, ◌++◌, length, get_or, drop, Option, Some, refl, ap, sym, subst, ◌∙◌, arith, append_assoc, add-one}
use Rattle.std.specs.Prelude.{Result}
use Rattle.std.proofs.lemmas.List.{append-nil, append_cancel_right, at_drop_more, at_drop_all}
use Rattle.std.specs.Option.{option_map_or}
use Rattle.std.specs.Str.{bytes_eq}
use Rattle.dt_tree.specs.declared.property.Property.{Property}
use Rattle.dt_tree.specs.NodeData.{NodeData, Siblings, none, more}
use Rattle.dt_tree.specs.PathMap.{child_named}
use Rattle.dt_blob.specs.Token.{Token, begin_node, end_node, property, property_tokens, sibling_tokens, tokens_of}
use Rattle.dt_patch.specs.declared.view.error.ViewError.{ViewError}
use Rattle.dt_patch.specs.declared.view.nodes.NodeOffset.{NodeOffset}
use Rattle.dt_patch.specs.declared.view.view.View.{View}
use Rattle.dt_patch.specs.declared.view.properties.PlacedProperty.{PlacedProperty}
use Rattle.dt_patch.specs.View.Places.{IsPlaceOf}
use Rattle.dt_patch.specs.View.Placing.{TellsPlaced}
use Rattle.dt_patch.specs.View.Ending.{closed}
use Rattle.dt_patch.specs.View.Private.Reading.{Finds, inside_tokens}
use Rattle.dt_patch.specs.View.Reaching.{IsSpelled, Reached, TellsReached, before_child, before_node, before_property}
use Rattle.dt_patch.specs.View.Standing.{Ahead, StandsAt, ends, ends_properties}
use Rattle.dt_patch.proofs.ViewLemmas.Descents.{behind_begin, closed_inside, the_node}

-- ---- to the end of a node

-- what was passed and what is left make the tokens that lead to the node's end, and those behind it
pub record Passing (view : View) (at levels : ℕ) (ts goal : List Token) : Type 0 where
  pub left : List Token
  pub ahead : Ahead view at left
  pub closes : closed levels left ≡ Some ts
  pub before : List Token
  pub reached : Reached view at before
  pub is : before ++ left ≡ goal ++ ts

pub passing : (view : View) (at : ℕ) (ps : List Property) (nodes : Siblings) (ts before : List Token) → Ahead view at (property_tokens ps ++ (sibling_tokens nodes ++ end_node ∷ ts)) → Reached view at before
    → Passing view at 0 ts (before ++ (property_tokens ps ++ (sibling_tokens nodes ++ end_node ∷ [])))
passing view at ps nodes ts before a r = record {
  left = property_tokens ps ++ (sibling_tokens nodes ++ end_node ∷ ts);
  ahead = a;
  closes = closed_inside ps nodes ts;
  before = before;
  reached = r;
  is =
      sym (append_assoc before (property_tokens ps ++ (sibling_tokens nodes ++ end_node ∷ [])) ts
      ∙ ap (λ (x : List Token). before ++ x) (append_assoc (property_tokens ps) (sibling_tokens nodes ++ end_node ∷ []) ts ∙ ap (λ (x : List Token). property_tokens ps ++ x) (append_assoc (sibling_tokens nodes) (end_node ∷ []) ts)));
}

-- one token further
pass : (view : View) (from at next levels later : ℕ) (t u : Token) (ts goal : List Token) → Finds view from t at next → t ≡ u → ((vs : List Token) → closed levels (u ∷ vs) ≡ Some ts → closed later vs ≡ Some ts) → Passing view from levels ts goal → Passing view next later ts goal
pass view from at next levels later t u ts goal f e step p = by_list p.left p.ahead p.closes p.is where
  by_list : (us : List Token) → Ahead view from us → closed levels us ≡ Some ts → p.before ++ us ≡ goal ++ ts → Passing view next later ts goal
  by_list [] a c i = absurd (cc c)
  by_list (v ∷ vs) a c i =
      let q = f.ahead v vs a in
      let same : v ≡ u = sym (q.0) ∙ e in
      record {
        left = vs;
        ahead = q.2;
        closes = step vs (ap (λ (x : Token). closed levels (x ∷ vs)) (sym same) ∙ c);
        before = p.before ++ t ∷ [];
        reached = (f.reach p.before p.reached).1;
        is = append_assoc p.before (t ∷ []) vs ∙ ap (λ (x : Token). p.before ++ x ∷ vs) (q.0) ∙ i;
      }

pub pass_begin : (view : View) (from at next levels : ℕ) (t : Token) (name : List ℕ) (ts goal : List Token) → Finds view from t at next → t ≡ begin_node name → Passing view from levels ts goal → Passing view next (levels + 1) ts goal
pass_begin view from at next levels t name ts goal f e p = pass view from at next levels (levels + 1) t (begin_node name) ts goal f e (λ vs c. rw add-one c) p

pub pass_property : (view : View) (from at next levels : ℕ) (t : Token) (name value : List ℕ) (ts goal : List Token) → Finds view from t at next → t ≡ property name value → Passing view from levels ts goal → Passing view next levels ts goal
pass_property view from at next zero t name value ts goal f e p = pass view from at next zero zero t (property name value) ts goal f e (λ vs c. c) p
pass_property view from at next (suc levels) t name value ts goal f e p = pass view from at next (suc levels) (suc levels) t (property name value) ts goal f e (λ vs c. c) p

pub pass_end : (view : View) (from at next levels : ℕ) (t : Token) (ts goal : List Token) → Finds view from t at next → t ≡ end_node → (levels ≡ 0 → ⊥) → Passing view from levels ts goal → (d : ℕ) → d + 1 ≡ levels → Passing view next d ts goal
pass_end view from at next zero t ts goal f e n p d h = absurd (n refl)
pass_end view from at next (suc levels) t ts goal f e n p d h =
    let same : levels ≡ d = omega arith in
    pass view from at next (suc levels) d t end_node ts goal f e (λ vs c. ap (λ (x : ℕ). closed x vs) (sym same) ∙ c) p

some_same : {A : Type 0} (x y : A) → Some x ≡ Some y → x ≡ y
some_same x y e = cc

last_by : (view : View) (from at next : ℕ) (t : Token) (ts goal before : List Token) → Finds view from t at next → t ≡ end_node → Reached view from before → (us : List Token) → Ahead view from us → closed 0 us ≡ Some ts → before ++ us ≡ goal ++ ts → Reached view next goal
last_by view from at next t ts goal before f e r [] a c i = absurd (cc c)
last_by view from at next t ts goal before f e r (v ∷ vs) a c i =
    let q = f.ahead v vs a in
    let same : v ≡ end_node = sym (q.0) ∙ e in
    let over : closed 0 (end_node ∷ vs) ≡ Some ts = ap (λ (x : Token). closed 0 (x ∷ vs)) (sym same) ∙ c in
    let behind : vs ≡ ts = some_same vs ts over in
    let all : (before ++ t ∷ []) ++ ts ≡ goal ++ ts =
    append_assoc before (t ∷ []) ts ∙ ap (λ (x : List Token). before ++ t ∷ x) (sym behind) ∙ ap (λ (x : Token). before ++ x ∷ vs) (q.0) ∙ i in
    subst (λ (x : List Token). Reached view next x) (append_cancel_right (before ++ t ∷ []) goal ts all) (f.reach before r).1

pub pass_last : (view : View) (from at next levels : ℕ) (t : Token) (ts goal : List Token) → Finds view from t at next → t ≡ end_node → levels ≡ 0 → Passing view from levels ts goal → Reached view next goal
pass_last view from at next zero t ts goal f e z p = last_by view from at next t ts goal p.before f e p.reached p.left p.ahead p.closes p.is
pass_last view from at next (suc levels) t ts goal f e z p = absurd (omega arith)

-- ---- to a child

pub record Toward (view : View) (at : ℕ) (last : Token) (name : List ℕ) (goal : List Token) : Type 0 where
  pub properties : List Property
  pub nodes : Siblings
  pub ahead : Ahead view at (inside_tokens properties nodes last)
  pub before : List Token
  pub reached : Reached view at before
  pub is : before ++ (property_tokens properties ++ before_child nodes name) ≡ goal

pub toward_property : (view : View) (from at next : ℕ) (t : Token) (n v name : List ℕ) (last : Token) (goal : List Token) → Finds view from t at next → t ≡ property n v → ends last ≡ true → Toward view from last name goal → Toward view next last name goal
toward_property view from at next t n v name last goal f e l w = by_list w.properties w.nodes w.ahead w.is where
  by_list : (qs : List Property) (nodes : Siblings) → Ahead view from (inside_tokens qs nodes last) → w.before ++ (property_tokens qs ++ before_child nodes name) ≡ goal → Toward view next last name goal
  by_list [] none a i = absurd (let bad : false ≡ true = ap ends (sym e ∙ (f.ahead last [] a).0) ∙ l in cc bad)
  by_list [] (more m ps children rest) a i =
      let p = f.ahead (begin_node m) ((property_tokens ps ++ (sibling_tokens children ++ end_node ∷ sibling_tokens rest)) ++ last ∷ []) a in
      absurd (let bad : property n v ≡ begin_node m = sym e ∙ p.0 in cc bad)
  by_list (q ∷ qs) nodes a i =
      let p = f.ahead (property q.name q.value) (inside_tokens qs nodes last) a in
      record {
        properties = qs;
        nodes = nodes;
        ahead = p.2;
        before = w.before ++ t ∷ [];
        reached = (f.reach w.before w.reached).1;
        is = append_assoc w.before (t ∷ []) (property_tokens qs ++ before_child nodes name) ∙ ap (λ (x : Token). w.before ++ x ∷ (property_tokens qs ++ before_child nodes name)) (p.0) ∙ i;
      }

-- the node that was met
record MetToward (view : View) (at next : ℕ) (own : List ℕ) (last : Token) (name : List ℕ) (goal : List Token) : Type 0 where
  ps : List Property
  children : Siblings
  rest : Siblings
  inside : Ahead view next (property_tokens ps ++ (sibling_tokens children ++ end_node ∷ (sibling_tokens rest ++ last ∷ [])))
  before : List Token
  there : Reached view at before
  behind : Reached view next (before ++ begin_node own ∷ [])
  is : before ++ before_child (more own ps children rest) name ≡ goal

meets : (view : View) (from at next : ℕ) (t : Token) (own name : List ℕ) (last : Token) (goal : List Token) → Finds view from t at next → t ≡ begin_node own → ends last ≡ true → Toward view from last name goal → MetToward view at next own last name goal
meets view from at next t own name last goal f e l w = by_list w.properties w.nodes w.ahead w.is where
  by_list : (qs : List Property) (nodes : Siblings) → Ahead view from (inside_tokens qs nodes last) → w.before ++ (property_tokens qs ++ before_child nodes name) ≡ goal → MetToward view at next own last name goal
  by_list (q ∷ qs) nodes a i = absurd (let bad : begin_node own ≡ property q.name q.value = sym e ∙ (f.ahead (property q.name q.value) (inside_tokens qs nodes last) a).0 in cc bad)
  by_list [] none a i = absurd (let bad : false ≡ true = ap ends (sym e ∙ (f.ahead last [] a).0) ∙ l in cc bad)
  by_list [] (more n ps children rest) a i =
      let p = f.ahead (begin_node n) ((property_tokens ps ++ (sibling_tokens children ++ end_node ∷ sibling_tokens rest)) ++ last ∷ []) a in
      let same : n ≡ own = (let both : begin_node own ≡ begin_node n = sym e ∙ p.0 in cc both) in
      let r = f.reach w.before w.reached in
      record {
        ps = ps;
        children = children;
        rest = rest;
        inside = behind_begin view next ps children rest (last ∷ []) (p.2);
        before = w.before;
        there = r.0;
        behind = subst (λ (x : Token). Reached view next (w.before ++ x ∷ [])) e (r.1);
        is = ap (λ (x : List ℕ). w.before ++ before_child (more x ps children rest) name) (sym same) ∙ i;
      }

pub toward_hit : (view : View) (from at next : ℕ) (t : Token) (own name : List ℕ) (last : Token) (goal : List Token) → Finds view from t at next → t ≡ begin_node own → bytes_eq own name ≡ true → ends last ≡ true → Toward view from last name goal → Reached view at goal
toward_hit view from at next t own name last goal f e h l w =
    let m = meets view from at next t own name last goal f e l w in
    let found : before_child (more own m.ps m.children m.rest) name ≡ [] = rw h refl in
    subst (λ (x : List Token). Reached view at x) (sym (append-nil m.before) ∙ ap (λ (x : List Token). m.before ++ x) (sym found) ∙ m.is) m.there

pub record PassedBy (view : View) (next : ℕ) (last : Token) (name : List ℕ) (goal : List Token) : Type 0 where
  pub ps : List Property
  pub children : Siblings
  pub rest : Siblings
  pub inside : Ahead view next (property_tokens ps ++ (sibling_tokens children ++ end_node ∷ (sibling_tokens rest ++ last ∷ [])))
  pub before : List Token
  pub reached : Reached view next before
  pub is : (before ++ (property_tokens ps ++ (sibling_tokens children ++ end_node ∷ []))) ++ before_child rest name ≡ goal

pub toward_miss : (view : View) (from at next : ℕ) (t : Token) (own name : List ℕ) (last : Token) (goal : List Token) → Finds view from t at next → t ≡ begin_node own → bytes_eq own name ≡ false → ends last ≡ true → Toward view from last name goal → PassedBy view next last name goal
toward_miss view from at next t own name last goal f e h l w =
    let m = meets view from at next t own name last goal f e l w in
    let inner : List Token = property_tokens m.ps ++ (sibling_tokens m.children ++ end_node ∷ []) in
    let missed : before_child (more own m.ps m.children m.rest) name ≡ tokens_of (the_node own m.ps m.children) ++ before_child m.rest name = rw h refl in
    let same : (m.before ++ begin_node own ∷ []) ++ inner ≡ m.before ++ begin_node own ∷ inner = append_assoc m.before (begin_node own ∷ []) inner in
    record {
      ps = m.ps;
      children = m.children;
      rest = m.rest;
      inside = m.inside;
      before = m.before ++ begin_node own ∷ [];
      reached = m.behind;
      is =
          ap (λ (x : List Token). x ++ before_child m.rest name) same
          ∙ append_assoc m.before (begin_node own ∷ inner) (before_child m.rest name)
          ∙ ap (λ (x : List Token). m.before ++ x) (sym missed) ∙ m.is;
    }

-- ---- down a path

pub record Leading (view : View) (at : ℕ) (left : List (List ℕ)) (goal : List Token) : Type 0 where
  pub node : NodeData
  pub stands : StandsAt view at node
  pub before : List Token
  pub reached : Reached view at before
  pub is : before ++ before_node node left ≡ goal

pub leading_end : (view : View) (at : ℕ) (all : List (List ℕ)) (i : ℕ) (goal : List Token) → length all ≤ i → Leading view at (drop i all) goal → Reached view at goal
leading_end view at all i goal h l =
    let same : l.before ++ [] ≡ goal = ap (λ (x : List Token). l.before ++ x) (sym (at_drop_all (before_node l.node) all i h)) ∙ l.is in
    subst (λ (x : List Token). Reached view at x) (sym (append-nil l.before) ∙ same) l.reached

leading_step : (view : View) (at child : ℕ) (k : List ℕ) (left later : List (List ℕ)) (goal : List Token) → left ≡ k ∷ later → (l : Leading view at left goal) → (c : NodeData) → child_named l.node.children k ≡ Some c → StandsAt view child c
    → Reached view child (l.before ++ begin_node l.node.name ∷ (property_tokens l.node.properties ++ before_child l.node.children k)) → Leading view child later goal
leading_step view at child k left later goal e l c f s r =
    let found : option_map_or (λ x. before_node x later) (child_named l.node.children k) [] ≡ before_node c later = ap (λ (o : Option NodeData). option_map_or (λ x. before_node x later) o []) f in
    let props : List Token = property_tokens l.node.properties in
    let others : List Token = before_child l.node.children k in
    let whole : before_node l.node (k ∷ later) ≡ begin_node l.node.name ∷ ((props ++ others) ++ before_node c later) =
    ap (λ (x : List Token). begin_node l.node.name ∷ (props ++ (others ++ x))) found ∙ ap (λ (x : List Token). begin_node l.node.name ∷ x) (sym (append_assoc props others (before_node c later))) in
    record {
      node = c;
      stands = s;
      before = l.before ++ begin_node l.node.name ∷ (props ++ others);
      reached = r;
      is =
          append_assoc l.before (begin_node l.node.name ∷ (props ++ others)) (before_node c later)
          ∙ ap (λ (x : List Token). l.before ++ x) (sym whole)
          ∙ ap (λ (x : List (List ℕ)). l.before ++ before_node l.node x) (sym e) ∙ l.is;
    }

pub leading_some : (view : View) (at i : ℕ) (names : List (List ℕ)) (k : List ℕ) (child : NodeOffset) (goal : List Token) → (i < length names) × (k ≡ get_or names i k) → ((d : NodeData) → StandsAt view at d → IsPlaceOf view (Some child) (child_named d.children k))
    → ((d : NodeData) (before : List Token) → StandsAt view at d → Reached view at before → Reached view child.at (before ++ begin_node d.name ∷ (property_tokens d.properties ++ before_child d.children k)))
    → Leading view at (drop i names) goal → Leading view child.at (drop (i + 1) names) goal
leading_some view at i names k child goal h c r l =
    let p = c l.node l.stands in
    let first : drop i names ≡ k ∷ drop (i + 1) names = at_drop_more (λ (x : List (List ℕ)). x) names i k h.0 ∙ ap (λ (x : List ℕ). x ∷ drop (i + 1) names) (sym h.1) in
    leading_step view at child.at k (drop i names) (drop (i + 1) names) goal first l (p.0) (p.1) (p.2) (r l.node l.before l.stands l.reached)

-- ---- to a property

pub record Placing (view : View) (at : ℕ) (last : Token) (name : List ℕ) (goal : List Token) : Type 0 where
  pub properties : List Property
  pub ahead : Ahead view at (property_tokens properties ++ last ∷ [])
  pub before : List Token
  pub reached : Reached view at before
  pub is : before ++ before_property properties name ≡ goal

same_name : (n v m w : List ℕ) → property n v ≡ property m w → m ≡ n
same_name n v m w e = cc

first_test : (p : Property) (n v name : List ℕ) (b : Bool) → property n v ≡ property p.name p.value → bytes_eq n name ≡ b → bytes_eq p.name name ≡ b
first_test p n v name b e h = ap (λ (x : List ℕ). bytes_eq x name) (same_name n v p.name p.value e) ∙ h

pub placing_hit : (view : View) (from at next : ℕ) (t : Token) (n v name : List ℕ) (last : Token) (goal : List Token) → Finds view from t at next → t ≡ property n v → bytes_eq n name ≡ true → ends_properties last ≡ true → Placing view from last name goal → Reached view at goal
placing_hit view from at next t n v name last goal f e h l w = by_list w.properties w.ahead w.is where
  by_list : (qs : List Property) → Ahead view from (property_tokens qs ++ last ∷ []) → w.before ++ before_property qs name ≡ goal → Reached view at goal
  by_list [] a i = absurd (let bad : false ≡ true = ap ends_properties (sym e ∙ (f.ahead last [] a).0) ∙ l in cc bad)
  by_list (p ∷ ps) a i =
      let q = f.ahead (property p.name p.value) (property_tokens ps ++ last ∷ []) a in
      let test : bytes_eq p.name name ≡ true = first_test p n v name true (sym e ∙ q.0) h in
      let found : before_property (p ∷ ps) name ≡ [] = rw test refl in
      subst (λ (x : List Token). Reached view at x) (sym (append-nil w.before) ∙ ap (λ (x : List Token). w.before ++ x) (sym found) ∙ i) (f.reach w.before w.reached).0

pub placing_miss : (view : View) (from at next : ℕ) (t : Token) (n v name : List ℕ) (last : Token) (goal : List Token) → Finds view from t at next → t ≡ property n v → bytes_eq n name ≡ false → ends_properties last ≡ true → Placing view from last name goal → Placing view next last name goal
placing_miss view from at next t n v name last goal f e h l w = by_list w.properties w.ahead w.is where
  by_list : (qs : List Property) → Ahead view from (property_tokens qs ++ last ∷ []) → w.before ++ before_property qs name ≡ goal → Placing view next last name goal
  by_list [] a i = absurd (let bad : false ≡ true = ap ends_properties (sym e ∙ (f.ahead last [] a).0) ∙ l in cc bad)
  by_list (p ∷ ps) a i =
      let q = f.ahead (property p.name p.value) (property_tokens ps ++ last ∷ []) a in
      let test : bytes_eq p.name name ≡ false = first_test p n v name false (sym e ∙ q.0) h in
      let missed : before_property (p ∷ ps) name ≡ property p.name p.value ∷ before_property ps name = rw test refl in
      record {
        properties = ps;
        ahead = q.2;
        before = w.before ++ t ∷ [];
        reached = (f.reach w.before w.reached).1;
        is = append_assoc w.before (t ∷ []) (before_property ps name) ∙ ap (λ (x : Token). w.before ++ x ∷ before_property ps name) (q.0) ∙ ap (λ (x : List Token). w.before ++ x) (sym missed) ∙ i;
      }

pub is_placed : (view : View) (from at next : ℕ) (t : Token) (n v name : List ℕ) → Finds view from t at next → t ≡ property n v → n ≡ name → IsSpelled view at (property name v) next × (at < next) × (next ≤ length view.structure.now)
is_placed view from at next t n v name f e s = (subst (λ (x : Token). IsSpelled view at x next) (e ∙ ap (λ (x : List ℕ). property x v) s) f.spelled, f.further, f.inside)

-- ---- at a node

pub reached_begin : (view : View) → Reached view 0 []
reached_begin view = record { all = []; spells = refl; kept = refl; inside = omega arith }

-- behind a node's beginning
pub behind_name : (view : View) (answer : Result (Option NodeOffset) ViewError) (before within : List Token) (name own : List ℕ) → own ≡ name → TellsReached view answer ((before ++ begin_node own ∷ []) ++ within)
    → TellsReached view answer (before ++ begin_node name ∷ within)
behind_name view answer before within name own e t =
    subst (λ (x : List Token). TellsReached view answer x) (append_assoc before (begin_node own ∷ []) within ∙ ap (λ (x : List ℕ). before ++ begin_node x ∷ within) e) t

pub placed_behind : (view : View) (answer : Result (Option PlacedProperty) ViewError) (before within : List Token) (name own : List ℕ) → own ≡ name → TellsPlaced view answer ((before ++ begin_node own ∷ []) ++ within)
    → TellsPlaced view answer (before ++ begin_node name ∷ within)
placed_behind view answer before within name own e t =
    subst (λ (x : List Token). TellsPlaced view answer x) (append_assoc before (begin_node own ∷ []) within ∙ ap (λ (x : List ℕ). before ++ begin_node x ∷ within) e) t
