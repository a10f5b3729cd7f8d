-- A walk from the beginning of the structure block up to a token.
use Rattle.std.proofs.Common.{◌≡◌, ℕ, zero, suc, ◌+◌, ◌-◌, ◌<◌, Bool, true, false, ◌==◌, List, [], ◌∷◌, ◌++◌, length, take, drop, Option, Some, None, if◌then◌else◌, refl, ap, sym, subst, ◌∙◌, arith, append_assoc}
use Rattle.std.proofs.lemmas.List.{append-nil, append_cancel_left, length-append, length-drop, length-take, take-append-drop}
use Rattle.std.proofs.lemmas.Option.{some_pair_parts}
use Rattle.std.proofs.Math.Seq.{take-add}
use Rattle.dt_blob.specs.Holds.{Spells, is_nop, without_nops}
use Rattle.dt_blob.specs.Steps.Reading.{token_at}
use Rattle.std.specs.Prelude.{option_and_then}
use Rattle.dt_tree.specs.NodeData.{NodeData}
use Rattle.dt_tree.specs.PathMap.{child_named, node_at}
use Rattle.dt_tree.specs.TreeData.{TreeData}
use Rattle.dt_tree.proofs.Places.{node_at-append}
use Rattle.dt_blob.specs.Token.{Token, begin_node, end_node, property, nop, end, property_tokens, sibling_tokens, tokens_of, tree_tokens}
use Rattle.dt_blob.proofs.Spelled.{token_long}
use Rattle.dt_blob.proofs.TokenLists.{first_again}
use Rattle.dt_patch.specs.declared.view.view.View.{View}
use Rattle.dt_patch.specs.View.Private.Levels.{Lies, last_open, levels_after, or_here}
use Rattle.dt_patch.specs.View.Parents.{IsAt}
use Rattle.dt_patch.specs.View.Private.Reading.{Finds, Opens, StandsNothing, Starts}
use Rattle.dt_patch.specs.View.Reaching.{Reached, before_node}
use Rattle.dt_patch.specs.View.Shows.{Views}
use Rattle.dt_patch.specs.View.Standing.{Ahead}
use Rattle.dt_patch.proofs.ViewLemmas.Reaches.{reached_begin}
use Rattle.dt_patch.proofs.ViewLemmas.Beginnings.{shorter}
use Rattle.dt_patch.proofs.ViewLemmas.Levels.{before_last, node_split, within}
use Rattle.dt_patch.proofs.ViewLemmas.Spellings.{kept_append, rest_of}

-- ---- an offset and the tokens before it

nothing_spelled : (strings : List ℕ) (ts : List Token) → Spells strings ts [] → ts ≡ []
nothing_spelled strings [] s = refl
nothing_spelled strings (t ∷ ts) s = absurd (omega (arith, ap length (s.2), length-append (s.0) (s.1), token_long strings (s.0) t (s.3)))

-- the same offset has the same tokens before it
pub same_reached : (view : View) (at : ℕ) (ts us : List Token) → Reached view at ts → Reached view at us → ts ≡ us
same_reached view at ts us a b =
    let front : List ℕ = take at view.structure.now in
    let r = rest_of view.strings.now a.all b.all front [] a.spells (subst (Spells view.strings.now b.all) (sym (append-nil front)) b.spells) in
    let none : r.rest ≡ [] = nothing_spelled view.strings.now r.rest r.spells in
    let all : b.all ≡ a.all = r.is ∙ ap (λ (x : List Token). a.all ++ x) none ∙ append-nil a.all in
    sym a.kept ∙ ap without_nops (sym all) ∙ b.kept

some_same : {A : Type 0} (x y : A) → Some x ≡ Some y → x ≡ y
some_same x y e = cc e

first_kept : (v : Token) (vs : List Token) → without_nops (v ∷ vs) ≡ [] → is_nop v ≡ true
first_kept v vs e = by_kind (is_nop v) refl where
  by_kind : (b : Bool) → is_nop v ≡ b → is_nop v ≡ true
  by_kind true h = h
  by_kind false h = absurd (let bad : v ∷ without_nops vs ≡ [] = (rw h at e) in cc bad)

cut : (n : ℕ) (x : List ℕ) → x ≡ take n x ++ drop n x
cut n x = sym (take-append-drop n x)

-- of two offsets behind the same tokens, where tokens begin that are no NOPs, none is before the other
not_before : (view : View) (p q : ℕ) (ts : List Token) → Reached view p ts → Reached view q ts → Starts view p → p < q → ⊥
not_before view p q ts a b s h =
    let block : List ℕ = view.structure.now in
    let strings : List ℕ = view.strings.now in
    let mid : List ℕ = take (q - p) (drop p block) in
    let sum : p + (q - p) ≡ q = omega (arith, h) in
    let inside = b.inside in
    let wide : length mid ≡ q - p = omega (arith, h, inside, length-take (q - p) (drop p block), length-drop p block) in
    let both : take q block ≡ take p block ++ mid = ap (λ (k : ℕ). take k block) (sym sum) ∙ take-add p (q - p) block in
    let r = rest_of strings a.all b.all (take p block) mid a.spells (subst (Spells strings b.all) both b.spells) in
    let kept : ts ++ without_nops r.rest ≡ ts ++ [] =
    ap (λ (x : List Token). x ++ without_nops r.rest) (sym a.kept) ∙ sym (kept_append a.all r.rest) ∙ ap without_nops (sym r.is) ∙ b.kept ∙ sym (append-nil ts) in
    let gone : without_nops r.rest ≡ [] = append_cancel_left ts (without_nops r.rest) [] kept in
    by_list r.rest r.spells gone wide where
      by_list : (vs : List Token) → Spells view.strings.now vs (take (q - p) (drop p view.structure.now)) → without_nops vs ≡ [] → length (take (q - p) (drop p view.structure.now)) ≡ q - p → ⊥
      by_list [] e g w = omega (arith, ap length e, w, h)
      by_list (v ∷ vs) e g w =
          let block : List ℕ = view.structure.now in
          let strings : List ℕ = view.strings.now in
          let mid : List ℕ = take (q - p) (drop p block) in
          let piece : List ℕ = take (s.next - p) (drop p block) in
          let one : token_at strings (drop p block) ≡ Some (v, e.1 ++ drop (q - p) (drop p block)) = ap (token_at strings) (cut (q - p) (drop p block)) ∙ first_again strings (e.0) (e.1) mid (drop (q - p) (drop p block)) v (e.2) (e.3) in
          let two : token_at strings (drop p block) ≡ Some (s.token, [] ++ drop (s.next - p) (drop p block)) =
          ap (token_at strings) (cut (s.next - p) (drop p block)) ∙ first_again strings piece [] piece (drop (s.next - p) (drop p block)) s.token (sym (append-nil piece)) s.spelled in
          let same = some_pair_parts v s.token (e.1 ++ drop (q - p) (drop p block)) ([] ++ drop (s.next - p) (drop p block)) (sym one ∙ two) in
          let bad : true ≡ false = sym (first_kept v vs g) ∙ ap is_nop (same.0) ∙ s.some in
          cc bad

pub same_place : (view : View) (p q : ℕ) (ts : List Token) → Reached view p ts → Reached view q ts → Starts view p → Starts view q → p ≡ q
same_place view p q ts a b s t =
    let one : p < q → ⊥ = not_before view p q ts a b s in
    let two : q < p → ⊥ = not_before view q p ts b a t in
    omega (arith, one, two)

-- ---- one token further

-- what was passed and what is left, up to the place
pub record Walking (view : View) (at place : ℕ) (before : List Token) (t : Token) (ts passed left : List Token) : Type 0 where
  pub lies : Lies view place before t ts
  pub reached : Reached view at passed
  pub ahead : Ahead view at (left ++ t ∷ ts)
  pub is : passed ++ left ≡ before

pub walk_first : (view : View) (place : ℕ) (before : List Token) (t : Token) (ts : List Token) → Lies view place before t ts → Walking view 0 place before t ts [] before
walk_first view place before t ts l = record { lies = l; reached = reached_begin view; ahead = l.ahead; is = refl }

-- at the place nothing is left
pub walk_there : (view : View) (from at next place : ℕ) (u : Token) (before : List Token) (t : Token) (ts passed left : List Token) → Finds view from u at next → at ≡ place → Walking view from place before t ts passed left → left ≡ []
walk_there view from at next place u before t ts passed left f e w =
    let here : Reached view place passed = subst (λ (k : ℕ). Reached view k passed) e (f.reach passed w.reached).0 in
    let same : passed ≡ before = same_reached view place passed before here w.lies.reached in
    append_cancel_left passed left [] (w.is ∙ sym same ∙ sym (append-nil passed))

-- and before it something is
walk_left : (view : View) (from at next place : ℕ) (u : Token) (before : List Token) (t : Token) (ts passed : List Token) → Finds view from u at next → (at ≡ place → ⊥) → Walking view from place before t ts passed [] → ⊥
walk_left view from at next place u before t ts passed f n w =
    let same : passed ≡ before = sym (append-nil passed) ∙ w.is in
    let here : Reached view at before = subst (λ (x : List Token). Reached view at x) same (f.reach passed w.reached).0 in
    let q = f.ahead t ts w.ahead in
    let starts : Starts view at = record { token = u; next = next; spelled = f.spelled; further = f.further; inside = f.inside; some = ap is_nop (q.0) ∙ w.lies.some } in
    n (same_place view at place before here w.lies.reached starts w.lies.starts)

pub record Step (view : View) (at next place : ℕ) (u : Token) (before : List Token) (t : Token) (ts passed left : List Token) : Type 0 where
  pub later : List Token
  pub is : left ≡ u ∷ later
  pub here : Reached view at passed
  pub there : Ahead view at (left ++ t ∷ ts)
  pub walking : Walking view next place before t ts (passed ++ u ∷ []) later

pub walk_on : (view : View) (from at next place : ℕ) (u : Token) (before : List Token) (t : Token) (ts passed left : List Token) → Finds view from u at next → (at ≡ place → ⊥) → Walking view from place before t ts passed left → Step view at next place u before t ts passed left
walk_on view from at next place u before t ts passed [] f n w = absurd (walk_left view from at next place u before t ts passed f n w)
walk_on view from at next place u before t ts passed (v ∷ vs) f n w =
    let q = f.ahead v (vs ++ t ∷ ts) w.ahead in
    let r = f.reach passed w.reached in
    record {
      later = vs;
      is = ap (λ (x : Token). x ∷ vs) (sym (q.0));
      here = r.0;
      there = q.1;
      walking = record {
        lies = w.lies;
        reached = r.1;
        ahead = q.2;
        is = append_assoc passed (u ∷ []) vs ∙ ap (λ (x : Token). passed ++ x ∷ vs) (q.0) ∙ w.is;
      };
    }

pub walk_nothing : (view : View) (from place : ℕ) (before : List Token) (t : Token) (ts passed left : List Token) → StandsNothing view from → Walking view from place before t ts passed left → ⊥
walk_nothing view from place before t ts passed [] n w = n t ts w.ahead
walk_nothing view from place before t ts passed (v ∷ vs) n w = n v (vs ++ t ∷ ts) w.ahead

-- ---- levels

pub record Counting (view : View) (at levels place : ℕ) (before : List Token) (t : Token) (ts : List Token) (n : ℕ) : Type 0 where
  pub passed : List Token
  pub left : List Token
  pub walking : Walking view at place before t ts passed left
  pub counts : levels_after levels left ≡ Some n

pub counting_there : (view : View) (from at next place levels : ℕ) (u : Token) (before : List Token) (t : Token) (ts : List Token) (n : ℕ) → Finds view from u at next → at ≡ place → Counting view from levels place before t ts n → levels ≡ n
counting_there view from at next place levels u before t ts n f e c =
    let over : c.left ≡ [] = walk_there view from at next place u before t ts c.passed c.left f e c.walking in
    by_level levels (ap (levels_after levels) (sym over) ∙ c.counts) where
      by_level : (k : ℕ) → levels_after k [] ≡ Some n → k ≡ n
      by_level zero h = some_same zero n h
      by_level (suc k) h = some_same (suc k) n h

counting_by : (view : View) (from at next place levels later : ℕ) (u : Token) (before : List Token) (t : Token) (ts : List Token) (n : ℕ) → Finds view from u at next → (at ≡ place → ⊥) → ((vs : List Token) → levels_after levels (u ∷ vs) ≡ Some n → levels_after later vs ≡ Some n)
    → Counting view from levels place before t ts n → Counting view next later place before t ts n
counting_by view from at next place levels later u before t ts n f m step c =
    let s = walk_on view from at next place u before t ts c.passed c.left f m c.walking in
    record { passed = c.passed ++ u ∷ []; left = s.later; walking = s.walking; counts = step s.later (ap (levels_after levels) (sym s.is) ∙ c.counts) }

-- what a token makes of the levels
abbrev level_behind : ℕ → Token → Option ℕ
level_behind n (begin_node name) = Some (suc n)
level_behind zero end_node = None
level_behind (suc n) end_node = Some n
level_behind n (property name value) = Some n
level_behind n nop = None
level_behind n end = None

pub level_on : (levels later : ℕ) (u v : Token) (vs : List Token) (n : ℕ) → u ≡ v → level_behind levels v ≡ Some later → levels_after levels (u ∷ vs) ≡ Some n → levels_after later vs ≡ Some n
level_on levels later u v vs n e l h = by_token v l (ap (λ (x : Token). levels_after levels (x ∷ vs)) (sym e) ∙ h) where
  same_level : (k : ℕ) → Some k ≡ Some later → levels_after k vs ≡ Some n → levels_after later vs ≡ Some n
  same_level k f g = ap (λ (j : ℕ). levels_after j vs) (sym (some_same k later f)) ∙ g

  at_end : (k : ℕ) → level_behind k end_node ≡ Some later → levels_after k (end_node ∷ vs) ≡ Some n → levels_after later vs ≡ Some n
  at_end zero f g = absurd (cc f)
  at_end (suc k) f g = same_level k f g

  at_begin : (name : List ℕ) (k : ℕ) → level_behind k (begin_node name) ≡ Some later → levels_after k (begin_node name ∷ vs) ≡ Some n → levels_after later vs ≡ Some n
  at_begin name zero f g = same_level 1 f g
  at_begin name (suc k) f g = same_level (suc (suc k)) f g

  at_property : (name value : List ℕ) (k : ℕ) → level_behind k (property name value) ≡ Some later → levels_after k (property name value ∷ vs) ≡ Some n → levels_after later vs ≡ Some n
  at_property name value zero f g = same_level zero f g
  at_property name value (suc k) f g = same_level (suc k) f g

  at_nop : (k : ℕ) → level_behind k nop ≡ Some later → levels_after later vs ≡ Some n
  at_nop zero f = absurd (cc f)
  at_nop (suc k) f = absurd (cc f)

  at_last : (k : ℕ) → level_behind k end ≡ Some later → levels_after later vs ≡ Some n
  at_last zero f = absurd (cc f)
  at_last (suc k) f = absurd (cc f)

  by_token : (w : Token) → level_behind levels w ≡ Some later → levels_after levels (w ∷ vs) ≡ Some n → levels_after later vs ≡ Some n
  by_token (begin_node name) f g = at_begin name levels f g
  by_token end_node f g = at_end levels f g
  by_token (property name value) f g = at_property name value levels f g
  by_token nop f g = at_nop levels f
  by_token end f g = at_last levels f

pub level_none : (levels : ℕ) (u v : Token) (vs : List Token) (n : ℕ) → u ≡ v → level_behind levels v ≡ None → levels_after levels (u ∷ vs) ≡ Some n → ⊥
level_none levels u v vs n e l h = by_token v levels l (ap (λ (x : Token). levels_after levels (x ∷ vs)) (sym e) ∙ h) where
  by_token : (w : Token) (k : ℕ) → level_behind k w ≡ None → levels_after k (w ∷ vs) ≡ Some n → ⊥
  by_token (begin_node name) zero f g = cc f
  by_token (begin_node name) (suc k) f g = cc f
  by_token end_node zero f g = cc g
  by_token end_node (suc k) f g = cc f
  by_token (property name value) zero f g = cc f
  by_token (property name value) (suc k) f g = cc f
  by_token nop zero f g = cc g
  by_token nop (suc k) f g = cc g
  by_token end zero f g = cc g
  by_token end (suc k) f g = cc g

behind_begin : (name : List ℕ) (k : ℕ) → level_behind k (begin_node name) ≡ Some (k + 1)
behind_begin name zero = refl
behind_begin name (suc k) = let same : suc (suc k) ≡ suc k + 1 = omega arith in ap (λ (j : ℕ). Some j) same

behind_property : (name value : List ℕ) (k : ℕ) → level_behind k (property name value) ≡ Some k
behind_property name value zero = refl
behind_property name value (suc k) = refl

behind_end : (k d : ℕ) → d + 1 ≡ k → level_behind k end_node ≡ Some d
behind_end zero d h = absurd (omega arith)
behind_end (suc k) d h = let same : k ≡ d = omega arith in ap (λ (j : ℕ). Some j) same

pub ended_before : (k : ℕ) → k ≡ 0 → level_behind k end_node ≡ None
ended_before zero h = refl
ended_before (suc k) h = absurd (omega arith)

pub no_nop : (k : ℕ) → level_behind k nop ≡ None
no_nop zero = refl
no_nop (suc k) = refl

pub no_end : (k : ℕ) → level_behind k end ≡ None
no_end zero = refl
no_end (suc k) = refl

pub counting_begin : (view : View) (from at next place levels : ℕ) (u : Token) (name : List ℕ) (before : List Token) (t : Token) (ts : List Token) (n : ℕ) → Finds view from u at next → (at ≡ place → ⊥) → u ≡ begin_node name → Counting view from levels place before t ts n → Counting view next (levels + 1) place before t ts n
counting_begin view from at next place levels u name before t ts n f m e c = counting_by view from at next place levels (levels + 1) u before t ts n f m (λ vs. level_on levels (levels + 1) u (begin_node name) vs n e (behind_begin name levels)) c

pub counting_property : (view : View) (from at next place levels : ℕ) (u : Token) (name value : List ℕ) (before : List Token) (t : Token) (ts : List Token) (n : ℕ) → Finds view from u at next → (at ≡ place → ⊥) → u ≡ property name value → Counting view from levels place before t ts n → Counting view next levels place before t ts n
counting_property view from at next place levels u name value before t ts n f m e c = counting_by view from at next place levels levels u before t ts n f m (λ vs. level_on levels levels u (property name value) vs n e (behind_property name value levels)) c

pub counting_end : (view : View) (from at next place levels d : ℕ) (u : Token) (before : List Token) (t : Token) (ts : List Token) (n : ℕ) → Finds view from u at next → (at ≡ place → ⊥) → u ≡ end_node → d + 1 ≡ levels → Counting view from levels place before t ts n → Counting view next d place before t ts n
counting_end view from at next place levels d u before t ts n f m e h c = counting_by view from at next place levels d u before t ts n f m (λ vs. level_on levels d u end_node vs n e (behind_end levels d h)) c

pub counting_none : (view : View) (from at next place levels : ℕ) (u v : Token) (before : List Token) (t : Token) (ts : List Token) (n : ℕ) → Finds view from u at next → (at ≡ place → ⊥) → u ≡ v → level_behind levels v ≡ None → Counting view from levels place before t ts n → ⊥
counting_none view from at next place levels u v before t ts n f m e l c =
    let s = walk_on view from at next place u before t ts c.passed c.left f m c.walking in
    level_none levels u v s.later n e l (ap (levels_after levels) (sym s.is) ∙ c.counts)

-- ---- the last node of a depth

-- of what is left none opens it, and it was met; or one does, behind these
abbrev pub Opened : View → ℕ → List Token → List Token → List Token → Option (List Token) → Type 0
Opened view last passed before ahead None = Reached view last before × Ahead view last ahead
Opened view last passed before ahead (Some ts) = passed ++ ts ≡ before

pub record Opening (view : View) (at levels last depth place : ℕ) (before within : List Token) (t : Token) (ts : List Token) (n : ℕ) : Type 0 where
  pub passed : List Token
  pub left : List Token
  pub walking : Walking view at place (before ++ within) t ts passed left
  pub counts : levels_after levels left ≡ Some n
  pub opened : Opened view last passed before (within ++ t ∷ ts) (last_open depth levels left)

pub opening_first : (view : View) (place depth : ℕ) (before within : List Token) (t : Token) (ts : List Token) (n : ℕ) → Lies view place (before ++ within) t ts → levels_after 0 (before ++ within) ≡ Some n → last_open depth 0 (before ++ within) ≡ Some before
    → Opening view 0 0 0 depth place before within t ts n
opening_first view place depth before within t ts n l c o = record {
  passed = [];
  left = before ++ within;
  walking = walk_first view place (before ++ within) t ts l;
  counts = c;
  opened = subst (λ (x : Option (List Token)). Opened view 0 [] before (within ++ t ∷ ts) x) (sym o) refl;
}

pub opening_there : (view : View) (from at next levels last depth place : ℕ) (u : Token) (before within : List Token) (t : Token) (ts : List Token) (n : ℕ) → Finds view from u at next → at ≡ place → Opening view from levels last depth place before within t ts n
    → Reached view last before × Ahead view last (within ++ t ∷ ts)
opening_there view from at next levels last depth place u before within t ts n f e o =
    let over : o.left ≡ [] = walk_there view from at next place u (before ++ within) t ts o.passed o.left f e o.walking in
    by_level levels (subst (λ (x : List Token). Opened view last o.passed before (within ++ t ∷ ts) (last_open depth levels x)) over o.opened) where
      by_level : (k : ℕ) → Opened view last o.passed before (within ++ t ∷ ts) (last_open depth k []) → Reached view last before × Ahead view last (within ++ t ∷ ts)
      by_level zero h = h
      by_level (suc k) h = h

-- a token that opens no such node
opened_on : (view : View) (last : ℕ) (passed before ahead : List Token) (u : Token) (o : Option (List Token)) → Opened view last passed before ahead (or_here false u o) → Opened view last (passed ++ u ∷ []) before ahead o
opened_on view last passed before ahead u None h = h
opened_on view last passed before ahead u (Some ts) h = append_assoc passed (u ∷ []) ts ∙ h

-- one that may
opened_new : (view : View) (last at : ℕ) (passed left before within behind : List Token) (u : Token) (b : Bool) (o : Option (List Token)) → Reached view at passed → Ahead view at (left ++ behind) → passed ++ left ≡ before ++ within
    → Opened view last passed before (within ++ behind) (or_here b u o) → Opened view (if b then at else last) (passed ++ u ∷ []) before (within ++ behind) o
opened_new view last at passed left before within behind u b (Some ts) r a i h = append_assoc passed (u ∷ []) ts ∙ h
opened_new view last at passed left before within behind u false None r a i h = h
opened_new view last at passed left before within behind u true None r a i h =
    let same : passed ≡ before = sym (append-nil passed) ∙ h in
    let rest : left ≡ within = append_cancel_left passed left within (i ∙ ap (λ (x : List Token). x ++ within) (sym same)) in
    (subst (λ (x : List Token). Reached view at x) same r, subst (λ (x : List Token). Ahead view at (x ++ behind)) rest a)

open_begin : (depth n : ℕ) (name : List ℕ) (ts : List Token) → last_open depth n (begin_node name ∷ ts) ≡ or_here (suc n == depth) (begin_node name) (last_open depth (suc n) ts)
open_begin depth zero name ts = refl
open_begin depth (suc n) name ts = refl

open_property : (depth n : ℕ) (name value : List ℕ) (ts : List Token) → last_open depth n (property name value ∷ ts) ≡ or_here false (property name value) (last_open depth n ts)
open_property depth zero name value ts = refl
open_property depth (suc n) name value ts = refl

open_end : (depth n d : ℕ) (ts : List Token) → d + 1 ≡ n → last_open depth n (end_node ∷ ts) ≡ or_here false end_node (last_open depth d ts)
open_end depth zero d ts h = absurd (omega arith)
open_end depth (suc n) d ts h = let same : n ≡ d = omega arith in ap (λ (j : ℕ). or_here false end_node (last_open depth j ts)) same

opening_quiet : (view : View) (from at next levels later last depth place : ℕ) (u v : Token) (before within : List Token) (t : Token) (ts : List Token) (n : ℕ) → Finds view from u at next → (at ≡ place → ⊥) → u ≡ v → level_behind levels v ≡ Some later
    → ((vs : List Token) → last_open depth levels (v ∷ vs) ≡ or_here false v (last_open depth later vs)) → Opening view from levels last depth place before within t ts n → Opening view next later last depth place before within t ts n
opening_quiet view from at next levels later last depth place u v before within t ts n f m e l quiet o =
    let s = walk_on view from at next place u (before ++ within) t ts o.passed o.left f m o.walking in
    let is : last_open depth levels o.left ≡ or_here false u (last_open depth later s.later) =
    ap (last_open depth levels) (s.is ∙ ap (λ (x : Token). x ∷ s.later) e) ∙ quiet s.later ∙ ap (λ (x : Token). or_here false x (last_open depth later s.later)) (sym e) in
    record {
      passed = o.passed ++ u ∷ [];
      left = s.later;
      walking = s.walking;
      counts = level_on levels later u v s.later n e l (ap (levels_after levels) (sym s.is) ∙ o.counts);
      opened = opened_on view last o.passed before (within ++ t ∷ ts) u (last_open depth later s.later) (subst (λ (x : Option (List Token)). Opened view last o.passed before (within ++ t ∷ ts) x) is o.opened);
    }

pub opening_property : (view : View) (from at next levels last depth place : ℕ) (u : Token) (name value : List ℕ) (before within : List Token) (t : Token) (ts : List Token) (n : ℕ) → Finds view from u at next → (at ≡ place → ⊥) → u ≡ property name value
    → Opening view from levels last depth place before within t ts n → Opening view next levels last depth place before within t ts n
opening_property view from at next levels last depth place u name value before within t ts n f m e o =
    opening_quiet view from at next levels levels last depth place u (property name value) before within t ts n f m e (behind_property name value levels) (open_property depth levels name value) o

pub opening_end : (view : View) (from at next levels d last depth place : ℕ) (u : Token) (before within : List Token) (t : Token) (ts : List Token) (n : ℕ) → Finds view from u at next → (at ≡ place → ⊥) → u ≡ end_node → d + 1 ≡ levels
    → Opening view from levels last depth place before within t ts n → Opening view next d last depth place before within t ts n
opening_end view from at next levels d last depth place u before within t ts n f m e h o =
    opening_quiet view from at next levels d last depth place u end_node before within t ts n f m e (behind_end levels d h) (λ vs. open_end depth levels d vs h) o

pub opening_begin : (view : View) (from at next levels last depth place : ℕ) (u : Token) (name : List ℕ) (before within : List Token) (t : Token) (ts : List Token) (n new : ℕ) → Finds view from u at next → (at ≡ place → ⊥) → u ≡ begin_node name
    → new ≡ (if levels + 1 == depth then at else last) → Opening view from levels last depth place before within t ts n → Opening view next (levels + 1) new depth place before within t ts n
opening_begin view from at next levels last depth place u name before within t ts n new f m e g o =
    let s = walk_on view from at next place u (before ++ within) t ts o.passed o.left f m o.walking in
    let more : suc levels ≡ levels + 1 = omega arith in
    let is : last_open depth levels o.left ≡ or_here (levels + 1 == depth) u (last_open depth (levels + 1) s.later) =
    ap (last_open depth levels) (s.is ∙ ap (λ (x : Token). x ∷ s.later) e) ∙ open_begin depth levels name s.later
    ∙ ap (λ (k : ℕ). or_here (k == depth) (begin_node name) (last_open depth k s.later)) more ∙ ap (λ (x : Token). or_here (levels + 1 == depth) x (last_open depth (levels + 1) s.later)) (sym e) in
    record {
      passed = o.passed ++ u ∷ [];
      left = s.later;
      walking = s.walking;
      counts = level_on levels (levels + 1) u (begin_node name) s.later n e (behind_begin name levels) (ap (levels_after levels) (sym s.is) ∙ o.counts);
      opened =
          subst (λ (k : ℕ). Opened view k (o.passed ++ u ∷ []) before (within ++ t ∷ ts) (last_open depth (levels + 1) s.later)) (sym g)
          (opened_new view last at o.passed o.left before within (t ∷ ts) u (levels + 1 == depth) (last_open depth (levels + 1) s.later) s.here s.there o.walking.is
          (subst (λ (x : Option (List Token)). Opened view last o.passed before (within ++ t ∷ ts) x) is o.opened));
    }

pub opening_none : (view : View) (from at next levels last depth place : ℕ) (u v : Token) (before within : List Token) (t : Token) (ts : List Token) (n : ℕ) → Finds view from u at next → (at ≡ place → ⊥) → u ≡ v → level_behind levels v ≡ None
    → Opening view from levels last depth place before within t ts n → ⊥
opening_none view from at next levels last depth place u v before within t ts n f m e l o =
    let s = walk_on view from at next place u (before ++ within) t ts o.passed o.left f m o.walking in
    level_none levels u v s.later n e l (ap (levels_after levels) (sym s.is) ∙ o.counts)

-- ---- the node at a path

-- what is inside a node's tokens, and what is behind them
abbrev pub inside_of : NodeData → List Token
inside_of d = property_tokens d.properties ++ (sibling_tokens d.children ++ end_node ∷ [])

pub lies_at : (view : View) (tree : TreeData) (path : List (List ℕ)) (from : ℕ) (name : List ℕ) (at next : ℕ) → Opens view from name at next → Views view tree → (i : IsAt view tree.root path from)
    → Lies view at (before_node tree.root path) (begin_node i.node.name) (inside_of i.node ++ ((node_split path tree.root i.node i.there).after ++ end ∷ []))
lies_at view tree path from name at next o v i =
    let s = node_split path tree.root i.node i.there in
    let whole : tree_tokens tree.root ≡ before_node tree.root path ++ begin_node i.node.name ∷ (inside_of i.node ++ (s.after ++ end ∷ [])) =
    ap (λ (x : List Token). x ++ end ∷ []) s.own ∙ append_assoc (before_node tree.root path) (tokens_of i.node ++ s.after) (end ∷ [])
    ∙ ap (λ (x : List Token). before_node tree.root path ++ begin_node i.node.name ∷ x) (append_assoc (inside_of i.node) s.after (end ∷ [])) in
    record {
      some = refl;
      reached = (o.reach (before_node tree.root path) i.reached).0;
      starts = o.starts;
      ahead = subst (λ (x : List Token). Ahead view 0 x) whole v.root;
    }

-- the parent stands where what is ahead of its beginning leads on to the child
pub parent_at : (view : View) (tree : TreeData) (path : List (List ℕ)) (k : List ℕ) (at : ℕ) (p d : NodeData) (e : node_at tree.root path ≡ Some p) (f : node_at tree.root (path ++ k ∷ []) ≡ Some d) → Reached view at (before_node tree.root path)
    → Ahead view at (within p k ++ begin_node d.name ∷ (inside_of d ++ ((node_split (path ++ k ∷ []) tree.root d f).after ++ end ∷ []))) → IsAt view tree.root path at
parent_at view tree path k at p d e f r a =
    let s = node_split path tree.root p e in
    let u = node_split (path ++ k ∷ []) tree.root d f in
    let front : List Token = before_node tree.root path in
    let last : List Token = end ∷ [] in
    let one : tokens_of tree.root ≡ front ++ (within p k ++ (tokens_of d ++ u.after)) = u.own ∙ ap (λ (x : List Token). x ++ (tokens_of d ++ u.after)) (before_last path tree.root p k e) ∙ append_assoc front (within p k) (tokens_of d ++ u.after) in
    let same : within p k ++ (tokens_of d ++ u.after) ≡ tokens_of p ++ s.after = append_cancel_left front (within p k ++ (tokens_of d ++ u.after)) (tokens_of p ++ s.after) (sym one ∙ s.own) in
    let whole : within p k ++ begin_node d.name ∷ (inside_of d ++ (u.after ++ last)) ≡ tokens_of p ++ (s.after ++ last) =
    ap (λ (x : List Token). within p k ++ begin_node d.name ∷ x) (sym (append_assoc (inside_of d) u.after last))
    ∙ sym (append_assoc (within p k) (tokens_of d ++ u.after) last) ∙ ap (λ (x : List Token). x ++ last) same ∙ append_assoc (tokens_of p) s.after last in
    record {
      node = p;
      there = e;
      stands = shorter view.strings.now (drop at view.structure.now) (tokens_of p) (s.after ++ last) (subst (λ (x : List Token). Ahead view at x) whole a);
      reached = r;
    }

-- a node has a parent
pub record HasParent (root : NodeData) (path : List (List ℕ)) (k : List ℕ) : Type 0 where
  pub parent : NodeData
  pub there : node_at root path ≡ Some parent

pub has_parent : (root d : NodeData) (path : List (List ℕ)) (k : List ℕ) → node_at root (path ++ k ∷ []) ≡ Some d → HasParent root path k
has_parent root d path k e = by_node (node_at root path) refl (sym (node_at-append path root k) ∙ e) where
  by_node : (o : Option NodeData) → node_at root path ≡ o → option_and_then (λ (c : NodeData). child_named c.children k) o ≡ Some d → HasParent root path k
  by_node None h f = absurd (cc f)
  by_node (Some p) h f = record { parent = p; there = h }
