-- How deep the tokens before a node lead, and which of them opened its parent.
use Rattle.std.proofs.Common.{◌≡◌, ℕ, zero, suc, ◌+◌, ◌≤◌, Bool, true, false, ◌==◌, List, [], ◌∷◌, ◌++◌, length, Option, Some, None, refl, ap, sym, subst, ◌∙◌, arith, append_assoc, eq-eqb}
use Rattle.std.specs.Option.{option_map_or}
use Rattle.std.specs.Str.{bytes_eq}
use Rattle.std.proofs.lemmas.List.{append-nil}
use Rattle.dt_tree.specs.declared.property.Property.{Property}
use Rattle.dt_tree.specs.NodeData.{NodeData, Siblings, none, more, node_data}
use Rattle.dt_tree.specs.PathMap.{child_named, node_at}
use Rattle.dt_blob.specs.Token.{Token, begin_node, end_node, property, nop, end, property_tokens, sibling_tokens, tokens_of}
use Rattle.dt_blob.proofs.Tests.{equal}
use Rattle.dt_patch.specs.View.Private.Levels.{last_open, levels_after, or_here}
use Rattle.dt_patch.specs.View.Reaching.{before_child, before_node}
use Rattle.dt_patch.proofs.ViewLemmas.Descents.{regrouped}

-- ---- a node's tokens lead back to its level

levels_properties : (n : ℕ) (ps : List Property) (ts : List Token) → levels_after n (property_tokens ps ++ ts) ≡ levels_after n ts
levels_properties n [] ts = refl
levels_properties zero (p ∷ ps) ts = levels_properties zero ps ts
levels_properties (suc n) (p ∷ ps) ts = levels_properties (suc n) ps ts

levels_siblings : (f : Siblings) (n : ℕ) (ts : List Token) → levels_after n (sibling_tokens f ++ ts) ≡ levels_after n ts
levels_siblings none n ts = refl
levels_siblings (more name ps children rest) zero ts =
    ap (levels_after 1) (regrouped ps children rest ts)
    ∙ levels_properties 1 ps (sibling_tokens children ++ end_node ∷ (sibling_tokens rest ++ ts))
    ∙ levels_siblings children 1 (end_node ∷ (sibling_tokens rest ++ ts))
    ∙ levels_siblings rest zero ts
levels_siblings (more name ps children rest) (suc n) ts =
    ap (levels_after (suc (suc n))) (regrouped ps children rest ts)
    ∙ levels_properties (suc (suc n)) ps (sibling_tokens children ++ end_node ∷ (sibling_tokens rest ++ ts))
    ∙ levels_siblings children (suc (suc n)) (end_node ∷ (sibling_tokens rest ++ ts))
    ∙ levels_siblings rest (suc n) ts

levels_child : (s : Siblings) (k : List ℕ) (n : ℕ) (ts : List Token) → levels_after n (before_child s k ++ ts) ≡ levels_after n ts
levels_child none k n ts = refl
levels_child (more l p c rest) k n ts = by_test _ refl (levels_child rest k n ts) where
  by_test : (t : Bool) → bytes_eq l k ≡ t → levels_after n (before_child rest k ++ ts) ≡ levels_after n ts → levels_after n (before_child (more l p c rest) k ++ ts) ≡ levels_after n ts
  by_test true h ih = rw h refl
  by_test false h ih =
      let first : List Token = tokens_of (node_data l p c) in
      rw h (ap (levels_after n) (append_assoc first (before_child rest k) ts) ∙ levels_siblings (more l p c none) n (before_child rest k ++ ts) ∙ ih)

pub levels_node : (path : List (List ℕ)) (b d : NodeData) (n : ℕ) → node_at b path ≡ Some d → levels_after n (before_node b path) ≡ Some (n + length path)
levels_node [] b d n e = let same : n ≡ n + 0 = omega arith in ap (λ (k : ℕ). Some k) same
levels_node (k ∷ ks) b d n e = through (child_named b.children k) refl e (λ c. levels_node ks c d (suc n)) where
  through : (o : Option NodeData) → child_named b.children k ≡ o → node_at b (k ∷ ks) ≡ Some d → ((c : NodeData) → node_at c ks ≡ Some d → levels_after (suc n) (before_node c ks) ≡ Some (suc n + length ks)) → levels_after n (before_node b (k ∷ ks)) ≡ Some (n + length (k ∷ ks))
  through None h e ih = absurd (let bad : None ≡ Some d = (rw h at e) in cc bad)
  through (Some c) h e ih =
      let front : List Token = before_child b.children k in
      let sum : suc n + length ks ≡ n + suc (length ks) = omega arith in
      let found : before_node b (k ∷ ks) ≡ begin_node b.name ∷ (property_tokens b.properties ++ (front ++ before_node c ks)) =
      ap (λ (o : Option NodeData). begin_node b.name ∷ (property_tokens b.properties ++ (front ++ option_map_or (λ x. before_node x ks) o []))) h in
      ap (levels_after n) found ∙ into n (levels_properties (suc n) b.properties (front ++ before_node c ks) ∙ levels_child b.children k (suc n) (before_node c ks) ∙ ih c (rw h at e) ∙ ap (λ (j : ℕ). Some j) sum) where
        into : (n : ℕ) → levels_after (suc n) (property_tokens b.properties ++ (before_child b.children k ++ before_node c ks)) ≡ Some (n + length (k ∷ ks)) → levels_after n (begin_node b.name ∷ (property_tokens b.properties ++ (before_child b.children k ++ before_node c ks))) ≡ Some (n + length (k ∷ ks))
        into zero g = g
        into (suc j) g = g

-- ---- no node of the depth begins inside

nothing_before : (d : ℕ) (ts : List Token) (t : Token) → last_open d d ts ≡ None → or_here false t (last_open d d ts) ≡ None
nothing_before d ts t e = rw e refl

open_properties : (d n : ℕ) (ps : List Property) (ts : List Token) → last_open d n ts ≡ None → last_open d n (property_tokens ps ++ ts) ≡ None
open_properties d n [] ts e = e
open_properties d zero (p ∷ ps) ts e = let ih = open_properties d zero ps ts e in rw ih refl
open_properties d (suc n) (p ∷ ps) ts e = let ih = open_properties d (suc n) ps ts e in rw ih refl

above : (d n : ℕ) → d ≤ n → (suc n == d) ≡ false
above d n h = by_test (suc n == d) refl where
  by_test : (t : Bool) → (suc n == d) ≡ t → (suc n == d) ≡ false
  by_test true e = absurd (let same : suc n ≡ d = equal (suc n) d e in omega arith)
  by_test false e = e

open_begin : (d n : ℕ) (name : List ℕ) (ts : List Token) → d ≤ n → last_open d (suc n) ts ≡ None → last_open d n (begin_node name ∷ ts) ≡ None
open_begin d zero name ts h e = let no = above d zero h in rw (e, no) refl
open_begin d (suc n) name ts h e = let no = above d (suc n) h in rw (e, no) refl

open_siblings : (f : Siblings) (d n : ℕ) (ts : List Token) → d ≤ n → last_open d n ts ≡ None → last_open d n (sibling_tokens f ++ ts) ≡ None
open_siblings none d n ts h e = e
open_siblings (more name ps children rest) d n ts h e =
    let tail : List Token = sibling_tokens rest ++ ts in
    let later : last_open d (suc n) (end_node ∷ tail) ≡ None = (let ih = open_siblings rest d n ts h e in rw ih refl) in
    let inner : last_open d (suc n) (property_tokens ps ++ (sibling_tokens children ++ end_node ∷ tail)) ≡ None = open_properties d (suc n) ps (sibling_tokens children ++ end_node ∷ tail) (open_siblings children d (suc n) (end_node ∷ tail) (omega (arith, h)) later) in
    open_begin d n name ((property_tokens ps ++ (sibling_tokens children ++ end_node ∷ sibling_tokens rest)) ++ ts) h (ap (last_open d (suc n)) (regrouped ps children rest ts) ∙ inner)

open_child : (s : Siblings) (k : List ℕ) (d : ℕ) → last_open d d (before_child s k) ≡ None
open_child none k zero = refl
open_child none k (suc d) = refl
open_child (more l p c rest) k d = by_test _ refl (open_child rest k d) where
  nothing : (d : ℕ) → last_open d d [] ≡ None
  nothing zero = refl
  nothing (suc d) = refl

  by_test : (t : Bool) → bytes_eq l k ≡ t → last_open d d (before_child rest k) ≡ None → last_open d d (before_child (more l p c rest) k) ≡ None
  by_test true h ih = rw h (nothing d)
  by_test false h ih = rw h (open_siblings (more l p c none) d d (before_child rest k) (omega arith) ih)

-- ---- the parent's beginning

-- what stands between a node's beginning and the child of a name
abbrev pub within : NodeData → List ℕ → List Token
within p k = begin_node p.name ∷ (property_tokens p.properties ++ before_child p.children k)

opened_here : (d n : ℕ) (p : NodeData) (k : List ℕ) → suc n ≡ d → last_open d n (within p k) ≡ Some []
opened_here d n p k e =
    let inner : last_open d d (property_tokens p.properties ++ before_child p.children k) ≡ None = open_properties d d p.properties (before_child p.children k) (open_child p.children k d) in
    let same : last_open d (suc n) (property_tokens p.properties ++ before_child p.children k) ≡ None = ap (λ (j : ℕ). last_open d j (property_tokens p.properties ++ before_child p.children k)) e ∙ inner in
    into n same (eq-eqb (suc n) d e) where
      into : (n : ℕ) → last_open d (suc n) (property_tokens p.properties ++ before_child p.children k) ≡ None → (suc n == d) ≡ true → last_open d n (within p k) ≡ Some []
      into zero s t = rw (s, t) refl
      into (suc j) s t = rw (s, t) refl

some_on : (b : Bool) (t : Token) (o : Option (List Token)) (ts : List Token) → o ≡ Some ts → or_here b t o ≡ Some (t ∷ ts)
some_on b t o ts e = rw e refl

opened_behind : (before x : List Token) (d n m : ℕ) → levels_after n before ≡ Some m → last_open d m x ≡ Some [] → last_open d n (before ++ x) ≡ Some before
opened_behind [] x d n m l o = ap (λ (k : ℕ). last_open d k x) (same n m l) ∙ o where
  same : (n m : ℕ) → levels_after n [] ≡ Some m → n ≡ m
  same zero m e = let f : Some zero ≡ Some m = e in cc f
  same (suc n) m e = let f : Some (suc n) ≡ Some m = e in cc f
opened_behind (begin_node name ∷ ts) x d zero m l o = some_on _ (begin_node name) _ ts (opened_behind ts x d 1 m l o)
opened_behind (begin_node name ∷ ts) x d (suc n) m l o = some_on _ (begin_node name) _ ts (opened_behind ts x d (suc (suc n)) m l o)
opened_behind (end_node ∷ ts) x d zero m l o = absurd (cc l)
opened_behind (end_node ∷ ts) x d (suc n) m l o = some_on false end_node _ ts (opened_behind ts x d n m l o)
opened_behind (property name value ∷ ts) x d zero m l o = some_on false (property name value) _ ts (opened_behind ts x d zero m l o)
opened_behind (property name value ∷ ts) x d (suc n) m l o = some_on false (property name value) _ ts (opened_behind ts x d (suc n) m l o)
opened_behind (nop ∷ ts) x d zero m l o = absurd (cc l)
opened_behind (nop ∷ ts) x d (suc n) m l o = absurd (cc l)
opened_behind (end ∷ ts) x d zero m l o = absurd (cc l)
opened_behind (end ∷ ts) x d (suc n) m l o = absurd (cc l)

pub parent_opened : (path : List (List ℕ)) (b p : NodeData) (k : List ℕ) (d : ℕ) → node_at b path ≡ Some p → d ≡ length path + 1 → last_open d 0 (before_node b path ++ within p k) ≡ Some (before_node b path)
parent_opened path b p k d e h =
    let none : 0 + length path ≡ length path = omega arith in
    opened_behind (before_node b path) (within p k) d 0 (length path) (levels_node path b p 0 e ∙ ap (λ (j : ℕ). Some j) none) (opened_here d (length path) p k (omega (arith, h)))

-- ---- the tokens before a child, by its parent

no_more : (o : Option NodeData) → option_map_or (λ (c : NodeData). before_node c []) o [] ≡ []
no_more None = refl
no_more (Some c) = refl

pub before_last : (path : List (List ℕ)) (b p : NodeData) (k : List ℕ) → node_at b path ≡ Some p → before_node b (path ++ k ∷ []) ≡ before_node b path ++ within p k
before_last [] b p k e =
    let same : b ≡ p = (let f : Some b ≡ Some p = e in cc f) in
    ap (λ (x : List Token). begin_node b.name ∷ (property_tokens b.properties ++ (before_child b.children k ++ x))) (no_more (child_named b.children k))
    ∙ ap (λ (x : List Token). begin_node b.name ∷ (property_tokens b.properties ++ x)) (append-nil (before_child b.children k))
    ∙ ap (λ (x : NodeData). within x k) same
before_last (j ∷ js) b p k e = through (child_named b.children j) refl e (λ c. before_last js c p k) where
  through : (o : Option NodeData) → child_named b.children j ≡ o → node_at b (j ∷ js) ≡ Some p → ((c : NodeData) → node_at c js ≡ Some p → before_node c (js ++ k ∷ []) ≡ before_node c js ++ within p k) → before_node b ((j ∷ js) ++ k ∷ []) ≡ before_node b (j ∷ js) ++ within p k
  through None h e ih = absurd (let bad : None ≡ Some p = (rw h at e) in cc bad)
  through (Some c) h e ih =
      let props : List Token = property_tokens b.properties in
      let front : List Token = before_child b.children j in
      let whole : (ks : List (List ℕ)) → before_node b (j ∷ ks) ≡ begin_node b.name ∷ (props ++ (front ++ before_node c ks)) = λ ks.
      ap (λ (o : Option NodeData). begin_node b.name ∷ (props ++ (front ++ option_map_or (λ x. before_node x ks) o []))) h in
      whole (js ++ k ∷ [])
      ∙ ap (λ (x : List Token). begin_node b.name ∷ (props ++ (front ++ x))) (ih c (rw h at e))
      ∙ ap (λ (x : List Token). begin_node b.name ∷ (props ++ x)) (sym (append_assoc front (before_node c js) (within p k)))
      ∙ ap (λ (x : List Token). begin_node b.name ∷ x) (sym (append_assoc props (front ++ before_node c js) (within p k)))
      ∙ ap (λ (x : List Token). x ++ within p k) (sym (whole js))

-- ---- a tree's tokens before and behind a node

record ChildSplit (s : Siblings) (k : List ℕ) (c : NodeData) : Type 0 where
  after : List Token
  own : sibling_tokens s ≡ before_child s k ++ (tokens_of c ++ after)

some_same : {A : Type 0} (x y : A) → Some x ≡ Some y → x ≡ y
some_same x y e = cc e

first_child : (n : List ℕ) (p : List Property) (d rest : Siblings) → sibling_tokens (more n p d rest) ≡ tokens_of (node_data n p d) ++ sibling_tokens rest
first_child n p d rest = ap (λ (x : List Token). begin_node n ∷ x) (sym (regrouped p d none (sibling_tokens rest)))

child_split : (s : Siblings) (k : List ℕ) (c : NodeData) → child_named s k ≡ Some c → ChildSplit s k c
child_split none k c e = absurd (cc e)
child_split (more n p d rest) k c e = by_test _ refl e (child_split rest k c) where
  by_test : (t : Bool) → bytes_eq n k ≡ t → child_named (more n p d rest) k ≡ Some c → (child_named rest k ≡ Some c → ChildSplit rest k c) → ChildSplit (more n p d rest) k c
  by_test true h e ih =
      let is : node_data n p d ≡ c = some_same (node_data n p d) c (rw h at e) in
      subst (ChildSplit (more n p d rest) k) is (record { after = sibling_tokens rest; own = rw h (first_child n p d rest) })
  by_test false h e ih =
      let r = ih (rw h at e) in
      let first : List Token = tokens_of (node_data n p d) in
      record { after = r.after; own = rw h (first_child n p d rest ∙ ap (λ (x : List Token). first ++ x) r.own ∙ sym (append_assoc first (before_child rest k) (tokens_of c ++ r.after))) }

pub record NodeSplit (b : NodeData) (path : List (List ℕ)) (n : NodeData) : Type 0 where
  pub after : List Token
  pub own : tokens_of b ≡ before_node b path ++ (tokens_of n ++ after)

pub child_own : (p c : NodeData) (k : List ℕ) (after : List Token) → sibling_tokens p.children ≡ before_child p.children k ++ (tokens_of c ++ after) → tokens_of p ≡ within p k ++ (tokens_of c ++ (after ++ end_node ∷ []))
child_own p c k after e =
    let props : List Token = property_tokens p.properties in
    let front : List Token = before_child p.children k in
    let last : List Token = end_node ∷ [] in
    ap (λ (x : List Token). begin_node p.name ∷ (props ++ (x ++ last))) e
    ∙ ap (λ (x : List Token). begin_node p.name ∷ (props ++ x)) (append_assoc front (tokens_of c ++ after) last ∙ ap (λ (x : List Token). front ++ x) (append_assoc (tokens_of c) after last))
    ∙ ap (λ (x : List Token). begin_node p.name ∷ x) (sym (append_assoc props front (tokens_of c ++ (after ++ last))))

pub node_split : (path : List (List ℕ)) (b n : NodeData) → node_at b path ≡ Some n → NodeSplit b path n
node_split [] b n e = let is : b ≡ n = some_same b n e in subst (NodeSplit b []) is (record { after = []; own = sym (append-nil (tokens_of b)) })
node_split (k ∷ ks) b n e = through (child_named b.children k) refl e (λ c. node_split ks c n) where
  through : (o : Option NodeData) → child_named b.children k ≡ o → node_at b (k ∷ ks) ≡ Some n → ((c : NodeData) → node_at c ks ≡ Some n → NodeSplit c ks n) → NodeSplit b (k ∷ ks) n
  through None h e ih = absurd (let bad : None ≡ Some n = (rw h at e) in cc bad)
  through (Some c) h e ih =
      let below = ih c (rw h at e) in
      let s = child_split b.children k c h in
      let props : List Token = property_tokens b.properties in
      let front : List Token = before_child b.children k in
      let inner : List Token = before_node c ks in
      let last : List Token = s.after ++ end_node ∷ [] in
      let same : before_node b (k ∷ ks) ≡ within b k ++ inner =
      ap (λ (o : Option NodeData). begin_node b.name ∷ (props ++ (front ++ option_map_or (λ x. before_node x ks) o []))) h ∙ ap (λ (x : List Token). begin_node b.name ∷ x) (sym (append_assoc props front inner)) in
      record {
        after = below.after ++ last;
        own =
            child_own b c k s.after s.own
            ∙ ap (λ (x : List Token). within b k ++ (x ++ last)) below.own
            ∙ ap (λ (x : List Token). within b k ++ x) (append_assoc inner (tokens_of n ++ below.after) last ∙ ap (λ (x : List Token). inner ++ x) (append_assoc (tokens_of n) below.after last))
            ∙ sym (append_assoc (within b k) inner (tokens_of n ++ (below.after ++ last)))
            ∙ ap (λ (x : List Token). x ++ (tokens_of n ++ (below.after ++ last))) (sym same);
      }
