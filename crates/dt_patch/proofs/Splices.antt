-- Bytes that spell tokens, with one token in the place of another.
use Rattle.std.proofs.Common.{◌≡◌, ℕ, ◌≤◌, true, false, List, [], ◌∷◌, ◌++◌, length, refl, ap, sym, subst, ◌∙◌, arith, append_assoc, length-drop}
use Rattle.std.proofs.lemmas.List.{append_cancel_left, append_cancel_right, drop-append-le, length-append}
use Rattle.dt_tree.specs.NodeData.{NodeData}
use Rattle.dt_blob.specs.Holds.{Names, Spells, SpellsRoot, SpellsToken, without_nops}
use Rattle.dt_blob.specs.Steps.NodeBuilders.{is_end}
use Rattle.dt_blob.specs.Token.{Token, begin_node, end_node, nop, end, property, tokens_of}
use Rattle.dt_patch.proofs.ViewLemmas.Spellings.{alone, joined, kept_append, rest_of}

-- ---- the end of the block

record Before (ts a c : List Token) (t : Token) : Type 0 where
  later : List Token
  all : ts ≡ a ++ t ∷ later
  last : c ≡ later ++ end ∷ []

head : (x y : Token) (xs ys : List Token) → x ∷ xs ≡ y ∷ ys → x ≡ y
head x y xs ys e = cc

tail : (x y : Token) (xs ys : List Token) → x ∷ xs ≡ y ∷ ys → xs ≡ ys
tail x y xs ys e = cc

none_left : (a c : List Token) (t : Token) → [] ≡ a ++ t ∷ c → ⊥
none_left [] c t e = cc e
none_left (u ∷ a) c t e = cc e

before_end : (ts a c : List Token) (t : Token) → is_end t ≡ false → ts ++ end ∷ [] ≡ a ++ t ∷ c → Before ts a c t
before_end [] [] c t n e = absurd (let bad : true ≡ false = ap is_end (head end t [] c e) ∙ n in cc bad)
before_end [] (v ∷ a) c t n e = absurd (none_left a c t (tail end v [] (a ++ t ∷ c) e))
before_end (u ∷ ts) [] c t n e = record {
  later = ts;
  all = ap (λ (x : Token). x ∷ ts) (head u t (ts ++ end ∷ []) c e);
  last = sym (tail u t (ts ++ end ∷ []) c e);
}
before_end (u ∷ ts) (v ∷ a) c t n e =
    let b = before_end ts a c t n (tail u v (ts ++ end ∷ []) (a ++ t ∷ c) e) in
    record {
      later = b.later;
      all = ap (λ (x : Token). x ∷ ts) (head u v (ts ++ end ∷ []) (a ++ t ∷ c) e) ∙ ap (λ (x : List Token). v ∷ x) b.all;
      last = b.last;
    }

-- ---- a property in the place of another

module _ (strings : List ℕ) (root changed : NodeData) (a before after : List Token) (k v w : List ℕ) (was : tokens_of root ≡ before ++ property k v ∷ after) (now : tokens_of changed ≡ before ++ property k w ∷ after) where
  later_kept : (ts later : List Token) → without_nops a ≡ before → without_nops ts ≡ tokens_of root → ts ≡ a ++ property k v ∷ later → without_nops (a ++ property k w ∷ later) ≡ tokens_of changed
  later_kept ts later b kept is =
      let front : (p : List ℕ) → without_nops (a ++ property k p ∷ later) ≡ before ++ property k p ∷ without_nops later = λ p. kept_append a (property k p ∷ later) ∙ ap (λ (x : List Token). x ++ property k p ∷ without_nops later) b in
      let same : before ++ property k v ∷ without_nops later ≡ before ++ property k v ∷ after = sym (front v) ∙ ap without_nops (sym is) ∙ kept ∙ was in
      let behind : without_nops later ≡ after = tail (property k v) (property k v) (without_nops later) after (append_cancel_left before (property k v ∷ without_nops later) (property k v ∷ after) same) in
      front w ∙ ap (λ (x : List Token). before ++ property k w ∷ x) behind ∙ sym now

  pub root_with : (structure front old new rest : List ℕ) → structure ≡ front ++ (old ++ rest) → SpellsRoot strings root structure → Spells strings a front → without_nops a ≡ before → SpellsToken strings (property k v) old → SpellsToken strings (property k w) new
      → SpellsRoot strings changed (front ++ (new ++ rest))
  root_with structure front old new rest is s f b o n =
      let all = rest_of strings a (s.0 ++ end ∷ []) front (old ++ rest) f (subst (Spells strings (s.0 ++ end ∷ [])) is (s.1)) in
      let behind = rest_of strings (property k v ∷ []) all.rest old rest (alone strings (property k v) old o) all.spells in
      let c = before_end (s.0) a behind.rest (property k v) refl (all.is ∙ ap (λ (x : List Token). a ++ x) behind.is) in
      let spelled : Spells strings (a ++ property k w ∷ behind.rest) (front ++ (new ++ rest)) =
      joined strings a (property k w ∷ behind.rest) front (new ++ rest) f (joined strings (property k w ∷ []) behind.rest new rest (alone strings (property k w) new n) behind.spells) in
      let ended : a ++ property k w ∷ behind.rest ≡ (a ++ property k w ∷ c.later) ++ end ∷ [] = ap (λ (x : List Token). a ++ property k w ∷ x) c.last ∙ sym (append_assoc a (property k w ∷ c.later) (end ∷ [])) in
      (a ++ property k w ∷ c.later, subst (λ (x : List Token). Spells strings x (front ++ (new ++ rest))) ended spelled, later_kept (s.0) c.later b (s.2) c.all)

-- ---- tokens in the place of others

-- more strings take none away
names_more : (strings extra : List ℕ) (place : ℕ) (name : List ℕ) → Names strings place name → Names (strings ++ extra) place name
names_more strings extra place name n =
    let inside : place ≤ length strings = omega (arith, ap length (n.1), length-drop place strings, length-append name (0 ∷ n.0)) in
    (n.0 ++ extra, drop-append-le place strings extra inside ∙ ap (λ (x : List ℕ). x ++ extra) (n.1) ∙ append_assoc name (0 ∷ n.0) extra, n.2)

token_more : (strings extra : List ℕ) (t : Token) (x : List ℕ) → SpellsToken strings t x → SpellsToken (strings ++ extra) t x
token_more strings extra (begin_node name) x s = s
token_more strings extra end_node x s = s
token_more strings extra (property name value) x s = (s.0, s.1, s.2, s.3, s.4, s.5, names_more strings extra (s.0) name (s.6))
token_more strings extra nop x s = s
token_more strings extra end x s = s

pub spells_more : (strings extra : List ℕ) (ts : List Token) (x : List ℕ) → Spells strings ts x → Spells (strings ++ extra) ts x
spells_more strings extra [] x s = s
spells_more strings extra (t ∷ ts) x s = (s.0, s.1, s.2, token_more strings extra t (s.0) (s.3), spells_more strings extra ts (s.1) (s.4))

-- the end of the block stands behind what was passed
record Last (b : List Token) : Type 0 where
  before : List Token
  is : b ≡ before ++ end ∷ []

last_of : (ts a b : List Token) → (b ≡ [] → ⊥) → ts ++ end ∷ [] ≡ a ++ b → Last b
last_of ts [] b n e = record { before = ts; is = sym e }
last_of [] (u ∷ a) [] n e = absurd (n refl)
last_of [] (u ∷ a) (v ∷ b) n e = absurd (no_more a v b (tail end u [] (a ++ v ∷ b) e)) where
  no_more : (c : List Token) (w : Token) (d : List Token) → [] ≡ c ++ w ∷ d → ⊥
  no_more [] w d e = cc e
  no_more (x ∷ c) w d e = cc e
last_of (t ∷ ts) (u ∷ a) b n e = last_of ts a b n (tail t u (ts ++ end ∷ []) (a ++ b) e)

not_nothing : (after : List Token) (t : Token) → [] ≡ after ++ t ∷ [] → ⊥
not_nothing [] t e = cc e
not_nothing (u ∷ after) t e = cc e

-- a front, what is spelled behind another front, and new tokens between them
pub replaced : (strings extra block : List ℕ) (root changed : NodeData) (a b before olds after news : List Token) (x y z new : List ℕ) → SpellsRoot strings root block
    → Spells strings a x → without_nops a ≡ before → block ≡ y ++ z → Spells strings b y → without_nops b ≡ before ++ olds
    → tokens_of root ≡ before ++ (olds ++ after) → tokens_of changed ≡ before ++ (news ++ after) → without_nops news ≡ news → Spells (strings ++ extra) news new
    → SpellsRoot (strings ++ extra) changed (x ++ (new ++ z))
replaced strings extra block root changed a b before olds after news x y z new s sa ka is sb kb was now plain sn =
    let all = rest_of strings b (s.0 ++ end ∷ []) y z sb (subst (Spells strings (s.0 ++ end ∷ [])) is (s.1)) in
    let both : without_nops (s.0 ++ end ∷ []) ≡ (before ++ olds) ++ without_nops all.rest = ap without_nops all.is ∙ kept_append b all.rest ∙ ap (λ (t : List Token). t ++ without_nops all.rest) kb in
    let root_is : without_nops (s.0 ++ end ∷ []) ≡ (before ++ olds) ++ (after ++ end ∷ []) =
    kept_append (s.0) (end ∷ []) ∙ ap (λ (t : List Token). t ++ end ∷ []) (s.2 ∙ was ∙ sym (append_assoc before olds after)) ∙ append_assoc (before ++ olds) after (end ∷ []) in
    let behind : without_nops all.rest ≡ after ++ end ∷ [] = append_cancel_left (before ++ olds) (without_nops all.rest) (after ++ end ∷ []) (sym both ∙ root_is) in
    let some : all.rest ≡ [] → ⊥ = λ e. not_nothing after end (sym (ap without_nops e) ∙ behind) in
    let l = last_of (s.0) b all.rest some all.is in
    let inner : without_nops l.before ≡ after = append_cancel_right (without_nops l.before) after (end ∷ []) (sym (kept_append l.before (end ∷ [])) ∙ sym (ap without_nops l.is) ∙ behind) in
    let more : Spells (strings ++ extra) a x = spells_more strings extra a x sa in
    let rest : Spells (strings ++ extra) all.rest z = spells_more strings extra all.rest z all.spells in
    let spelled : Spells (strings ++ extra) (a ++ (news ++ all.rest)) (x ++ (new ++ z)) = joined (strings ++ extra) a (news ++ all.rest) x (new ++ z) more (joined (strings ++ extra) news all.rest new z sn rest) in
    let ended : a ++ (news ++ all.rest) ≡ (a ++ (news ++ l.before)) ++ end ∷ [] =
    ap (λ (t : List Token). a ++ (news ++ t)) l.is ∙ ap (λ (t : List Token). a ++ t) (sym (append_assoc news l.before (end ∷ []))) ∙ sym (append_assoc a (news ++ l.before) (end ∷ [])) in
    let kept : without_nops (a ++ (news ++ l.before)) ≡ tokens_of changed =
    kept_append a (news ++ l.before) ∙ ap (λ (t : List Token). t ++ without_nops (news ++ l.before)) ka
    ∙ ap (λ (t : List Token). before ++ t) (kept_append news l.before ∙ ap (λ (t : List Token). t ++ without_nops l.before) plain ∙ ap (λ (t : List Token). news ++ t) inner) ∙ sym now in
    (a ++ (news ++ l.before), subst (λ (t : List Token). Spells (strings ++ extra) t (x ++ (new ++ z))) ended spelled, kept)
