-- The structure block as a list of tokens, in both directions.
use Rattle.std.proofs.Common.{◌≡◌, ℕ, zero, suc, ◌<◌, Bool, true, false, List, [], ◌∷◌, ◌++◌, length, Option, Some, None, refl, ap, sym, subst, ◌∙◌, arith, append_assoc}
use Rattle.std.proofs.lemmas.List.{append-nil, length-append}
use Rattle.dt_tree.specs.declared.property.Property.{Property}
use Rattle.dt_tree.specs.NodeData.{NodeData, Siblings, none, more}
use Rattle.dt_blob.specs.Token.{Token, begin_node, end_node, property, nop, end, property_tokens, sibling_tokens, tokens_of}
use Rattle.dt_blob.specs.Holds.{SpellsToken, Spells, is_nop, without_nops, SpellsRoot}
use Rattle.dt_blob.specs.Steps.NodeBuilders.{is_end}
use Rattle.dt_blob.specs.Steps.Reading.{token_at, left, tokens_by, tokens_in, tokens_at}
use Rattle.dt_blob.proofs.Spelled.{Found, token_sound, token_again, token_long}
use Rattle.dt_blob.proofs.Words.{AreBytes, bytes_right}

-- ---- what is read is spelled so

-- tokens that spell a front of the bytes, all of them where their size is told, and are these without NOP
pub record Spelling (sized : Bool) (strings bytes : List ℕ) (ts : List Token) : Type 0 where
  pub tokens : List Token
  pub front : List ℕ
  pub rest : List ℕ
  pub is : bytes ≡ front ++ rest
  pub whole : sized ≡ true → rest ≡ []
  pub spells : Spells strings (tokens ++ end ∷ []) front
  pub same : without_nops tokens ≡ ts

not_nil : (ts : List Token) → [] ≡ ts ++ end ∷ [] → ⊥
not_nil [] e = cc
not_nil (t ∷ ts) e = cc

nothing_behind : (sized : Bool) (bs : List ℕ) → left sized bs ≡ [] → sized ≡ true → bs ≡ []
nothing_behind false bs e s = absurd (cc s)
nothing_behind true [] e s = refl
nothing_behind true (b ∷ bs) e s = absurd (let bad : nop ∷ [] ≡ [] = e in cc)

no_end_left : (sized : Bool) (bs : List ℕ) (ts : List Token) → left sized bs ≡ ts ++ end ∷ [] → ⊥
no_end_left false bs ts e = not_nil ts e
no_end_left true [] ts e = not_nil ts e
no_end_left true (b ∷ bs) [] e = (let bad : nop ∷ [] ≡ end ∷ [] = e in cc)
no_end_left true (b ∷ bs) (t ∷ ts) e = not_nil ts (tail nop t [] (ts ++ end ∷ []) e) where
  tail : (x y : Token) (xs ys : List Token) → x ∷ xs ≡ y ∷ ys → xs ≡ ys
  tail x y xs ys e = cc

last_spelled : (sized : Bool) (strings bytes rest : List ℕ) (ts : List Token) → Found strings bytes rest end → end ∷ left sized rest ≡ ts ++ end ∷ [] → Spelling sized strings bytes ts
last_spelled sized strings bytes rest [] f e =
    let behind : left sized rest ≡ [] = tail end end (left sized rest) [] e in
    record {
      tokens = [];
      front = f.first;
      rest = rest;
      is = f.is;
      whole = nothing_behind sized rest behind;
      spells = (f.first, [], sym (append-nil f.first), f.spells, refl);
      same = refl;
    } where
      tail : (x y : Token) (xs ys : List Token) → x ∷ xs ≡ y ∷ ys → xs ≡ ys
      tail x y xs ys e = cc
last_spelled sized strings bytes rest (t ∷ ts) f e = absurd (no_end_left sized rest ts (tail end t (left sized rest) (ts ++ end ∷ []) e)) where
  tail : (x y : Token) (xs ys : List Token) → x ∷ xs ≡ y ∷ ys → xs ≡ ys
  tail x y xs ys e = cc

-- a token, and what spells the rest
with_first : (sized : Bool) (strings bytes rest : List ℕ) (t : Token) (us ts : List Token) → Found strings bytes rest t → (s : Spelling sized strings rest us) → without_nops (t ∷ s.tokens) ≡ ts → Spelling sized strings bytes ts
with_first sized strings bytes rest t us ts f s e = record {
  tokens = t ∷ s.tokens;
  front = f.first ++ s.front;
  rest = s.rest;
  is = f.is ∙ ap (λ (x : List ℕ). f.first ++ x) s.is ∙ sym (append_assoc f.first s.front s.rest);
  whole = s.whole;
  spells = (f.first, s.front, refl, f.spells, s.spells);
  same = e;
}

-- a token that is no NOP and no END, before others
one_spelled : (sized : Bool) (strings bytes rest : List ℕ) (t : Token) (others ts : List Token) → is_nop t ≡ false → is_end t ≡ false → Found strings bytes rest t → t ∷ others ≡ ts ++ end ∷ []
    → ((us : List Token) → others ≡ us ++ end ∷ [] → Spelling sized strings rest us) → Spelling sized strings bytes ts
one_spelled sized strings bytes rest t others [] n m f e ih = absurd (let same : t ≡ end = cc in let bad : false ≡ true = sym m ∙ ap is_end same in cc)
one_spelled sized strings bytes rest t others (u ∷ us) n m f e ih =
    let same : t ≡ u = head t u others (us ++ end ∷ []) e in
    let later = ih us (tail t u others (us ++ end ∷ []) e) in
    with_first sized strings bytes rest t us (u ∷ us) f later (rw n (ap (λ (x : Token). x ∷ without_nops later.tokens) same ∙ ap (λ (x : List Token). u ∷ x) later.same)) where
      head : (x y : Token) (xs ys : List Token) → x ∷ xs ≡ y ∷ ys → x ≡ y
      head x y xs ys e = cc

      tail : (x y : Token) (xs ys : List Token) → x ∷ xs ≡ y ∷ ys → xs ≡ ys
      tail x y xs ys e = cc

by_token : (sized : Bool) (strings bytes rest : List ℕ) (t : Token) (n : ℕ) (ts : List Token) → Found strings bytes rest t → tokens_by sized (Some (t, rest)) (tokens_in sized strings n) ≡ ts ++ end ∷ []
    → ((us : List Token) → tokens_in sized strings n rest ≡ us ++ end ∷ [] → Spelling sized strings rest us) → Spelling sized strings bytes ts
by_token sized strings bytes rest nop n ts f e ih = let later = ih ts e in with_first sized strings bytes rest nop ts ts f later later.same
by_token sized strings bytes rest end n ts f e ih = last_spelled sized strings bytes rest ts f e
by_token sized strings bytes rest (begin_node name) n ts f e ih = one_spelled sized strings bytes rest (begin_node name) (tokens_in sized strings n rest) ts refl refl f e ih
by_token sized strings bytes rest end_node n ts f e ih = one_spelled sized strings bytes rest end_node (tokens_in sized strings n rest) ts refl refl f e ih
by_token sized strings bytes rest (property name value) n ts f e ih = one_spelled sized strings bytes rest (property name value) (tokens_in sized strings n rest) ts refl refl f e ih

pub found_rest : (strings bytes rest : List ℕ) (t : Token) → AreBytes bytes → Found strings bytes rest t → AreBytes rest
found_rest strings bytes rest t f d = bytes_right d.first rest (subst AreBytes d.is f)

bad_first : (ts : List Token) → nop ∷ [] ≡ ts ++ end ∷ [] → ⊥
bad_first [] e = (let bad : nop ∷ [] ≡ end ∷ [] = e in cc)
bad_first (t ∷ ts) e = not_nil ts (tail nop t [] (ts ++ end ∷ []) e) where
  tail : (x y : Token) (xs ys : List Token) → x ∷ xs ≡ y ∷ ys → xs ≡ ys
  tail x y xs ys e = cc

by_first : (sized : Bool) (strings bytes : List ℕ) (n : ℕ) (ts : List Token) (o : Option (Token × List ℕ)) → AreBytes bytes → token_at strings bytes ≡ o → tokens_by sized o (tokens_in sized strings n) ≡ ts ++ end ∷ []
    → ((rest : List ℕ) (us : List Token) → AreBytes rest → tokens_in sized strings n rest ≡ us ++ end ∷ [] → Spelling sized strings rest us) → Spelling sized strings bytes ts
by_first sized strings bytes n ts None f e h ih = absurd (bad_first ts h)
by_first sized strings bytes n ts (Some x) f e h ih =
    let found = token_sound strings bytes (x.1) (x.0) f e in
    by_token sized strings bytes (x.1) (x.0) n ts found h (λ us k. ih (x.1) us (found_rest strings bytes (x.1) (x.0) f found) k)

tokens_sound_in : (sized : Bool) (strings : List ℕ) (n : ℕ) (bytes : List ℕ) (ts : List Token) → AreBytes bytes → tokens_in sized strings n bytes ≡ ts ++ end ∷ [] → Spelling sized strings bytes ts
unfolding tokens_in
tokens_sound_in sized strings zero bytes ts f e = absurd (not_nil ts e)
tokens_sound_in sized strings (suc n) bytes ts f e = by_first sized strings bytes n ts (token_at strings bytes) f refl e (λ rest us g k. tokens_sound_in sized strings n rest us g k)

pub root_spelled : (sized : Bool) (strings bytes : List ℕ) (root : NodeData) → AreBytes bytes → tokens_at sized strings bytes ≡ tokens_of root ++ end ∷ [] → Spelling sized strings bytes (tokens_of root)
unfolding tokens_at
root_spelled sized strings bytes root f e = tokens_sound_in sized strings (suc (length bytes)) bytes (tokens_of root) f e

-- ---- what is spelled so is read

abbrev NoEnd : List Token → Type 0
NoEnd [] = Unit {0}
NoEnd (t ∷ ts) = (is_end t ≡ false) × NoEnd ts

no_end_append : (a b : List Token) → NoEnd a → NoEnd b → NoEnd (a ++ b)
no_end_append [] b h k = k
no_end_append (t ∷ a) b h k = (h.0, no_end_append a b (h.1) k)

no_end_properties : (ps : List Property) → NoEnd (property_tokens ps)
no_end_properties [] = tt
no_end_properties (p ∷ ps) = (refl, no_end_properties ps)

no_end_siblings : (f : Siblings) → NoEnd (sibling_tokens f)
no_end_siblings none = tt
no_end_siblings (more n p c rest) =
    (refl, no_end_append (property_tokens p) (sibling_tokens c ++ end_node ∷ sibling_tokens rest) (no_end_properties p) (no_end_append (sibling_tokens c) (end_node ∷ sibling_tokens rest) (no_end_siblings c) (refl, no_end_siblings rest)))

no_end_node : (root : NodeData) → NoEnd (tokens_of root)
no_end_node root =
    (refl, no_end_append (property_tokens root.properties) (sibling_tokens root.children ++ end_node ∷ []) (no_end_properties root.properties) (no_end_append (sibling_tokens root.children) (end_node ∷ []) (no_end_siblings root.children) (refl, tt)))

no_end_with : (ts : List Token) → NoEnd (without_nops ts) → NoEnd ts
no_end_with [] h = tt
no_end_with (nop ∷ ts) h = (refl, no_end_with ts h)
no_end_with (begin_node name ∷ ts) h = (refl, no_end_with ts (h.1))
no_end_with (end_node ∷ ts) h = (refl, no_end_with ts (h.1))
no_end_with (property name value ∷ ts) h = (refl, no_end_with ts (h.1))
no_end_with (end ∷ ts) h = absurd (let bad : true ≡ false = h.0 in cc)

left_none : (sized : Bool) (rest : List ℕ) → (sized ≡ true → rest ≡ []) → left sized rest ≡ []
left_none false rest w = refl
left_none true rest w = ap (left true) (w refl)

-- the first token of a front of the bytes
pub first_again : (strings first others front rest : List ℕ) (t : Token) → front ≡ first ++ others → SpellsToken strings t first → token_at strings (front ++ rest) ≡ Some (t, others ++ rest)
first_again strings first others front rest t e s =
    ap (λ (x : List ℕ). token_at strings (x ++ rest)) e ∙ ap (token_at strings) (append_assoc first others rest) ∙ token_again strings first (others ++ rest) t s

tokens_again_in : (sized : Bool) (strings : List ℕ) (us : List Token) (n : ℕ) (front rest : List ℕ) → NoEnd us → (sized ≡ true → rest ≡ []) → Spells strings (us ++ end ∷ []) front → length (front ++ rest) < n
    → tokens_in sized strings n (front ++ rest) ≡ without_nops us ++ end ∷ []
unfolding tokens_in
tokens_again_in sized strings us zero front rest e w s h = absurd (omega arith)
tokens_again_in sized strings [] (suc n) front rest e w s h =
    let one = first_again strings (s.0) (s.1) front rest end (s.2) (s.3) in
    rw (one, s.4) (ap (λ (x : List Token). end ∷ x) (left_none sized rest w))
tokens_again_in sized strings (t ∷ us) (suc n) front rest e w s h =
    let one = first_again strings (s.0) (s.1) front rest t (s.2) (s.3) in
    let less : length (s.1 ++ rest) < n = omega (arith, ap length (s.2), length-append (s.0) (s.1), length-append (s.1) rest, length-append front rest, token_long strings (s.0) t (s.3)) in
    let later = tokens_again_in sized strings us n (s.1) rest (e.1) w (s.4) less in
    rw one (by_kind t us (s.1 ++ rest) (tokens_in sized strings n (s.1 ++ rest)) (e.0) later) where
      by_kind : (t : Token) (us : List Token) (rest : List ℕ) (ts : List Token) → is_end t ≡ false → ts ≡ without_nops us ++ end ∷ [] → tokens_by sized (Some (t, rest)) (λ _. ts) ≡ without_nops (t ∷ us) ++ end ∷ []
      by_kind nop us rest ts e h = h
      by_kind end us rest ts e h = absurd (let bad : true ≡ false = e in cc)
      by_kind (begin_node name) us rest ts e h = ap (λ (x : List Token). begin_node name ∷ x) h
      by_kind end_node us rest ts e h = ap (λ (x : List Token). end_node ∷ x) h
      by_kind (property name value) us rest ts e h = ap (λ (x : List Token). property name value ∷ x) h

pub root_lexed : (sized : Bool) (strings front rest : List ℕ) (root : NodeData) → (sized ≡ true → rest ≡ []) → SpellsRoot strings root front → tokens_at sized strings (front ++ rest) ≡ tokens_of root ++ end ∷ []
unfolding tokens_at
root_lexed sized strings front rest root w s =
    tokens_again_in sized strings (s.0) (suc (length (front ++ rest))) front rest (no_end_with (s.0) (subst NoEnd (sym (s.2)) (no_end_node root))) w (s.1) (omega arith)
    ∙ ap (λ (x : List Token). x ++ end ∷ []) (s.2)
