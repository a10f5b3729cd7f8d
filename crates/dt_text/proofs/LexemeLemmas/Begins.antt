-- The longest lexeme of each family.
use Rattle.std.proofs.Common.{◌≡◌, ℕ, zero, suc, ◌+◌, ◌<◌, ◌≤◌, Bool, true, false, eqb, List, [], ◌∷◌, length, take, drop, get_or, Option, Some, None, refl, sym, ap, subst, ◌∙◌, arith, inl, inr}
use Rattle.std.specs.Prelude.{◌&&◌, ◌||◌, not, codes, nat_eq}
use Rattle.std.specs.List.{list_all}
use Rattle.std.specs.Cmp.Lexicographic.{pointwise, same_text}
use Rattle.std.proofs.lemmas.Bool.{eqb-true, cases_eq, cases_lt, and_left}
use Rattle.dt_text.specs.declared.lexeme.lexeme.Kind.{Kind}
use Rattle.dt_text.specs.declared.lexeme.lexeme.Kind.TheVariants.{Label, Name, Literal, Reference, PathReference, Pair, Slash, And}
use Rattle.dt_text.specs.declared.lexeme.bytes.Class.TheVariants as classes
use Rattle.dt_text.specs.declared.lexeme.language.Language.{Language}
use Rattle.dt_text.specs.declared.lexeme.language.Language.TheVariants.{Profile, Dtc}
use Rattle.dt_text.specs.declared.lexeme.context.Context.{Context}
use Rattle.dt_text.specs.declared.lexeme.families.First.{First}
use Rattle.dt_text.specs.declared.lexeme.families.First.TheVariants as firsts
use Rattle.dt_text.specs.Lexeme.Bytes.{is_word, is_name, is_letter, is_hex, begins, begins_letter}
use Rattle.dt_text.specs.Lexeme.Fronts.{Front, IsFront, ends, ends_label, ends_word, labels, names, words, paths, numbers, hexed, one_hex}
use Rattle.dt_text.specs.Lexeme.Families.{Longest, IsLongest, given, alone, keyword, dtc_keyword, keyword_in, slashed, operated, second_of, and_alone, ampersand, label_or, kind_by, kind_of, first_at}
use Rattle.dt_text.proofs.LexemeLemmas.Runs.{kind_more, kind_none, all_fails, and_first, ends_at, ends_once}

-- ---- a byte in front

-- nothing longer than no byte
pub kind_empty : (f g : List ℕ → Option Kind) (c : ℕ) (t : List ℕ) (k : Kind) → f [] ≡ Some k → ((u : List ℕ) → f (c ∷ u) ≡ g u) → Longest g t None → IsLongest f (c ∷ t) k 0
kind_empty f g c t k empty same h = record { within = omega arith; is = empty; longest = go }
  where
    go : (m : ℕ) → 0 < m → m ≤ length (c ∷ t) → f (take m (c ∷ t)) ≡ None
    go zero lt le = absurd (omega arith)
    go (suc m) lt le = same (take m t) ∙ h m (omega arith)

pub given_longest : (k : Kind) (b : List ℕ → Bool) (s : List ℕ) (n : ℕ) → IsFront b s n → IsLongest (given k b) s k n
given_longest k b s n h = record { within = h.within; is = rw (h.is) refl; longest = λ m lt le. rw (h.longest m lt le) refl }

pub given_none : (k : Kind) (b : List ℕ → Bool) (s : List ℕ) → Front b s None → Longest (given k b) s None
given_none k b s h = λ m le. rw (h m le) refl

pub alone_kind : (k : Kind) (s : List ℕ) → IsLongest (alone k) s k 0
alone_kind k s = record { within = omega arith; is = refl; longest = go s }
  where
    go : (s : List ℕ) (m : ℕ) → 0 < m → m ≤ length s → alone k (take m s) ≡ None
    go s zero lt le = absurd (omega arith)
    go [] (suc m) lt le = absurd (omega arith)
    go (c ∷ s) (suc m) lt le = refl

-- ---- keywords

-- A keyword ends in its only slash.
keyword_ends : (s : List ℕ) → (keyword s ≡ None → ⊥) → ends_word s ≡ true
unfolding ends
keyword_ends s h = go (pointwise nat_eq s (codes "dts-v1/")) refl (pointwise nat_eq s (codes "plugin/")) refl (pointwise nat_eq s (codes "memreserve/")) refl (pointwise nat_eq s (codes "bits/")) refl (pointwise nat_eq s (codes "delete-node/")) refl (pointwise nat_eq s (codes "delete-property/")) refl
  where
    as_text : (w : List ℕ) → pointwise nat_eq s w ≡ true → ends_word w ≡ true → ends_word s ≡ true
    as_text w e f = ap ends_word (same_text s w (sym e)) ∙ f

    go : (a : Bool) → pointwise nat_eq s (codes "dts-v1/") ≡ a → (b : Bool) → pointwise nat_eq s (codes "plugin/") ≡ b → (c : Bool) → pointwise nat_eq s (codes "memreserve/") ≡ c → (d : Bool) → pointwise nat_eq s (codes "bits/") ≡ d → (e : Bool) → pointwise nat_eq s (codes "delete-node/") ≡ e → (f : Bool) → pointwise nat_eq s (codes "delete-property/") ≡ f → ends_word s ≡ true
    go true p b q c r d t e u f v = as_text (codes "dts-v1/") p refl
    go false p true q c r d t e u f v = as_text (codes "plugin/") q refl
    go false p false q true r d t e u f v = as_text (codes "memreserve/") r refl
    go false p false q false r true t e u f v = as_text (codes "bits/") t refl
    go false p false q false r false t true u f v = as_text (codes "delete-node/") u refl
    go false p false q false r false t false u true v = as_text (codes "delete-property/") v refl
    go false p false q false r false t false u false v = absurd (h (rw (p, q, r, t, u, v) refl))

dtc_keyword_ends : (s : List ℕ) → (dtc_keyword s ≡ None → ⊥) → ends_word s ≡ true
unfolding ends
dtc_keyword_ends s h = go (pointwise nat_eq s (codes "omit-if-no-ref/")) refl (pointwise nat_eq s (codes "incbin/")) refl
  where
    as_text : (w : List ℕ) → pointwise nat_eq s w ≡ true → ends_word w ≡ true → ends_word s ≡ true
    as_text w e f = ap ends_word (same_text s w (sym e)) ∙ f

    go : (a : Bool) → pointwise nat_eq s (codes "omit-if-no-ref/") ≡ a → (b : Bool) → pointwise nat_eq s (codes "incbin/") ≡ b → ends_word s ≡ true
    go true p b q = as_text (codes "omit-if-no-ref/") p refl
    go false p true q = as_text (codes "incbin/") q refl
    go false p false q = absurd (h (rw (p, q) refl))

no_plain_keyword : (s : List ℕ) → ends_word s ≡ false → keyword s ≡ None
no_plain_keyword s e = go (keyword s) refl
  where
    go : (o : Option Kind) → keyword s ≡ o → keyword s ≡ None
    go None f = f
    go (Some k) f = absurd (cc (keyword_ends s (λ g. cc (g, f))))

no_dtc_keyword : (s : List ℕ) → ends_word s ≡ false → dtc_keyword s ≡ None
no_dtc_keyword s e = go (dtc_keyword s) refl
  where
    go : (o : Option Kind) → dtc_keyword s ≡ o → dtc_keyword s ≡ None
    go None f = f
    go (Some k) f = absurd (cc (dtc_keyword_ends s (λ g. cc (g, f))))

no_keyword : (language : Language) (s : List ℕ) → ends_word s ≡ false → keyword_in language s ≡ None
no_keyword Profile s e = rw (no_plain_keyword s e) refl
no_keyword Dtc s e = rw (no_plain_keyword s e) (no_dtc_keyword s e)

slashed_empty : (language : Language) → slashed language [] ≡ Some Slash
unfolding slashed
slashed_empty Profile = refl
slashed_empty Dtc = refl

module _ (language : Language) where
  slash_at : (s : List ℕ) (m : ℕ) → keyword_in language (take m s) ≡ None → 0 < m → m ≤ length s → slashed language (take m s) ≡ None
  unfolding slashed
  slash_at s m e lt le = rw e ((alone_kind Slash s).longest m lt le)

  pub keyword_kind : (s : List ℕ) (n : ℕ) (k : Kind) → IsFront ends_word s n → keyword_in language (take n s) ≡ Some k → IsLongest (slashed language) s k n
  unfolding slashed
  keyword_kind s n k h e = record { within = h.within; is = rw e refl; longest = λ m lt le. slash_at s m (no_keyword language (take m s) (h.longest m lt le)) (omega arith) le }

  slash_alone : (s : List ℕ) → ((m : ℕ) → m ≤ length s → keyword_in language (take m s) ≡ None) → IsLongest (slashed language) s Slash 0
  unfolding slashed
  slash_alone s h = record { within = omega arith; is = slashed_empty language; longest = λ m lt le. slash_at s m (h m le) lt le }

  pub slash_kind : (s : List ℕ) (n : ℕ) → IsFront ends_word s n → keyword_in language (take n s) ≡ None → IsLongest (slashed language) s Slash 0
  slash_kind s n h e = slash_alone s go
    where
      shorter : (m : ℕ) → m < n → (b : Bool) → ends_word (take m s) ≡ b → ends_word (take m s) ≡ false
      shorter m lt true f = absurd (cc (ends_once (λ c. not (eqb c 47)) (λ c. eqb c 47) s m n f lt h.within, h.is))
      shorter m lt false f = f

      go : (m : ℕ) → m ≤ length s → keyword_in language (take m s) ≡ None
      go m le = elim (cases_lt n m) [
        | inl lt ↦ no_keyword language (take m s) (h.longest m lt le)
        | inr le' ↦ elim (cases_eq m n) [
          | inl k ↦ rw k e
          | inr k ↦ no_keyword language (take m s) (shorter m (omega arith) (ends_word (take m s)) refl)
        ]
      ]

  pub slash_only : (s : List ℕ) → Front ends_word s None → IsLongest (slashed language) s Slash 0
  slash_only s h = slash_alone s (λ m le. no_keyword language (take m s) (h m le))

-- ---- operators

operated_more : (k : Kind) (s : List ℕ) (m : ℕ) → 1 < m → m ≤ length s → operated k (take m s) ≡ None
operated_more k s zero lt le = absurd (omega arith)
operated_more k s (suc zero) lt le = absurd (omega arith)
operated_more k [] (suc (suc m)) lt le = absurd (omega arith)
operated_more k (c ∷ []) (suc (suc m)) lt le = absurd (omega arith)
operated_more k (c ∷ d ∷ s) (suc (suc m)) lt le = refl

pub operated_two : (k two : Kind) (s : List ℕ) → 1 ≤ length s → second_of k (get_or s 0 0) ≡ Some two → IsLongest (operated k) s two 1
operated_two k two [] le e = absurd (omega arith)
operated_two k two (c ∷ s) le e = record { within = omega arith; is = e; longest = λ m lt le. operated_more k (c ∷ s) m lt le }

-- ---- references

module _ (language : Language) where
  amp_path : (inside : Bool) (c : ℕ) (u : List ℕ) → eqb c 123 ≡ true → ampersand language inside (c ∷ u) ≡ given PathReference (paths language) u
  amp_path inside c u e = rw e refl

  pub path_kind : (inside : Bool) (s : List ℕ) (n : ℕ) → begins 123 s ≡ true → IsFront (paths language) (drop 1 s) n → IsLongest (ampersand language inside) s PathReference (n + 1)
  path_kind inside [] n e h = absurd cc
  path_kind inside (c ∷ s) n e h = kind_more (ampersand language inside) (given PathReference (paths language)) c s PathReference n (λ u. amp_path inside c u e) (given_longest PathReference (paths language) s n h)

  -- where nothing longer than the ampersand is one
  amp_or_none : (inside : Bool) (g : List ℕ → Option Kind) (c : ℕ) (s : List ℕ) → ((u : List ℕ) → ampersand language inside (c ∷ u) ≡ g u) → Longest g s None → Longest (ampersand language inside) (c ∷ s) (and_alone inside)
  amp_or_none true g c s same h = kind_empty (ampersand language true) g c s And refl same h
  amp_or_none false g c s same h = kind_none (ampersand language false) g c s refl same h

  pub path_other : (inside : Bool) (s : List ℕ) → begins 123 s ≡ true → Front (paths language) (drop 1 s) None → Longest (ampersand language inside) s (and_alone inside)
  path_other inside [] e h = absurd cc
  path_other inside (c ∷ s) e h = amp_or_none inside (given PathReference (paths language)) c s (λ u. amp_path inside c u e) (given_none PathReference (paths language) s h)

  amp_letter : (inside : Bool) (c : ℕ) (u : List ℕ) → eqb c 123 ≡ false → is_letter c ≡ true → ampersand language inside (c ∷ u) ≡ given Reference words u
  amp_letter inside c u e f = rw (e, f) refl

  pub reference_kind : (inside : Bool) (s : List ℕ) (n : ℕ) → begins 123 s ≡ false → begins_letter s ≡ true → IsFront words (drop 1 s) n → IsLongest (ampersand language inside) s Reference (n + 1)
  reference_kind inside [] n e f h = absurd cc
  reference_kind inside (c ∷ s) n e f h = kind_more (ampersand language inside) (given Reference words) c s Reference n (λ u. amp_letter inside c u e f) (given_longest Reference words s n h)

  amp_nothing : (inside : Bool) (c : ℕ) (u : List ℕ) → eqb c 123 ≡ false → is_letter c ≡ false → eqb c 38 ≡ false → ampersand language inside (c ∷ u) ≡ None
  amp_nothing true c u e f g = rw (e, f, g) refl
  amp_nothing false c u e f g = rw (e, f) refl

  empty : (m : ℕ) → m ≤ 0 → ampersand language false (take m []) ≡ None
  empty zero le = refl
  empty (suc m) le = absurd (omega arith)

  pub and_kind : (inside : Bool) (s : List ℕ) → begins 123 s ≡ false → begins 38 s ≡ false → begins_letter s ≡ false → Longest (ampersand language inside) s (and_alone inside)
  and_kind true [] e f g = record { within = omega arith; is = refl; longest = λ m lt le. absurd (omega arith) }
  and_kind false [] e f g = empty
  and_kind inside (c ∷ s) e f g = amp_or_none inside (λ u. None) c s (λ u. amp_nothing inside c u e g f) (λ m le. refl)

-- ---- literals

no_digit_x : (c : ℕ) (u : List ℕ) → (eqb c 120 || eqb c 88) ≡ true → numbers classes.Digit (c ∷ u) ≡ false
unfolding numbers
no_digit_x c u e = go (eqb c 120) refl (eqb c 88) refl
  where
    go : (a : Bool) → eqb c 120 ≡ a → (b : Bool) → eqb c 88 ≡ b → numbers classes.Digit (c ∷ u) ≡ false
    go true f b g = let k : c ≡ 120 = eqb-true c 120 f in rw k refl
    go false f true g = let k : c ≡ 88 = eqb-true c 88 g in rw k refl
    go false f false g = let k : (eqb c 120 || eqb c 88) ≡ false = rw (f, g) refl in absurd cc

pub hex_kind : (s : List ℕ) (n : ℕ) → IsFront hexed s n → IsLongest (kind_by firsts.Zero) s Literal n
hex_kind s n h = record { within = h.within; is = rw (h.is) refl; longest = λ m lt le. rw (h.longest m lt le, none s n m h.is h.within lt) refl }
  where
    none : (s : List ℕ) (n m : ℕ) → hexed (take n s) ≡ true → n ≤ length s → n < m → numbers classes.Digit (take m s) ≡ false
    none s zero m e w lt = absurd cc
    none [] (suc n) m e w lt = absurd (omega arith)
    none (c ∷ s) (suc n) zero e w lt = absurd (omega arith)
    none (c ∷ s) (suc n) (suc m) e w lt = no_digit_x c (take m s) (and_first _ _ e)

-- ---- labels, or else

label_long : (s : List ℕ) (n : ℕ) → IsFront labels s n → ends_label (take n s) ≡ true
label_long s n h = and_first _ _ h.is

label_else : (other : List ℕ → Option Kind) (s : List ℕ) (n : ℕ) → IsFront labels s n → ((m : ℕ) → n < m → m ≤ length s → other (take m s) ≡ None) → IsLongest (label_or other) s Label n
label_else other s n h none = record { within = h.within; is = rw (h.is) refl; longest = λ m lt le. rw (h.longest m lt le) (none m lt le) }

colon_is_no_name : (c : ℕ) → eqb c 58 ≡ true → is_name c ≡ false
colon_is_no_name c e = ap is_name (eqb-true c 58 e)

pub label_kind : (s : List ℕ) (n : ℕ) → IsFront labels s n → IsLongest (kind_by firsts.Letter) s Label n
label_kind s n h = label_else (given Name names) s n h go
  where
    go : (m : ℕ) → n < m → m ≤ length s → given Name names (take m s) ≡ None
    go m lt le =
        let at = ends_at is_word (λ c. eqb c 58) s n h.within (label_long s n h) in
        let k : list_all is_name (take m s) ≡ false = all_fails is_name s at.0 (omega (arith, at.1, h.within)) (colon_is_no_name _ at.2) m (omega (arith, at.1)) in
        rw (and_left (list_all is_name (take m s)) _ k) refl

pub no_label_kind : (s : List ℕ) (n : ℕ) → Front labels s None → IsFront names s n → IsLongest (kind_by firsts.Letter) s Name n
no_label_kind s n none h = record { within = h.within; is = rw (none n h.within, h.is) refl; longest = λ m lt le. rw (none m le, h.longest m lt le) refl }

pair_short : (s : List ℕ) (m : ℕ) → 1 < m → m ≤ length s → given Pair one_hex (take m s) ≡ None
pair_short s zero lt le = absurd (omega arith)
pair_short s (suc zero) lt le = absurd (omega arith)
pair_short [] (suc (suc m)) lt le = absurd (omega arith)
pair_short (c ∷ []) (suc (suc m)) lt le = absurd (omega arith)
pair_short (c ∷ d ∷ s) (suc (suc m)) lt le = rw (right (is_hex c)) refl
  where
    right : (a : Bool) → (a && false) ≡ false
    right true = refl
    right false = refl

pub hex_label_kind : (s : List ℕ) (n : ℕ) → IsFront labels s n → IsLongest (kind_by firsts.HexLetter) s Label n
hex_label_kind s n h = label_else (given Pair one_hex) s n h (λ m lt le. pair_short s m (omega (arith, at.1)) le)
  where
    at : (i : ℕ) × (n ≡ suc i) × (eqb (get_or s i 0) 58 ≡ true)
    at = ends_at is_word (λ c. eqb c 58) s n h.within (label_long s n h)

-- ---- behind the first byte

pub split_front : (s : List ℕ) → 1 ≤ length s → s ≡ get_or s 0 0 ∷ drop 1 s
split_front [] le = absurd (omega arith)
split_front (c ∷ s) le = refl

next_some : (context : Context) (c : ℕ) (s : List ℕ) (k : Kind) (n : ℕ) → IsLongest (kind_by (first_at context c)) s k n → IsLongest (kind_of context) (c ∷ s) k (n + 1)
unfolding kind_of
next_some context c s k n h = kind_more (kind_of context) (kind_by (first_at context c)) c s k n (λ u. refl) h

next_none : (context : Context) (c : ℕ) (s : List ℕ) → Longest (kind_by (first_at context c)) s None → Longest (kind_of context) (c ∷ s) None
unfolding kind_of
next_none context c s h = kind_none (kind_of context) (kind_by (first_at context c)) c s refl (λ u. refl) h

pub next_empty : (context : Context) (s : List ℕ) → length s < 1 → Longest (kind_of context) s None
unfolding kind_of
next_empty context [] lt zero le = refl
next_empty context [] lt (suc m) le = refl
next_empty context (c ∷ s) lt m le = absurd (omega arith)

pub next_found : (context : Context) (s t : List ℕ) (f : First) (k : Kind) (n : ℕ) → 1 ≤ length s → f ≡ first_at context (get_or s 0 0) → t ≡ drop 1 s → IsLongest (kind_by f) t k n → IsLongest (kind_of context) s k (n + 1)
next_found context s t f k n le e d h =
    subst (λ (t : List ℕ). IsLongest (kind_of context) t k (n + 1)) (sym (split_front s le)) (next_some context (get_or s 0 0) (drop 1 s) k n (subst (λ (u : List ℕ). IsLongest (kind_by (first_at context (get_or s 0 0))) u k n) d (subst (λ (g : First). IsLongest (kind_by g) t k n) e h)))

pub next_lost : (context : Context) (s t : List ℕ) (f : First) → 1 ≤ length s → f ≡ first_at context (get_or s 0 0) → t ≡ drop 1 s → Longest (kind_by f) t None → Longest (kind_of context) s None
next_lost context s t f le e d h =
    subst (λ (t : List ℕ). Longest (kind_of context) t None) (sym (split_front s le)) (next_none context (get_or s 0 0) (drop 1 s) (subst (λ (u : List ℕ). Longest (kind_by (first_at context (get_or s 0 0))) u None) d (subst (λ (g : First). Longest (kind_by g) t None) e h)))
