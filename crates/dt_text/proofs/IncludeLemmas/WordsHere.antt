-- The words that name a file, one by one, and what stands at the front of a text.
use Rattle.std.proofs.Common.{◌≡◌, ℕ, zero, suc, ◌+◌, ◌<◌, ◌≤◌, Bool, true, false, eqb, nat_eq, List, [], ◌∷◌, length, take, drop, Option, Some, None, refl, sym, ap, subst, inl, inr, ◌∙◌, arith}
use Rattle.std.specs.Prelude.{◌≢◌, ◌&&◌, ◌||◌, codes}
use Rattle.std.specs.Cmp.Lexicographic.{as_long, pointwise}
use Rattle.std.proofs.lemmas.Bool.{eqb-true}
use Rattle.std.proofs.lemmas.List.{length-drop, length-take}
use denote.Ref.{Bor}
use Rattle.dt_text.specs.Lexeme.Bytes.{begins}
use Rattle.dt_text.specs.Lexeme.Fronts.{Front, closes, closes_character}
use Rattle.dt_text.specs.Lexeme.Gaps.{Gap, IsGap, NoGap, begins_comment, begins_plain_line, blank, comment, line, line_end, nothing}
use Rattle.dt_text.specs.declared.lexeme.language.Language.TheVariants.{Dtc}
use Rattle.dt_text.proofs.LexemeLemmas.GapEnds.{comment_shorter, gap_shorter, line_shorter, one_end}
use Rattle.dt_text.specs.Include.Bytes.{passes, run_of}
use Rattle.dt_text.specs.declared.include.bytes.Class.TheVariants.{Plain}
use Rattle.dt_text.specs.declared.include.words.Inclusion.{Inclusion}
use Rattle.dt_text.specs.declared.include.words.Next.{Next}
use Rattle.dt_text.specs.declared.include.words.Next.TheVariants as nexts
use Rattle.dt_text.specs.declared.lexeme.lexeme.Kind.{Kind}
use Rattle.dt_text.specs.Lexeme.Families.{IsLongest, slashed}
use Rattle.dt_text.specs.Include.Private.Included.{BinaryAt, IsNext, IsOpenEnd, QuotedAt}
use Rattle.dt_text.specs.Include.Words.{Bracketed, IsOpen, MayEnd, NamesFile, Passes, Quoted, Sign, begins_incbin, begins_include, begins_line_comment, begins_quote, begins_remark, byte, character, is_quote, nameless, remark, slash, string}
use Rattle.dt_text.specs.Include.Words as words
use Rattle.dt_text.proofs.IncludeLemmas.Runs.{run_no, run_yes}

-- ---- one word

pub no_sign : (c : ℕ) (s left : List ℕ) → IsGap Dtc s left → begins c left ≡ false → (t : List ℕ) → Sign c s t → ⊥
no_sign c s left h e t k = cc (ap (begins c) (one_end Dtc s left k.start h k.gap), e, k.sign)

pub no_quote : (s left : List ℕ) → IsGap Dtc s left → begins 34 left ≡ false → (name t : List ℕ) → Quoted s name t → ⊥
no_quote s left h e name t k = cc (ap (begins 34) (one_end Dtc s left k.start h k.gap), e, k.quote)

pub no_end : (s left : List ℕ) → IsGap Dtc s left → Front (closes 34 true) left None → (name t : List ℕ) → Quoted s name t → ⊥
no_end s left h f name t k =
    let g = subst (λ (u : List ℕ). Front (closes 34 true) u None) (one_end Dtc s left k.start h k.gap) f in
    cc (g k.len k.string.within, k.string.is)

one_sign : (c : ℕ) (s t u : List ℕ) → Sign c s t → Sign c s u → t ≡ u
one_sign c s t u h k = h.rest_is ∙ ap (drop 1) (one_end Dtc s h.start k.start h.gap k.gap) ∙ sym k.rest_is

pub no_bracket : (s : List ℕ) → ((t : List ℕ) → Sign 40 s t → ⊥) → (name t : List ℕ) → Bracketed s name t → ⊥
no_bracket s missing name t k = missing k.inside k.open_sign

pub no_name : (s a : List ℕ) → Sign 40 s a → ((name t : List ℕ) → Quoted a name t → ⊥) → (name t : List ℕ) → Bracketed s name t → ⊥
no_name s a open_sign missing name t k = missing name t (subst (λ (v : List ℕ). Quoted v name t) (one_sign 40 s k.inside a k.open_sign open_sign) k.quoted)

pub bracketed_at : (s a rest : List ℕ) (name : Option (Bor (List ℕ))) → Sign 40 s a → QuotedAt a name rest → BinaryAt s name rest
bracketed_at s a rest None open_sign missing = no_name s a open_sign missing
bracketed_at s a rest (Some name) open_sign quoted = record { inside = a; open_sign = open_sign; quoted = quoted }

-- ---- what stands at the front of a text

-- Bytes are passed.
abbrev pub IsPassed : List ℕ → List ℕ → Type 0
IsPassed s rest = (length rest < length s) × ((t : List ℕ) → Passes rest t → Passes s t)

none_of : (a b : Bool) → a ≡ false → b ≡ false → (a || b) ≡ false
none_of a b e f = rw (e, f) refl

no_front : closes 34 true [] ≡ false
unfolding closes
no_front = refl

quoted_some : (s : List ℕ) (n : ℕ) → Front (closes 34 true) s (Some n) → 0 < n
quoted_some s zero h = absurd (cc (h.is, no_front))
quoted_some s (suc n) h = omega arith

pub string_passed : (s rest : List ℕ) (n : ℕ) → begins 34 s ≡ true → Front (closes 34 true) s (Some n) → rest ≡ drop n s → IsPassed s rest
string_passed s rest n b f is =
    (omega (arith, quoted_some s n f, f.within, ap length is, length-drop n s), λ t h. string n b f (subst (λ (u : List ℕ). Passes u t) is h))

begun_some : (c : ℕ) (s : List ℕ) → begins c s ≡ true → 1 ≤ length s
begun_some c [] e = absurd (cc e)
begun_some c (d ∷ s) e = omega arith

pub character_passed : (s rest : List ℕ) (n : ℕ) → begins 39 s ≡ true → Front (closes_character false) (drop 1 s) (Some n) → rest ≡ drop (n + 1) s → IsPassed s rest
character_passed s rest n b f is =
    (omega (arith, begun_some 39 s b, ap length is, length-drop (n + 1) s), λ t h. character n b f (subst (λ (u : List ℕ). Passes u t) is h))

-- ---- comments

remark_long : (s : List ℕ) → begins_remark s ≡ true → 2 ≤ length s
remark_long [] e = absurd (cc e)
remark_long (c ∷ []) e = absurd (cc e)
remark_long (c ∷ d ∷ s) e = omega arith

line_is_plain : (s : List ℕ) → begins_line_comment s ≡ true → begins_plain_line s ≡ true
line_is_plain [] e = absurd (cc e)
line_is_plain (c ∷ []) e = absurd (cc e)
line_is_plain (c ∷ d ∷ s) e = rw e refl

or_true : (a b : Bool) → a ≡ true → (a || b) ≡ true
or_true true b e = refl
or_true false b e = absurd (cc e)

-- a comment is no lexeme
some_gap : (s : List ℕ) → begins_remark s ≡ true → NoGap Dtc s → ⊥
some_gap s e n = by (begins_comment s) refl
  where
    by : (b : Bool) → begins_comment s ≡ b → ⊥
    by true f = cc (n.comment, f)
    by false f =
        let g : begins_line_comment s ≡ true = rw f at e in
        cc (or_true (begins_plain_line s) _ (line_is_plain s g), n.line)

gap_strict : (s t : List ℕ) → begins_remark s ≡ true → IsGap Dtc s t → length t < length s
gap_strict s t e h = go s t e h.gap h.over
  where
    go : (s t : List ℕ) → begins_remark s ≡ true → Gap Dtc s t → NoGap Dtc t → length t < length s
    go s t e nothing n = absurd (some_gap s e n)
    go s t e (blank b g) n = omega (arith, remark_long s e, gap_shorter Dtc (drop 1 s) t (record { gap = g; over = n }), length-drop 1 s)
    go s t e (line b g) n = omega (arith, remark_long s e, gap_shorter Dtc (line_end (drop 2 s)) t (record { gap = g; over = n }), line_shorter (drop 2 s), length-drop 2 s)
    go s t e (comment {m = m} b c g) n = omega (arith, remark_long s e, gap_shorter Dtc m t (record { gap = g; over = n }), comment_shorter (drop 2 s) m c, length-drop 2 s)

pub remark_passed : (s rest : List ℕ) → begins_remark s ≡ true → IsGap Dtc s rest → IsPassed s rest
remark_passed s rest e g = (gap_strict s rest e g, λ t h. remark rest e g h)

-- ---- a slash, and bytes that begin nothing

slash_some : (s : List ℕ) → begins 47 s ≡ true → 1 ≤ length s
slash_some [] e = absurd (cc e)
slash_some (c ∷ s) e = omega arith

pub slash_passed : (s rest : List ℕ) (kind : Kind) (n : ℕ) → begins 47 s ≡ true → begins_remark s ≡ false → begins_include s ≡ false → begins_incbin s ≡ false
    → IsLongest (slashed Dtc) (drop 1 s) kind n → rest ≡ drop (n + 1) s → IsPassed s rest
slash_passed s rest kind n b r i j k is = (
  omega (arith, slash_some s b, ap length is, length-drop (n + 1) s),
  λ t h. slash kind n b (rw (r, i, j) refl) k (subst (λ (u : List ℕ). Passes u t) is h),
)

pub nameless_passed : (s inside rest : List ℕ) → begins_incbin s ≡ true → inside ≡ drop 8 s → ((name t : List ℕ) → Bracketed inside name t → ⊥) → rest ≡ drop 8 s → IsPassed s rest
nameless_passed s inside rest e inside_is missing is = (
  omega (arith, as_long nat_eq (take 8 s) (codes "/incbin/") e, length-take 8 s, ap length is, length-drop 8 s),
  λ t h. nameless (e, λ name u k. missing name u (subst (λ (v : List ℕ). Bracketed v name u) (sym inside_is) k)) (subst (λ (u : List ℕ). Passes u t) is h),
)

other_quote : (c : ℕ) → eqb c 34 ≡ false → eqb c 39 ≡ false → is_quote c ≡ false
other_quote c e f = rw (e, f) refl

other_byte : (c : ℕ) (s t : List ℕ) → eqb c 34 ≡ false → eqb c 39 ≡ false → eqb c 47 ≡ false → Passes s t → Passes (c ∷ s) t
other_byte c s t e f g h = byte (none_of (begins_quote (c ∷ s)) (begins 47 (c ∷ s)) (other_quote c e f) g) h

run_passes : (s t : List ℕ) → Passes (drop (run_of Plain s) s) t → Passes s t
run_passes [] t h = h
run_passes (c ∷ s) t h = go (eqb c 34) refl (eqb c 39) refl (eqb c 47) refl (run_passes s t) h
  where
    stays : passes Plain c ≡ false → Passes (drop (run_of Plain (c ∷ s)) (c ∷ s)) t → Passes (c ∷ s) t
    stays e h = subst (λ (n : ℕ). Passes (drop n (c ∷ s)) t) (run_no (passes Plain) c s e) h

    go : (x : Bool) → eqb c 34 ≡ x → (y : Bool) → eqb c 39 ≡ y → (z : Bool) → eqb c 47 ≡ z → (Passes (drop (run_of Plain s) s) t → Passes s t) → Passes (drop (run_of Plain (c ∷ s)) (c ∷ s)) t
        → Passes (c ∷ s) t
    go true e y f z g next h = stays (rw e refl) h
    go false e true f z g next h = stays (rw (e, f) refl) h
    go false e false f true g next h = stays (rw (e, f, g) refl) h
    go false e false f false g next h =
        other_byte c s t e f g (next (subst (λ (n : ℕ). Passes (drop n (c ∷ s)) t) (run_yes (passes Plain) c s (rw (e, f, g) refl)) h))

run_some : (s : List ℕ) → s ≢ [] → begins 34 s ≡ false → begins 39 s ≡ false → begins 47 s ≡ false → (0 < run_of Plain s) × (0 < length s)
run_some [] some e f g = absurd (some refl)
run_some (c ∷ s) some e f g = (omega (arith, run_yes (passes Plain) c s (rw (e, f, g) refl)), omega arith)

pub run_passed : (s rest : List ℕ) (n : ℕ) → s ≢ [] → begins 34 s ≡ false → begins 39 s ≡ false → begins 47 s ≡ false → n ≡ run_of Plain s → rest ≡ drop n s → IsPassed s rest
run_passed s rest n some e f g run is =
    let k = run_some s some e f g in (
      omega (arith, k.0, k.1, run, ap length is, length-drop n s),
      λ t h. run_passes s t (subst (λ (m : ℕ). Passes (drop m s) t) run (subst (λ (u : List ℕ). Passes u t) is h)),
    )

-- ---- what is next

pub words_next : (s left from rest : List ℕ) (i : Inclusion) → ((t : List ℕ) → Passes left t → Passes s t) → from ≡ left → NamesFile left i rest → Passes s from × NamesFile from i rest
words_next s left from rest i inv e h = (subst (Passes s) (sym e) (inv left words.nothing), subst (λ (u : List ℕ). NamesFile u i rest) (sym e) h)

-- the text ends
pub end_next : (nested : Bool) (s left : List ℕ) → Passes s left → left ≡ [] → MayEnd nested s
end_next true s left h e = subst (Passes s) e h
end_next false s left h e = (left, h, inl e)

-- the text ends in what is open
pub open_next : (nested : Bool) (s left : List ℕ) (next : Next) → Passes s left → IsOpen left → IsOpenEnd nested next → IsNext nested s next
open_next nested s left (nexts.Words inclusion stand) h o e = absurd e
open_next nested s left (nexts.Broken stand) h o e = (left, h, inr (e, o))
open_next nested s left nexts.Nothing h o e = subst (λ (b : Bool). MayEnd b s) (sym e) (left, h, inr o)

pub empty_is : (s : List ℕ) → true ≡ eqb (length s) 0 → s ≡ []
empty_is [] e = refl
empty_is (c ∷ s) e = absurd (omega (arith, eqb-true (length (c ∷ s)) 0 (sym e)))
