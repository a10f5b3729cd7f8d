-- The bytes of each lexeme have its kind's form.
use Rattle.std.proofs.Common.{◌≡◌, ℕ, ◌+◌, ◌-◌, ◌≤◌, Bool, true, false, cond, eqb, List, [], ◌∷◌, length, take, drop, Option, Some, None, refl, subst, arith}
use Rattle.std.specs.Prelude.{◌&&◌, nat_eq, nat_lt, codes, slice_range, IsTrue}
use Rattle.std.specs.Cmp.Lexicographic.{pointwise}
use Rattle.std.proofs.lemmas.List.{take_all, length-take-le}
use Rattle.dt_tree.specs.Name as tree
use Rattle.dt_tree.specs.Path.{is_path}
use Rattle.dt_text.specs.declared.lexeme.lexeme.Lexeme.{Lexeme}
use Rattle.dt_text.specs.declared.lexeme.lexeme.Kind.{Kind}
use Rattle.dt_text.specs.declared.lexeme.lexeme.Kind.TheVariants.{Version, Plugin, MemReserve, Bits, DeleteNode, DeleteProperty, OmitIfNoRef, IncludeBinary, Label, Name, Literal, Text, Character, Reference, PathReference, Pair, Semicolon, Brace, EndBrace, Equals, Comma, Less, Greater, Square, EndSquare, Paren, EndParen, Slash, Question, Colon, OrOr, AndAnd, Or, Xor, And, EqualEqual, NotEqual, LessEqual, GreaterEqual, ShiftLeft, ShiftRight, Plus, Minus, Star, Percent, Tilde, Bang}
use Rattle.dt_text.specs.declared.lexeme.bytes.Class.TheVariants as classes
use Rattle.dt_text.specs.declared.lexeme.language.Language.{Language}
use Rattle.dt_text.specs.declared.lexeme.language.Language.TheVariants.{Profile, Dtc}
use Rattle.dt_text.specs.declared.lexeme.context.Mode.{Mode}
use Rattle.dt_text.specs.declared.lexeme.context.Mode.TheVariants as modes
use Rattle.dt_text.specs.declared.lexeme.context.Context.{Context}
use Rattle.dt_text.specs.declared.lexeme.families.First.{First}
use Rattle.dt_text.specs.declared.lexeme.families.First.TheVariants as firsts
use Rattle.dt_text.specs.Lexeme.Bytes.{is_letter, is_name, is_hex, is_digit}
use Rattle.dt_text.specs.Lexeme.Fronts.{strings, closes_character, labels, names, words, paths, path_of, numbers, hexed, one_hex}
use Rattle.dt_text.specs.Lexeme.Label.{IsLabel}
use Rattle.dt_text.specs.Lexeme.Forms.{FormAt, AllLawful}
use Rattle.dt_text.specs.Lexeme.Families.{IsLongest, punctuation, operator, second_of, single_operator, single_by, first_in, first_at, alone, keyword, dtc_keyword, more_keywords, keyword_in, is_dtc, or_kind, slashed, operated, ampersand, kind_by, kind_of}
use Rattle.dt_text.specs.Lexeme.Contexts.{start, step}
use Rattle.dt_text.specs.Lexeme.Lexemes.{Left, Lexemes}
use Rattle.dt_text.proofs.LexemeLemmas.Scanning.{some_byte}
use Rattle.dt_text.proofs.LexemeLemmas.Tails.{EndsIn, ends_self, ends_drop, ends_on, ends_at, gap_ends, cut}
use Rattle.dt_text.proofs.LexemeLemmas.NameForms.{first_and_name, reference_label, label_before_colon, letter_name}
use Rattle.dt_text.proofs.LexemeLemmas.PathForms.{path_before_brace}

-- ---- what these bytes are, if they are one lexeme

abbrev FormedBy : Option Kind → List ℕ → Type 0
FormedBy None bs = Unit {0}
FormedBy (Some k) bs = FormAt k bs 0 (length bs)

either : (b : Bool) (o p : Option Kind) (bs : List ℕ) → (b ≡ true → FormedBy o bs) → (b ≡ false → FormedBy p bs) → FormedBy (cond b o p) bs
either true o p bs h g = h refl
either false o p bs h g = g refl

given_formed : (b : Bool) (k : Kind) (bs : List ℕ) → (b ≡ true → FormAt k bs 0 (length bs)) → FormedBy (cond b (Some k) None) bs
given_formed b k bs h = either b (Some k) None bs h (λ e. tt)

-- a kind that needs no form, or else
pick : (b : Bool) (k : Kind) (o : Option Kind) (bs : List ℕ) → FormAt k bs 0 (length bs) → FormedBy o bs → FormedBy (cond b (Some k) o) bs
pick true k o bs h g = h
pick false k o bs h g = g

or_formed : (o p : Option Kind) (bs : List ℕ) → FormedBy o bs → FormedBy p bs → FormedBy (or_kind o p) bs
or_formed None p bs h g = g
or_formed (Some k) p bs h g = h

alone_formed : (k : Kind) (s bs : List ℕ) → FormAt k bs 0 (length bs) → FormedBy (alone k s) bs
alone_formed k [] bs h = h
alone_formed k (c ∷ s) bs h = tt

whole : (s : List ℕ) → slice_range s 0 (length s) ≡ s
whole s = take_all (length s - 0) s (omega arith)

name_formed : (c : ℕ) (s : List ℕ) → is_name c ≡ true → names s ≡ true → FormAt Name (c ∷ s) 0 (length (c ∷ s))
name_formed c s e h = rw (whole (c ∷ s)) (first_and_name c s e h)

label_formed : (c : ℕ) (s : List ℕ) → is_letter c ≡ true → labels s ≡ true → FormAt Label (c ∷ s) 0 (length (c ∷ s))
label_formed c s e h = label_before_colon c s e h

reference_formed : (a c : ℕ) (s : List ℕ) → is_letter c ≡ true → words s ≡ true → FormAt Reference (a ∷ c ∷ s) 0 (length (a ∷ c ∷ s))
reference_formed a c s e h =
    let k : slice_range (a ∷ c ∷ s) (0 + 1) (length (a ∷ c ∷ s)) ≡ c ∷ s = take_all (length (a ∷ c ∷ s) - 1) (c ∷ s) (omega arith) in
    rw k (reference_label c s e h)

path_formed : (language : Language) (a c : ℕ) (s : List ℕ) → paths language s ≡ true → FormAt PathReference (a ∷ c ∷ s) 0 (length (a ∷ c ∷ s))
path_formed language a c s h = path_before_brace language s (length (a ∷ c ∷ s) - 1 - 2) (omega arith) h

keyword_formed : (s bs : List ℕ) → FormedBy (keyword s) bs
keyword_formed s bs =
    pick (pointwise nat_eq s (codes "dts-v1/")) Version _ bs tt (
    pick (pointwise nat_eq s (codes "plugin/")) Plugin _ bs tt (
    pick (pointwise nat_eq s (codes "memreserve/")) MemReserve _ bs tt (
    pick (pointwise nat_eq s (codes "bits/")) Bits _ bs tt (
    pick (pointwise nat_eq s (codes "delete-node/")) DeleteNode _ bs tt (
    pick (pointwise nat_eq s (codes "delete-property/")) DeleteProperty _ bs tt tt)))))

dtc_keyword_formed : (s bs : List ℕ) → FormedBy (dtc_keyword s) bs
dtc_keyword_formed s bs = pick (pointwise nat_eq s (codes "omit-if-no-ref/")) OmitIfNoRef _ bs tt (pick (pointwise nat_eq s (codes "incbin/")) IncludeBinary _ bs tt tt)

more_formed : (language : Language) (s bs : List ℕ) → FormedBy (more_keywords language s) bs
more_formed Profile s bs = tt
more_formed Dtc s bs = dtc_keyword_formed s bs

slashed_formed : (language : Language) (s bs : List ℕ) → FormedBy (slashed language s) bs
unfolding slashed
slashed_formed language s bs =
    or_formed (keyword_in language s) (alone Slash s) bs (or_formed (keyword s) (more_keywords language s) bs (keyword_formed s bs) (more_formed language s bs)) (alone_formed Slash s bs tt)

second_formed : (k : Kind) (c : ℕ) (bs : List ℕ) → FormedBy (second_of k c) bs
second_formed Less c bs = pick (eqb c 61) LessEqual _ bs tt (pick (eqb c 60) ShiftLeft _ bs tt tt)
second_formed Greater c bs = pick (eqb c 61) GreaterEqual _ bs tt (pick (eqb c 62) ShiftRight _ bs tt tt)
second_formed Equals c bs = pick (eqb c 61) EqualEqual _ bs tt tt
second_formed Bang c bs = pick (eqb c 61) NotEqual _ bs tt tt
second_formed Or c bs = pick (eqb c 124) OrOr _ bs tt tt
second_formed _ c bs = tt

operated_formed : (k : Kind) (s bs : List ℕ) → FormAt k bs 0 (length bs) → FormedBy (operated k s) bs
operated_formed k [] bs h = h
operated_formed k (c ∷ []) bs h = second_formed k c bs
operated_formed k (c ∷ d ∷ s) bs h = tt

ampersand_formed : (language : Language) (inside : Bool) (a : ℕ) (s : List ℕ) → FormedBy (ampersand language inside s) (a ∷ s)
ampersand_formed language inside a [] = given_formed inside And (a ∷ []) (λ e. tt)
ampersand_formed language inside a (c ∷ s) =
    either (eqb c 123) _ _ (a ∷ c ∷ s) (λ e. given_formed (paths language s) PathReference (a ∷ c ∷ s) (path_formed language a c s))
    (λ e. either (is_letter c) _ _ (a ∷ c ∷ s) (λ f. given_formed (words s) Reference (a ∷ c ∷ s) (reference_formed a c s f))
    (λ f. either (inside && eqb c 38) _ _ (a ∷ c ∷ s) (λ g. alone_formed AndAnd s (a ∷ c ∷ s) tt) (λ g. tt)))

-- What a first byte is that begins such lexemes.
abbrev Fits : First → ℕ → Type 0
Fits firsts.Letter c = is_letter c ≡ true
Fits firsts.Other c = is_name c ≡ true
Fits firsts.Word c = is_letter c ≡ true
Fits firsts.HexLetter c = is_letter c ≡ true
Fits (firsts.Operator k) c = (bs : List ℕ) → FormAt k bs 0 (length bs)
Fits (firsts.Alone k) c = (bs : List ℕ) → FormAt k bs 0 (length bs)
Fits _ c = Unit {0}

by_formed : (f : First) (c : ℕ) (s : List ℕ) → Fits f c → FormedBy (kind_by f s) (c ∷ s)
by_formed (firsts.Quote language) c s h = given_formed (strings language s) Text (c ∷ s) (λ e. tt)
by_formed firsts.Apostrophe c s h = given_formed (closes_character false s) Character (c ∷ s) (λ e. tt)
by_formed (firsts.Solidus language) c s h = slashed_formed language s (c ∷ s)
by_formed (firsts.Ampersand language inside) c s h = ampersand_formed language inside c s
by_formed firsts.Zero c s h = either (hexed s) _ _ (c ∷ s) (λ e. tt) (λ e. given_formed (numbers classes.Digit s) Literal (c ∷ s) (λ e. tt))
by_formed firsts.Digit c s h = given_formed (numbers classes.Digit s) Literal (c ∷ s) (λ e. tt)
by_formed firsts.Letter c s h = either (labels s) _ _ (c ∷ s) (label_formed c s h) (λ e. given_formed (names s) Name (c ∷ s) (name_formed c s (letter_name c h)))
by_formed firsts.Other c s h = given_formed (names s) Name (c ∷ s) (name_formed c s h)
by_formed firsts.Word c s h = given_formed (labels s) Label (c ∷ s) (label_formed c s h)
by_formed firsts.HexLetter c s h = either (labels s) _ _ (c ∷ s) (label_formed c s h) (λ e. given_formed (one_hex s) Pair (c ∷ s) (λ e. tt))
by_formed firsts.HexDigit c s h = given_formed (one_hex s) Pair (c ∷ s) (λ e. tt)
by_formed (firsts.Operator k) c s h = operated_formed k s (c ∷ s) (h (c ∷ s))
by_formed (firsts.Alone k) c s h = alone_formed k s (c ∷ s) (h (c ∷ s))
by_formed firsts.Nothing c s h = tt

-- ---- what may begin with a byte

either_fits : (b : Bool) (f g : First) (c : ℕ) → (b ≡ true → Fits f c) → (b ≡ false → Fits g c) → Fits (cond b f g) c
either_fits true f g c h k = h refl
either_fits false f g c h k = k refl

punctuation_formed : (c : ℕ) (bs : List ℕ) → FormedBy (punctuation c) bs
punctuation_formed c bs =
    pick (eqb c 59) Semicolon _ bs tt (
    pick (eqb c 123) Brace _ bs tt (
    pick (eqb c 125) EndBrace _ bs tt (
    pick (eqb c 61) Equals _ bs tt (
    pick (eqb c 44) Comma _ bs tt (
    pick (eqb c 60) Less _ bs tt (
    pick (eqb c 62) Greater _ bs tt (
    pick (eqb c 91) Square _ bs tt (
    pick (eqb c 93) EndSquare _ bs tt (
    pick (eqb c 40) Paren _ bs tt (
    pick (eqb c 41) EndParen _ bs tt tt))))))))))

operator_formed : (c : ℕ) (bs : List ℕ) → FormedBy (operator c) bs
operator_formed c bs =
    pick (eqb c 63) Question _ bs tt (
    pick (eqb c 58) Colon _ bs tt (
    pick (eqb c 124) Or _ bs tt (
    pick (eqb c 94) Xor _ bs tt (
    pick (eqb c 43) Plus _ bs tt (
    pick (eqb c 45) Minus _ bs tt (
    pick (eqb c 42) Star _ bs tt (
    pick (eqb c 37) Percent _ bs tt (
    pick (eqb c 126) Tilde _ bs tt (
    pick (eqb c 33) Bang _ bs tt tt)))))))))

operator_fits : (o : Option Kind) (c : ℕ) → ((bs : List ℕ) → FormedBy o bs) → Fits (single_operator o) c
operator_fits None c h = tt
operator_fits (Some k) c h = h

single_fits : (inside : Bool) (o : Option Kind) (c : ℕ) → ((bs : List ℕ) → FormedBy o bs) → Fits (single_by inside o c) c
single_fits true (Some k) c h = h
single_fits false (Some k) c h = h
single_fits true None c h = operator_fits (operator c) c (operator_formed c)
single_fits false None c h = tt

in_fits : (mode : Mode) (inside : Bool) (c : ℕ) → Fits (first_in mode inside c) c
in_fits modes.Name inside c =
    either_fits (is_letter c) _ _ c (λ e. e) (λ e. either_fits (is_name c) _ _ c (λ f. f) (λ f. single_fits inside (punctuation c) c (punctuation_formed c)))
in_fits modes.Value inside c =
    either_fits (is_letter c) _ _ c (λ e. e) (λ e. either_fits (eqb c 48) _ _ c (λ f. tt) (λ f. either_fits (is_digit c) _ _ c (λ g. tt) (λ g. single_fits inside (punctuation c) c (punctuation_formed c))))
in_fits modes.Byte inside c =
    either_fits (is_letter c) _ _ c (λ e. either_fits (is_hex c) _ _ c (λ f. e) (λ f. e)) (λ e. either_fits (is_hex c) _ _ c (λ f. tt) (λ f. single_fits inside (punctuation c) c (punctuation_formed c)))

first_fits : (context : Context) (c : ℕ) → Fits (first_at context c) c
unfolding first_at
first_fits context c =
    either_fits (eqb c 34) _ _ c (λ e. tt) (λ e. either_fits (is_dtc context.language && eqb c 39) _ _ c (λ d. tt) (λ d. either_fits (eqb c 47) _ _ c (λ f. tt) (λ f. either_fits (eqb c 38) _ _ c (λ g. tt) (λ g. in_fits context.mode (nat_lt 0 context.parens) c))))

kind_formed : (context : Context) (bs : List ℕ) → FormedBy (kind_of context bs) bs
unfolding kind_of
kind_formed context [] = tt
kind_formed context (c ∷ s) = by_formed (first_at context c) c s (first_fits context c)

-- ---- the lexemes of a text

moved : (k : Kind) (text s : List ℕ) (from n i j : ℕ) → drop from text ≡ s → 1 ≤ n → i ≡ from → j ≡ from + n → FormAt k (take n s) 0 n → FormAt k text i j
moved Name text s from n i j e le ei ej h = subst (λ (x : List ℕ). IsTrue (tree.is_name x)) (cut text s from n 0 n i j e (omega arith) (omega arith) ej) h
moved Label text s from n i j e le ei ej h = subst IsLabel (cut text s from n 0 (n - 1) i (j - 1) e (omega arith) (omega arith) (omega arith)) h
moved Reference text s from n i j e le ei ej h = subst IsLabel (cut text s from n 1 n (i + 1) j e (omega arith) (omega arith) ej) h
moved PathReference text s from n i j e le ei ej h = subst (λ (x : List ℕ). IsTrue (is_path (path_of x))) (cut text s from n 2 (n - 1) (i + 2) (j - 1) e (omega arith) (omega arith) (omega arith)) h
moved _ text s from n i j e le ei ej h = tt

longest_formed : (context : Context) (s : List ℕ) (k : Kind) (n : ℕ) → IsLongest (kind_of context) s k n → FormAt k (take n s) 0 n
longest_formed context s k n h = subst (λ (m : ℕ). FormAt k (take n s) 0 m) (length-take-le n s h.within) (subst (λ (o : Option Kind). FormedBy o (take n s)) h.is (kind_formed context (take n s)))

left_lawful : (text : List ℕ) (context : Context) (left : List ℕ) (ls : List Lexeme) → EndsIn text left → Left (length text) context left ls → AllLawful text ls
unfolding Left AllLawful
left_lawful text context left [] t h = tt
left_lawful text context left (l ∷ ls) t (s, n, gap, longest, from, to, more) =
    let here = ends_on text left s t (gap_ends context.language left s gap) in
    (moved l.kind text s (length text - length s) n l.start l.end (ends_at text s here) (some_byte context s l.kind n longest) from to (longest_formed context s l.kind n longest), left_lawful text (step context l.kind) (drop n s) ls (ends_on text s (drop n s) here (ends_drop n s)) more)

-- Each lexeme of a text has its kind's form.
pub lexemes_lawful : (language : Language) (text : List ℕ) (ls : List Lexeme) → Lexemes language text ls → AllLawful text ls
unfolding Lexemes
lexemes_lawful language text ls h = left_lawful text (start language) text ls (ends_self text) h
