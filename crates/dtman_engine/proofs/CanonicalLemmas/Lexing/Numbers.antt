-- Hex digits before a byte that is none.
use Rattle.std.proofs.Common.{◌≡◌, ℕ, ◌/◌, ◌%◌, ◌<◌, Bool, true, false, eqb, ltb, List, [], ◌∷◌, ◌++◌, Some, None, refl, arith, ◌⊎◌, inl, inr}
use Rattle.std.specs.Prelude.{◌&&◌}
use Rattle.std.specs.List.{list_all}
use Rattle.std.proofs.lemmas.Bool.{and_parts, ltb-true, agree_below_at}
use Rattle.std.proofs.lemmas.Bool.Decides.{nat_tests}
use Rattle.dt_text.specs.declared.lexeme.language.Language.TheVariants.{Profile}
use Rattle.dt_blob.specs.SourceText.{hex_digit, hex_of}
use Rattle.dt_text.specs.declared.lexeme.lexeme.Kind.TheVariants as kinds
use Rattle.dt_text.specs.declared.lexeme.bytes.Class.TheVariants as classes
use Rattle.dt_text.specs.declared.lexeme.families.First.TheVariants as firsts
use Rattle.dt_text.specs.Lexeme.Bytes.{is_blank, is_letter, is_word, is_hex}
use Rattle.dt_text.specs.Lexeme.Fronts.{ends, ends_label, numbers, hexed}
use Rattle.dt_text.specs.Lexeme.Families.{first_at, kind_by, kind_of}
use Rattle.dt_text.specs.Lexeme.Gaps.{NoGap}
use Rattle.dtman_engine.specs.Canonical.Bytes.{are_bytes}
use Rattle.dtman_engine.proofs.CanonicalLemmas.Lexing.Segments.{Here}
use Rattle.dtman_engine.proofs.CanonicalLemmas.Lexing.Marks.{at_value, at_byte, plain_no_gap}

-- ---- digits

digit_hex : (d : ℕ) → d < 16 → is_hex (hex_digit d) ≡ true
digit_hex d lt = agree_below_at (λ d. is_hex (hex_digit d)) (λ d. true) 16 d refl lt

high : (b : ℕ) → b < 256 → b / 16 < 16
high b lt = omega arith

low : (b : ℕ) → b % 16 < 16
low b = omega arith

digits_hex : (bytes : List ℕ) → are_bytes bytes ≡ true → list_all is_hex (hex_of bytes) ≡ true
digits_hex [] e = refl
digits_hex (b ∷ bytes) e =
    let p = and_parts (ltb b 256) (are_bytes bytes) e in
    let h = digit_hex (b / 16) (high b (ltb-true b 256 p.0)) in
    let l = digit_hex (b % 16) (low b) in
    let more = digits_hex bytes p.1 in
    rw (h, l) more

-- ---- literals

-- A byte that doesn't continue a number.
pub record Stops (c : ℕ) : Type 0 where
  pub no_hex : is_hex c ≡ false
  pub no_u : eqb c 85 ≡ false
  pub no_ell : eqb c 76 ≡ false

numbers_all : (s : List ℕ) → list_all is_hex s ≡ true → numbers classes.HexDigit s ≡ true
unfolding numbers
numbers_all [] e = refl
numbers_all (d ∷ s) e =
    let p = and_parts (is_hex d) (list_all is_hex s) e in
    let here = p.0 in
    let more = numbers_all s p.1 in
    rw here more

numbers_stop : (s : List ℕ) (c : ℕ) (u : List ℕ) → list_all is_hex s ≡ true → Stops c → numbers classes.HexDigit (s ++ c ∷ u) ≡ false
unfolding numbers
numbers_stop [] c u e h = let a = h.no_hex in let b = h.no_u in let d = h.no_ell in rw (a, b, d) refl
numbers_stop (d ∷ s) c u e h =
    let p = and_parts (is_hex d) (list_all is_hex s) e in
    let here = p.0 in
    let more = numbers_stop s c u p.1 h in
    rw here more

literal_is : (n b : ℕ) (bytes : List ℕ) → are_bytes (b ∷ bytes) ≡ true → kind_of (at_value n) (48 ∷ 120 ∷ hex_of (b ∷ bytes)) ≡ Some kinds.Literal
unfolding kind_of first_at
literal_is n b bytes e =
    let p = and_parts (is_hex (hex_digit (b / 16))) (list_all is_hex (hex_digit (b % 16) ∷ hex_of bytes)) (digits_hex (b ∷ bytes) e) in
    let here = p.0 in
    let more = numbers_all (hex_digit (b % 16) ∷ hex_of bytes) p.1 in
    rw (here, more) refl

no_decimal : (u : List ℕ) → numbers classes.Digit (120 ∷ u) ≡ false
unfolding numbers
no_decimal u = refl

literal_ends : (n b : ℕ) (bytes : List ℕ) (c : ℕ) (u : List ℕ) → are_bytes (b ∷ bytes) ≡ true → Stops c → kind_of (at_value n) (48 ∷ 120 ∷ hex_of (b ∷ bytes) ++ c ∷ u) ≡ None
unfolding kind_of first_at
literal_ends n b bytes c u e h = rw (no_hexed, no_numbers) refl
  where
    p : (is_hex (hex_digit (b / 16)) ≡ true) × (list_all is_hex (hex_digit (b % 16) ∷ hex_of bytes) ≡ true)
    p = and_parts (is_hex (hex_digit (b / 16))) (list_all is_hex (hex_digit (b % 16) ∷ hex_of bytes)) (digits_hex (b ∷ bytes) e)

    no_hexed : hexed (120 ∷ hex_of (b ∷ bytes) ++ c ∷ u) ≡ false
    no_hexed = let here = p.0 in let stop = numbers_stop (hex_digit (b % 16) ∷ hex_of bytes) c u p.1 h in rw (here, stop) refl

    no_numbers : numbers classes.Digit (120 ∷ hex_of (b ∷ bytes) ++ c ∷ u) ≡ false
    no_numbers = no_decimal (hex_of (b ∷ bytes) ++ c ∷ u)

pub literal_here : (n b : ℕ) (bytes : List ℕ) (c : ℕ) (t : List ℕ) → are_bytes (b ∷ bytes) ≡ true → Stops c → Here (at_value n) kinds.Literal (48 ∷ 120 ∷ hex_of (b ∷ bytes)) (c ∷ t)
literal_here n b bytes c t e h = record {
  over = plain_no_gap 48 (120 ∷ hex_of (b ∷ bytes) ++ c ∷ t) refl refl refl;
  is = literal_is n b bytes e;
  ends = λ u. literal_ends n b bytes c u e h;
}

-- such a byte stands in front
abbrev pub StopsAt : List ℕ → Type 0
StopsAt [] = ⊥
StopsAt (c ∷ t) = Stops c

pub literal_before : (n b : ℕ) (bytes t : List ℕ) → are_bytes (b ∷ bytes) ≡ true → StopsAt t → Here (at_value n) kinds.Literal (48 ∷ 120 ∷ hex_of (b ∷ bytes)) t
literal_before n b bytes [] e h = absurd h
literal_before n b bytes (c ∷ t) e h = literal_here n b bytes c t e h

-- ---- pairs

hex_no : (c d : ℕ) → is_hex c ≡ true → is_hex d ≡ false → eqb c d ≡ false
hex_no c d e f = go (eqb c d) refl
  where
    go : (b : Bool) → eqb c d ≡ b → b ≡ false
    go true g = let k : c ≡ d = grind (arith, nat_tests) in absurd (cc)
    go false g = refl

pair_first : (n c : ℕ) → is_hex c ≡ true → (first_at (at_byte n) c ≡ firsts.HexLetter) ⊎ (first_at (at_byte n) c ≡ firsts.HexDigit)
unfolding first_at
pair_first n c e = go (is_letter c) refl
  where
    quote : eqb c 34 ≡ false
    quote = hex_no c 34 e refl

    solidus : eqb c 47 ≡ false
    solidus = hex_no c 47 e refl

    ampersand : eqb c 38 ≡ false
    ampersand = hex_no c 38 e refl

    go : (b : Bool) → is_letter c ≡ b → (first_at (at_byte n) c ≡ firsts.HexLetter) ⊎ (first_at (at_byte n) c ≡ firsts.HexDigit)
    go true f = inl (rw (quote, solidus, ampersand, e, f) refl)
    go false f = inr (rw (quote, solidus, ampersand, e, f) refl)

right : (b : Bool) → (b && false) ≡ false
right true = refl
right false = refl

pair_is : (n h l : ℕ) → is_hex h ≡ true → is_hex l ≡ true → kind_of (at_byte n) (h ∷ l ∷ []) ≡ Some kinds.Pair
unfolding kind_of ends
pair_is n h l e f = go (pair_first n h e)
  where
    none : ends_label (l ∷ []) ≡ false
    none = let colon = hex_no l 58 f refl in rw colon (right (is_word l))

    go : (first_at (at_byte n) h ≡ firsts.HexLetter) ⊎ (first_at (at_byte n) h ≡ firsts.HexDigit) → kind_by (first_at (at_byte n) h) (l ∷ []) ≡ Some kinds.Pair
    go (inl k) = rw (k, none, f) refl
    go (inr k) = rw (k, f) refl

pair_ends : (n h l c : ℕ) (u : List ℕ) → is_hex h ≡ true → is_hex l ≡ true → is_word c ≡ false → eqb c 58 ≡ false → kind_of (at_byte n) (h ∷ l ∷ c ∷ u) ≡ None
unfolding kind_of ends
pair_ends n h l c u e f g k = go (pair_first n h e)
  where
    none : ends_label (l ∷ c ∷ u) ≡ false
    none = let colon = hex_no l 58 f refl in rw (colon, k, g) (right (is_word l))

    go : (first_at (at_byte n) h ≡ firsts.HexLetter) ⊎ (first_at (at_byte n) h ≡ firsts.HexDigit) → kind_by (first_at (at_byte n) h) (l ∷ c ∷ u) ≡ None
    go (inl k) = rw (k, none, f) refl
    go (inr k) = rw (k, f) refl

hex_no_gap : (c : ℕ) (t : List ℕ) → is_hex c ≡ true → NoGap Profile (c ∷ t)
hex_no_gap c t e = plain_no_gap c t blank (hex_no c 47 e refl) (hex_no c 35 e refl)
  where
    blank : is_blank c ≡ false
    blank = grind (arith, nat_tests)

pub pair_here : (n b c : ℕ) (t : List ℕ) → ltb b 256 ≡ true → is_word c ≡ false → eqb c 58 ≡ false → Here (at_byte n) kinds.Pair (hex_of (b ∷ [])) (c ∷ t)
pair_here n b c t e f g =
    let h = digit_hex (b / 16) (high b (ltb-true b 256 e)) in
    let l = digit_hex (b % 16) (low b) in
    record { over = hex_no_gap (hex_digit (b / 16)) (hex_digit (b % 16) ∷ c ∷ t) h; is = pair_is n (hex_digit (b / 16)) (hex_digit (b % 16)) h l; ends = λ u. pair_ends n (hex_digit (b / 16)) (hex_digit (b % 16)) c u h l f g }

-- A byte that continues neither a pair nor a label stands in front.
abbrev pub PartsAt : List ℕ → Type 0
PartsAt [] = ⊥
PartsAt (c ∷ t) = (is_word c ≡ false) × (eqb c 58 ≡ false)

pub pair_before : (n b : ℕ) (t : List ℕ) → ltb b 256 ≡ true → PartsAt t → Here (at_byte n) kinds.Pair (hex_of (b ∷ [])) t
pair_before n b [] e h = absurd h
pair_before n b (c ∷ t) e h = pair_here n b c t e h.0 h.1
