-- What strings, numbers and pairs of the canonical source stand for.
use Rattle.std.proofs.Common.{◌≡◌, ℕ, ◌+◌, ◌*◌, ◌/◌, ◌%◌, ◌^◌, ◌<◌, Bool, true, false, eqb, ltb, List, [], ◌∷◌, Option, Some, Ok, refl, sym, ap, ◌∙◌, subst, arith, inl, inr}
use Rattle.std.specs.Prelude.{◌||◌, fold}
use Rattle.std.specs.List.{list_all}
use Rattle.dt_text.specs.Expression.Element.{low_bytes}
use Rattle.std.proofs.lemmas.Bool.{and_parts, or_parts, or_cases, ltb-true, lt-ltb, eqb-true, agree_below_at}
use Rattle.std.proofs.lemmas.Bool.Decides.{nat_tests}
use Rattle.dt_blob.specs.BigEndian.{double_word}
use Rattle.dt_blob.specs.SourceText.{is_printable, hex_digit, hex_of}
use Rattle.dt_text.specs.Expression.Values.{Value, digit_of, is_suffix, number_step, literal_number}
use Rattle.dt_text.specs.declared.lexeme.language.Language.TheVariants.{Profile}
use Rattle.dt_source.specs.Strings.{chars_with, numbers, faults, pair_value}
use Rattle.dtman_engine.specs.Canonical.Bytes.{are_bytes}
use Rattle.dtman_engine.specs.Canonical.Private.Lexed.{escaped}
use Rattle.dtman_engine.proofs.CanonicalLemmas.Lexing.Texts.{printable_some}
use Rattle.dt_blob.proofs.Words.{double_word_read}

-- ---- strings

abbrev pub plain : List ℕ → List Value
plain [] = []
plain (b ∷ bytes) = Ok b ∷ plain bytes

quote_marked : (place : ℕ) (bytes : List ℕ) → chars_with Profile 0 place (92 ∷ 34 ∷ bytes) ≡ Ok 34 ∷ chars_with Profile 0 (place + 1 + 1) bytes
unfolding chars_with
quote_marked place bytes = refl

backslash_marked : (place : ℕ) (bytes : List ℕ) → chars_with Profile 0 place (92 ∷ 92 ∷ bytes) ≡ Ok 92 ∷ chars_with Profile 0 (place + 1 + 1) bytes
unfolding chars_with
backslash_marked place bytes = refl

marked : (b place : ℕ) (bytes : List ℕ) → (eqb b 34 || eqb b 92) ≡ true → chars_with Profile 0 place (92 ∷ b ∷ bytes) ≡ Ok b ∷ chars_with Profile 0 (place + 1 + 1) bytes
marked b place bytes e = elim (or_cases (eqb b 34) (eqb b 92) e) [
  | inl f ↦ subst (λ (c : ℕ). chars_with Profile 0 place (92 ∷ c ∷ bytes) ≡ Ok c ∷ chars_with Profile 0 (place + 1 + 1) bytes) (sym (eqb-true b 34 f)) (quote_marked place bytes)
  | inr f ↦ subst (λ (c : ℕ). chars_with Profile 0 place (92 ∷ c ∷ bytes) ≡ Ok c ∷ chars_with Profile 0 (place + 1 + 1) bytes) (sym (eqb-true b 92 f)) (backslash_marked place bytes)
]

unmarked : (b place : ℕ) (bytes : List ℕ) → eqb b 92 ≡ false → chars_with Profile 0 place (b ∷ bytes) ≡ Ok b ∷ chars_with Profile 0 (place + 1) bytes
unfolding chars_with
unmarked b place bytes e = rw e refl

pub chars_plain : (place : ℕ) (bytes : List ℕ) → list_all is_printable bytes ≡ true → chars_with Profile 0 place (escaped bytes) ≡ plain bytes
unfolding chars_with
chars_plain place [] e = refl
chars_plain place (b ∷ bytes) e = go (λ at. chars_plain at bytes (and_parts (is_printable b) (list_all is_printable bytes) e).1) (eqb b 34 || eqb b 92) refl
  where
    some : eqb b 0 ≡ false
    some = printable_some b (and_parts (is_printable b) (list_all is_printable bytes) e).0

    go : ((at : ℕ) → chars_with Profile 0 at (escaped bytes) ≡ plain bytes) → (m : Bool) → (eqb b 34 || eqb b 92) ≡ m → chars_with Profile 0 place (escaped (b ∷ bytes)) ≡ Ok b ∷ plain bytes
    go more true f = rw (some, f) (marked b place (escaped bytes) f ∙ ap (λ (vs : List Value). Ok b ∷ vs) (more (place + 1 + 1)))
    go more false f = rw (some, f) (unmarked b place (escaped bytes) (or_parts (eqb b 34) (eqb b 92) f).1 ∙ ap (λ (vs : List Value). Ok b ∷ vs) (more (place + 1)))

pub plain_numbers : (bytes : List ℕ) → numbers (plain bytes) ≡ bytes
plain_numbers [] = refl
plain_numbers (b ∷ bytes) = ap (λ (bs : List ℕ). b ∷ bs) (plain_numbers bytes)

pub plain_faults : (bytes : List ℕ) → faults (plain bytes) ≡ []
plain_faults [] = refl
plain_faults (b ∷ bytes) = plain_faults bytes

-- ---- digits

digit_is : (d : ℕ) → d < 16 → digit_of (hex_digit d) ≡ d
digit_is d lt = grind (arith, nat_tests)

digit_no_suffix : (d : ℕ) → d < 16 → is_suffix (hex_digit d) ≡ false
digit_no_suffix d lt = agree_below_at (λ d. is_suffix (hex_digit d)) (λ d. false) 16 d refl lt

digit_on : (n d : ℕ) → d < 16 → number_step 16 (Some n) (hex_digit d) ≡ Some (n * 16 + d)
digit_on n d lt =
    let s = digit_no_suffix d lt in
    let e = digit_is d lt in
    let f = lt-ltb d 16 lt in
    rw (s, e, f) refl

-- one byte more
abbrev pub byte_on : ℕ → ℕ → ℕ
byte_on n b = n * 256 + b

two_digits : (n b : ℕ) → b < 256 → (n * 16 + b / 16) * 16 + b % 16 ≡ byte_on n b
two_digits n b lt = omega arith

pub hex_number : (n : ℕ) (bytes : List ℕ) → are_bytes bytes ≡ true → fold (number_step 16) (Some n) (hex_of bytes) ≡ Some (fold byte_on n bytes)
hex_number n [] e = refl
hex_number n (b ∷ bytes) e =
    let p = and_parts (ltb b 256) (are_bytes bytes) e in
    let lt = ltb-true b 256 p.0 in
    let h = digit_on n (b / 16) (omega arith) in
    let l = digit_on (n * 16 + b / 16) (b % 16) (omega arith) in
    ap (λ (o : Option ℕ). fold (number_step 16) (number_step 16 o (hex_digit (b % 16))) (hex_of bytes)) h
    ∙ ap (λ (o : Option ℕ). fold (number_step 16) o (hex_of bytes)) (l ∙ ap (λ (m : ℕ). Some m) (two_digits n b lt))
    ∙ hex_number (byte_on n b) bytes p.1

pub pair_is : (b : ℕ) → ltb b 256 ≡ true → pair_value (hex_of (b ∷ [])) ≡ b
pair_is b e =
    let lt = ltb-true b 256 e in
    let h = digit_is (b / 16) (omega arith) in
    let l = digit_is (b % 16) (omega arith) in
    rw (h, l) (omega arith)

-- ---- numbers of 4 and of 8 bytes

pub long_number : (n : ℕ) → n < 2 ^ 64 → fold byte_on 0 (double_word n) ≡ n
unfolding double_word
long_number n lt = omega (arith, double_word_read n [] lt)

pub literal_is : (bytes : List ℕ) → are_bytes bytes ≡ true → literal_number (48 ∷ 120 ∷ hex_of bytes) ≡ Some (fold byte_on 0 bytes)
literal_is bytes e = hex_number 0 bytes e

abbrev pub four : ℕ → ℕ → ℕ → ℕ → ℕ
four a b c d = fold byte_on 0 (a ∷ b ∷ c ∷ d ∷ [])

pub four_small : (a b c d : ℕ) → a < 256 → b < 256 → c < 256 → d < 256 → four a b c d < 2 ^ 32
four_small a b c d p q r s = omega arith

pub four_back : (a b c d : ℕ) → a < 256 → b < 256 → c < 256 → d < 256 → low_bytes 4 (four a b c d) ≡ a ∷ b ∷ c ∷ d ∷ []
four_back a b c d p q r s =
    let e : four a b c d / 256 ^ 3 % 256 ≡ a = omega arith in
    let f : four a b c d / 256 ^ 2 % 256 ≡ b = omega arith in
    let g : four a b c d / 256 ^ 1 % 256 ≡ c = omega arith in
    let h : four a b c d / 256 ^ 0 % 256 ≡ d = omega arith in
    rw (e, f, g, h) refl
