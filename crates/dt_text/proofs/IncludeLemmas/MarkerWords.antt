-- What a line marker tells: its number, and the name between its quotes.
use Rattle.std.proofs.Common.{◌≡◌, ℕ, suc, ◌+◌, ◌-◌, ◌*◌, ◌<◌, ◌≤◌, Bool, true, false, List, [], ◌∷◌, ◌++◌, length, get_or, take, drop, Option, Some, None, refl, sym, ap, subst, ◌∙◌, arith, min}
use Rattle.std.specs.Prelude.{◌==◌, option_map}
use Rattle.std.specs.Char.{digit_value}
use Rattle.std.proofs.lemmas.Bool.{le-leb, lt-leb}
use Rattle.std.proofs.lemmas.Int.Digits.{digits_value_more}
use Rattle.std.proofs.lemmas.List.{length-drop, length-take, take-append-drop, take-take, take_all}
use Rattle.dt_text.specs.Lexeme.Bytes.{begins}
use Rattle.dt_text.specs.Lexeme.Fronts.{Front, closes, is_empty}
use Rattle.dt_text.specs.Include.Bytes.{run_of}
use Rattle.dt_text.specs.Lexeme.Gaps.{behind_word}
use Rattle.dt_text.specs.Include.UserLines.{greatest_line, longest_name, name_of, line_number, short_name, told, up_to_quote}
use Rattle.dt_text.specs.declared.include.bytes.Class.TheVariants.{Blank, Digit}

-- ---- the number

-- one digit more
pub number_more : (ds : List ℕ) (i n times digit grown : ℕ) → i < length ds → n ≡ line_number (take i ds) → times ≡ min (n * 10) greatest_line → digit ≡ digit_value (get_or ds i 0)
    → grown ≡ min (times + digit) greatest_line → grown ≡ line_number (take (i + 1) ds)
number_more ds i n times digit grown lt so_far ten one more = omega (arith, digits_value_more 10 ds i lt)

-- all digits
pub number_whole : (ds : List ℕ) (i n : ℕ) → length ds ≤ i → n ≡ line_number (take i ds) → n ≡ line_number ds
number_whole ds i n le so_far = so_far ∙ ap line_number (take_all i ds le)

-- ---- the name

closes_some : (b : Bool) (t : List ℕ) → closes 34 b t ≡ true → 0 < length t
unfolding closes
closes_some b [] h = absurd (cc h)
closes_some b (c ∷ t) h = omega arith

closes_two : (t : List ℕ) → closes 34 true t ≡ true → 2 ≤ length t
unfolding closes
closes_two [] h = absurd (cc h)
closes_two (c ∷ t) h = omega (arith, closes_some false t h)

no_more : (t : List ℕ) → is_empty t ≡ true → t ≡ []
no_more [] h = refl
no_more (c ∷ t) h = absurd (cc h)

longer : (c : ℕ) (t : List ℕ) → 0 < length t → c ∷ take (length t - 1) t ≡ take (length (c ∷ t) - 1) (c ∷ t)
longer c t lt =
    let e : length (c ∷ t) - 1 ≡ suc (length t - 1) = omega (arith, lt) in
    ap (λ (k : ℕ). take k (c ∷ t)) (sym e)

-- what a quote closes stands before it
up_to : (b : Bool) (t u : List ℕ) → closes 34 b t ≡ true → up_to_quote b (t ++ u) ≡ Some (take (length t - 1) t)
unfolding closes up_to_quote
up_to b [] u h = absurd (cc h)
up_to true (c ∷ t) u h = ap (option_map (λ (name : List ℕ). c ∷ name)) (up_to false t u h) ∙ ap Some (longer c t (closes_some false t h))
up_to false (c ∷ t) u h = go (c == 34) refl (up_to (c == 92) t u) h
  where
    go : (q : Bool) → (c == 34) ≡ q → (closes 34 (c == 92) t ≡ true → up_to_quote (c == 92) (t ++ u) ≡ Some (take (length t - 1) t)) → closes 34 false (c ∷ t) ≡ true
        → up_to_quote false (c ∷ t ++ u) ≡ Some (take (length (c ∷ t) - 1) (c ∷ t))
    go true e next h = rw (e, no_more t (rw e at h)) refl
    go false e next h =
        let k : closes 34 (c == 92) t ≡ true = rw e at h in
        rw e (ap (option_map (λ (name : List ℕ). c ∷ name)) (next k) ∙ ap Some (longer c t (closes_some (c == 92) t k)))

-- what stands before a quote it closes
abbrev IsClosed : Bool → List ℕ → List ℕ → Type 0
IsClosed b s name = (suc (length name) ≤ length s) × (closes 34 b (take (suc (length name)) s) ≡ true)

closed : (b : Bool) (s name : List ℕ) → up_to_quote b s ≡ Some name → IsClosed b s name
unfolding closes up_to_quote
closed b [] name h = absurd (cc h)
closed true (c ∷ s) name h = go (up_to_quote false s) refl (closed false s) h
  where
    go : (r : Option (List ℕ)) → up_to_quote false s ≡ r → ((n : List ℕ) → up_to_quote false s ≡ Some n → IsClosed false s n) → option_map (λ (n : List ℕ). c ∷ n) r ≡ Some name → IsClosed true (c ∷ s) name
    go None e next h = absurd (cc h)
    go (Some n) e next h = let is : c ∷ n ≡ name = cc h in let k = next n e in subst (IsClosed true (c ∷ s)) is (omega (arith, k.0), k.1)
closed false (c ∷ s) name h = by_byte (c == 34) refl (closed (c == 92) s) h
  where
    go : (r : Option (List ℕ)) → (c == 34) ≡ false → up_to_quote (c == 92) s ≡ r → ((n : List ℕ) → up_to_quote (c == 92) s ≡ Some n → IsClosed (c == 92) s n) → option_map (λ (n : List ℕ). c ∷ n) r ≡ Some name
        → IsClosed false (c ∷ s) name
    go None f e next h = absurd (cc h)
    go (Some n) f e next h = let is : c ∷ n ≡ name = cc h in let k = next n e in subst (IsClosed false (c ∷ s)) is (omega (arith, k.0), rw f k.1)

    by_byte : (q : Bool) → (c == 34) ≡ q → ((n : List ℕ) → up_to_quote (c == 92) s ≡ Some n → IsClosed (c == 92) s n) → up_to_quote false (c ∷ s) ≡ Some name → IsClosed false (c ∷ s) name
    by_byte true e next h = let is : [] ≡ name = cc (rw e at h) in subst (IsClosed false (c ∷ s)) is (omega arith, rw e refl)
    by_byte false e next h = go (up_to_quote (c == 92) s) e refl next (rw e at h)

-- the first byte is the quote that opens the string
behind_first : (c : ℕ) (o r : Option (List ℕ)) → option_map (λ (n : List ℕ). c ∷ n) o ≡ r → o ≡ option_map (drop 1) r
behind_first c None r h = rw (sym h) refl
behind_first c (Some n) r h = rw (sym h) refl

taken : (n : ℕ) (s : List ℕ) → n ≤ length s → take (length (take n s) - 1) (take n s) ≡ take (n - 1) s
taken n s le =
    let e : length (take n s) ≡ n = omega (arith, length-take n s) in
    ap (λ (k : ℕ). take (k - 1) (take n s)) e ∙ take-take (n - 1) n s (omega arith)

-- the name between the quotes, by the string's length
between : (s : List ℕ) (r : Option ℕ) → 0 < length s → Front (closes 34 true) s r → up_to_quote false (drop 1 s) ≡ option_map (λ (n : ℕ). drop 1 (take (n - 1) s)) r
unfolding up_to_quote
between [] r lt h = absurd (omega arith)
between (c ∷ s) None lt h = go (up_to_quote false s) refl
  where
    go : (o : Option (List ℕ)) → up_to_quote false s ≡ o → o ≡ None
    go None e = refl
    go (Some n) e = let k = closed true (c ∷ s) (c ∷ n) (ap (option_map (λ (m : List ℕ). c ∷ m)) e) in absurd (cc (h (suc (length (c ∷ n))) k.0, k.1))
between (c ∷ s) (Some n) lt h = behind_first c (up_to_quote false s) (Some (take (n - 1) (c ∷ s))) whole
  where
    whole : option_map (λ (m : List ℕ). c ∷ m) (up_to_quote false s) ≡ Some (take (n - 1) (c ∷ s))
    whole =
        ap (up_to_quote true) (sym (take-append-drop n (c ∷ s))) ∙ up_to true (take n (c ∷ s)) (drop n (c ∷ s)) h.is ∙ ap Some (taken n (c ∷ s) h.within)

some_byte : (s : List ℕ) → begins 34 s ≡ true → 0 < length s
some_byte [] h = absurd (cc h)
some_byte (c ∷ s) h = omega arith

named : (s : List ℕ) (r : Option ℕ) → true ≡ begins 34 s → Front (closes 34 true) s r → name_of s ≡ short_name (option_map (λ (n : ℕ). drop 1 (take (n - 1) s)) r)
named s r quote h = rw (sym quote) (ap short_name (between s r (some_byte s (sym quote)) h))

pub name_open : (s : List ℕ) (r : Option ℕ) → true ≡ begins 34 s → Front (closes 34 true) s r → r ≡ None → None ≡ name_of s
name_open s r quote h none = sym (named s r quote h ∙ rw none refl)

long_of : (s : List ℕ) (n : ℕ) → Front (closes 34 true) s (Some n) → length (drop 1 (take (n - 1) s)) + 2 ≡ n
long_of s n h = omega (arith, length-drop 1 (take (n - 1) s), length-take (n - 1) s, length-take n s, closes_two (take n s) h.is, h.within)

pub name_long : (s : List ℕ) (r : Option ℕ) (n : ℕ) → true ≡ begins 34 s → Front (closes 34 true) s r → r ≡ Some n → longest_name < n → None ≡ name_of s
name_long s r n quote h is lt =
    let k : Front (closes 34 true) s (Some n) = subst (Front (closes 34 true) s) is h in
    let long : longest_name < length (drop 1 (take (n - 1) s)) + 2 = omega (arith, long_of s n k) in
    sym (named s (Some n) quote k ∙ rw (lt-leb (length (drop 1 (take (n - 1) s)) + 2) longest_name long) refl)

pub name_short : (s name : List ℕ) (r : Option ℕ) (n : ℕ) → true ≡ begins 34 s → Front (closes 34 true) s r → r ≡ Some n → n ≤ longest_name → name ≡ drop 1 (take (n - 1) s) → Some name ≡ name_of s
name_short s name r n quote h is le named_is =
    let k : Front (closes 34 true) s (Some n) = subst (Front (closes 34 true) s) is h in
    let short : length (drop 1 (take (n - 1) s)) + 2 ≤ longest_name = omega (arith, long_of s n k) in
    sym (named s (Some n) quote k ∙ rw (le-leb (length (drop 1 (take (n - 1) s)) + 2) longest_name short) (ap Some (sym named_is)))

-- ---- the whole line

pub tells : (l rest number behind name digits_text : List ℕ) (blanks digits more n : ℕ) (file : Option (List ℕ)) → rest ≡ behind_word l → blanks ≡ run_of Blank rest → number ≡ drop blanks rest
    → digits ≡ run_of Digit number → behind ≡ drop digits number → more ≡ run_of Blank behind → name ≡ drop more behind → digits_text ≡ take digits number → n ≡ line_number digits_text → file ≡ name_of name
    → record { line = n; file = file } ≡ told l
tells l rest number behind name text blanks digits more n file word before number_is run behind_is run_more name_is text_is n_is file_is =
    rw (n_is, file_is, text_is, name_is, run_more, behind_is, run, number_is, before, word) refl
