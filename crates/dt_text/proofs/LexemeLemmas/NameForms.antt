-- The bytes of names and labels have their form.
use Rattle.std.proofs.Common.{◌≡◌, ℕ, ◌-◌, ◌<◌, ◌≤◌, Bool, true, false, eqb, ltb, leb, List, [], ◌∷◌, ◌++◌, length, take, refl, sym, ap, ◌∙◌, length-append, arith}
use Rattle.std.specs.Prelude.{slice_range}
use Rattle.std.specs.List.{list_all}
use Rattle.std.proofs.Math.Seq.{take-append_seam}
use Rattle.std.proofs.lemmas.Bool.Decides.{nat_tests}
use Rattle.dt_tree.specs.Name as tree
use Rattle.std.proofs.lemmas.Bool.{and_from, ne_eqb}
use Rattle.dt_text.specs.Lexeme.Bytes.{is_letter, is_word, is_name}
use Rattle.dt_text.specs.Lexeme.Fronts.{is_empty, ends, ends_label, labels, names, words}
use Rattle.dt_text.specs.Lexeme.Label.{IsLabel}
use Rattle.dt_text.proofs.LexemeLemmas.Runs.{and_first, and_second, ends_hit, ends_pass, ends_miss, ends_nil}

-- ---- bytes

pub name_byte : (c : ℕ) → is_name c ≡ true → tree.is_name_byte c ≡ true
name_byte c e = grind (arith, nat_tests)

letter_word : (c : ℕ) → is_letter c ≡ true → is_word c ≡ true
letter_word c e = rw e refl

word_name : (c : ℕ) → is_word c ≡ true → is_name c ≡ true
word_name c e = rw e refl

pub letter_name : (c : ℕ) → is_letter c ≡ true → is_name c ≡ true
letter_name c e = word_name c (letter_word c e)

pub all_also : (p q : ℕ → Bool) → ((c : ℕ) → p c ≡ true → q c ≡ true) → (s : List ℕ) → list_all p s ≡ true → list_all q s ≡ true
all_also p q h [] e = refl
all_also p q h (c ∷ s) e = and_from (q c) (list_all q s) (h c (and_first (p c) (list_all p s) e)) (all_also p q h s (and_second (p c) (list_all p s) e))

-- ---- names

pub named : (s : List ℕ) → 0 < length s → length s ≤ 255 → list_all tree.is_name_byte s ≡ true → tree.is_name s ≡ true
named s some most e =
    let f : eqb (length s) 0 ≡ false = ne_eqb (length s) 0 (λ k. omega arith) in
    let g : ltb 255 (length s) ≡ false = grind (arith, nat_tests) in
    rw (f, g) e

pub most_length : (s : List ℕ) (n : ℕ) → leb (length s) n ≡ true → length s ≤ n
most_length s n e = grind (arith, nat_tests)

pub first_and_name : (c : ℕ) (s : List ℕ) → is_name c ≡ true → names s ≡ true → tree.is_name (c ∷ s) ≡ true
first_and_name c s e h =
    let most = most_length s 254 (and_second (list_all is_name s) _ h) in
    named (c ∷ s) (omega arith) (omega (arith, most)) (and_from (tree.is_name_byte c) _ (name_byte c e) (all_also is_name tree.is_name_byte name_byte s (and_first (list_all is_name s) _ h)))

-- ---- labels

pub first_and_words : (c : ℕ) (w : List ℕ) → is_letter c ≡ true → list_all is_word w ≡ true → length w ≤ 254 → IsLabel (c ∷ w)
first_and_words c w e h most =
    let bytes = all_also is_word tree.is_name_byte (λ c k. name_byte c (word_name c k)) w h in
    (named (c ∷ w) (omega arith) (omega arith) (and_from (tree.is_name_byte c) _ (name_byte c (letter_name c e)) bytes), and_from (is_letter c) _ e h)

pub reference_label : (c : ℕ) (s : List ℕ) → is_letter c ≡ true → words s ≡ true → IsLabel (c ∷ s)
reference_label c s e h = first_and_words c s e (and_first (list_all is_word s) _ h) (most_length s 254 (and_second (list_all is_word s) _ h))

empty_is : (s : List ℕ) → is_empty s ≡ true → s ≡ []
empty_is [] e = refl
empty_is (c ∷ s) e = absurd cc

-- A run and its end.
pub record RunAndEnd (p : ℕ → Bool) (s : List ℕ) : Type 0 where
  pub run : List ℕ
  pub last : ℕ
  pub is : s ≡ run ++ last ∷ []
  pub passes : list_all p run ≡ true

pub run_and_end : (p q : ℕ → Bool) (s : List ℕ) → ends p q s ≡ true → RunAndEnd p s
run_and_end p q [] e = absurd (cc (ends_nil p q))
run_and_end p q (c ∷ s) e = go (q c) refl (p c) refl (run_and_end p q s)
  where
    go : (a : Bool) → q c ≡ a → (b : Bool) → p c ≡ b → (ends p q s ≡ true → RunAndEnd p s) → RunAndEnd p (c ∷ s)
    go true f b g next = record { run = []; last = c; is = ap (λ (x : List ℕ). c ∷ x) (empty_is s (sym (ends_hit p q c s f) ∙ e)); passes = refl }
    go false f true g next =
        let r = next (sym (ends_pass p q c s f g) ∙ e) in
        record { run = c ∷ r.run; last = r.last; is = ap (λ (x : List ℕ). c ∷ x) r.is; passes = and_from (p c) (list_all p r.run) g r.passes }
    go false f false g next = absurd (cc (ends_miss p q c s f g))

-- what stands before the last byte
pub before_last : (s run : List ℕ) (last n : ℕ) → s ≡ run ++ last ∷ [] → n ≡ length s - 1 → take n s ≡ run
before_last s run last n e k =
    let long : n ≡ length run = omega (arith, k, ap length e, length-append run (last ∷ [])) in
    ap (λ (i : ℕ). take i s) long ∙ ap (λ (x : List ℕ). take (length run) x) e ∙ take-append_seam run (last ∷ [])

pub label_before_colon : (c : ℕ) (s : List ℕ) → is_letter c ≡ true → labels s ≡ true → IsLabel (slice_range (c ∷ s) 0 (length (c ∷ s) - 1))
label_before_colon c s e h =
    let r = run_and_end is_word (λ c. eqb c 58) s (and_first (ends_label s) _ h) in
    let most = most_length s 255 (and_second (ends_label s) _ h) in
    let short : length r.run ≤ 254 = omega (arith, most, ap length (r.is), length-append r.run (r.last ∷ [])) in
    let cut : slice_range (c ∷ s) 0 (length (c ∷ s) - 1) ≡ c ∷ r.run = before_last (c ∷ s) (c ∷ r.run) r.last _ (ap (λ (x : List ℕ). c ∷ x) r.is) (omega arith) in
    rw cut (first_and_words c r.run e r.passes short)
