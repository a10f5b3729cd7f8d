-- The bytes of a string, one after the other.
use Rattle.std.proofs.Common.{◌≡◌, ℕ, zero, suc, ◌+◌, ◌<◌, ◌≤◌, List, [], ◌∷◌, ◌++◌, length, get_or, drop, Option, Some, None, Ok, Err, refl, sym, ap, ◌∙◌, append_assoc, arith, add-one, drop-cons}
use Rattle.std.proofs.lemmas.List.{append-nil}
use Rattle.dt_text.specs.declared.lexeme.language.Language.{Language}
use Rattle.dt_text.specs.declared.lexeme.lexeme.Fault.{Fault}
use Rattle.dt_text.specs.Expression.Values.{Value}
use Rattle.dt_source.specs.Reading.Several.{earlier}
use Rattle.dt_source.specs.Order.{first_of}
use Rattle.dt_source.specs.Strings.{char_step, with_char, chars_with, numbers, faults, char_number, char_fault}
use Rattle.dt_source.proofs.Loops.{earlier_assoc, earlier_none}

numbers_with : (o : Option Value) (vs : List Value) → numbers (with_char o vs) ≡ char_number o ++ numbers vs
numbers_with None vs = refl
numbers_with (Some (Ok n)) vs = refl
numbers_with (Some (Err f)) vs = refl

faults_with : (o : Option Value) (vs : List Value) → first_of (faults (with_char o vs)) ≡ earlier (char_fault o) (first_of (faults vs))
faults_with None vs = refl
faults_with (Some (Ok n)) vs = refl
faults_with (Some (Err f)) vs = refl

chars_next : (language : Language) (skip place i : ℕ) (s : List ℕ) → i < length s → chars_with language skip place (drop i s) ≡ with_char (char_step language skip place (get_or s i 0) (drop (i + 1) s)).0 (chars_with language (char_step language skip place (get_or s i 0) (drop (i + 1) s)).1 (place + 1) (drop (i + 1) s))
unfolding chars_with
chars_next language skip place i s h = rw (add-one, drop-cons s i 0) refl

-- what was said so far, and what the bytes from i on say
pub record Said (language : Language) (bytes : List ℕ) (first : Option Fault) (skip place i : ℕ) (s : List ℕ) (start : ℕ) : Type 0 where
  pub numbers_so_far : bytes ++ numbers (chars_with language skip place (drop i s)) ≡ numbers (chars_with language 0 start s)
  pub fault_so_far : earlier first (first_of (faults (chars_with language skip place (drop i s)))) ≡ first_of (faults (chars_with language 0 start s))

pub said_begin : (language : Language) (start : ℕ) (s : List ℕ) → Said language [] None 0 start 0 s start
said_begin language start s = record { numbers_so_far = refl; fault_so_far = refl }

pub said_more : (language : Language) (bytes : List ℕ) (first : Option Fault) (skip place i : ℕ) (s : List ℕ) (start next : ℕ) → i < length s → next ≡ place + 1 → Said language bytes first skip place i s start
    → Said language (bytes ++ char_number (char_step language skip place (get_or s i 0) (drop (i + 1) s)).0) (earlier first (char_fault (char_step language skip place (get_or s i 0) (drop (i + 1) s)).0)) (char_step language skip place (get_or s i 0) (drop (i + 1) s)).1 next (i + 1) s start
said_more language bytes first skip place i s start next h e said =
    let x = char_step language skip place (get_or s i 0) (drop (i + 1) s) in
    let vs = chars_with language x.1 (place + 1) (drop (i + 1) s) in
    let here = chars_next language skip place i s h in
    rw e (record {
      numbers_so_far = append_assoc bytes (char_number x.0) (numbers vs) ∙ ap (λ (y : List ℕ). bytes ++ y) (sym (numbers_with x.0 vs)) ∙ ap (λ (y : List Value). bytes ++ numbers y) (sym here) ∙ said.numbers_so_far;
      fault_so_far = sym (earlier_assoc first (char_fault x.0) (first_of (faults vs))) ∙ ap (λ (y : Option Fault). earlier first y) (sym (faults_with x.0 vs)) ∙ ap (λ (y : List Value). earlier first (first_of (faults y))) (sym here) ∙ said.fault_so_far;
    })

pub drop_all : {A : Type 0} (i : ℕ) (s : List A) → length s ≤ i → drop i s ≡ []
drop_all zero [] h = refl
drop_all zero (x ∷ s) h = absurd (omega arith)
drop_all (suc i) [] h = refl
drop_all (suc i) (x ∷ s) h = drop_all i s (omega arith)

pub said_end : (language : Language) (bytes : List ℕ) (first : Option Fault) (skip place i : ℕ) (s : List ℕ) (start : ℕ) → length s ≤ i → Said language bytes first skip place i s start
    → (bytes ≡ numbers (chars_with language 0 start s)) × (first ≡ first_of (faults (chars_with language 0 start s)))
unfolding chars_with
said_end language bytes first skip place i s start h said =
    let e = drop_all i s h in
    let n = said.numbers_so_far in
    let f = said.fault_so_far in
    (sym (append-nil bytes) ∙ ap (λ (y : List ℕ). bytes ++ numbers (chars_with language skip place y)) (sym e) ∙ n, sym (earlier_none first) ∙ ap (λ (y : List ℕ). earlier first (first_of (faults (chars_with language skip place y)))) (sym e) ∙ f)
