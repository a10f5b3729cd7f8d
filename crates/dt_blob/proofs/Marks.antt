-- Strings as text, run by run: bytes that aren't marks are printed as they are.
use Rattle.std.proofs.Common.{◌≡◌, ℕ, zero, suc, ◌+◌, ◌<◌, ◌≤◌, Bool, true, false, List, [], ◌∷◌, ◌++◌, length, take, drop, get_or, refl, sym, ap, ◌∙◌, arith, append_assoc, add-one, drop-cons}
use Rattle.std.proofs.lemmas.Bool.{eqb-true}
use Rattle.std.specs.Prelude.{◌==◌, ◌||◌, ◌&&◌, not}
use Rattle.dt_blob.specs.SourceText.{character, comma, strings_text}
use Rattle.dt_blob.specs.Steps.Printed.{is_mark, mark_text}

append_nil : (xs : List ℕ) → xs ++ [] ≡ xs
append_nil [] = refl
append_nil (x ∷ xs) = ap (λ ys. x ∷ ys) (append_nil xs)

-- a byte that is no mark, by its tests
plain-by : (s t u : Bool) (b : ℕ) (bytes : List ℕ) → (b == 0) ≡ s → (b == 34) ≡ t → (b == 92) ≡ u → ((s || t) || u ≡ true → ⊥) → strings_text false (b ∷ bytes) ≡ b ∷ strings_text false bytes
plain-by true t u b bytes p q r none = absurd (none refl)
plain-by false true u b bytes p q r none = absurd (none refl)
plain-by false false true b bytes p q r none = absurd (none refl)
plain-by false false false b bytes p q r none = rw (p, q, r) refl

plain : (b : ℕ) (bytes : List ℕ) → (is_mark b ≡ true → ⊥) → strings_text false (b ∷ bytes) ≡ b ∷ strings_text false bytes
plain b bytes none = plain-by (b == 0) (b == 34) (b == 92) b bytes refl refl refl none

-- a run without marks is printed as it is
pub run : (text : List ℕ) (place : ℕ) → place ≤ length text → ((k : ℕ) → k < place → is_mark (get_or text k 0) ≡ true → ⊥) → strings_text false text ≡ take place text ++ strings_text false (drop place text)
run text zero fits none = refl
run [] (suc place) fits none = absurd (omega arith)
run (b ∷ bytes) (suc place) fits none = plain b bytes (none 0 (omega arith)) ∙ ap (λ xs. b ∷ xs) (run bytes place (omega arith) (λ k h. none (suc k) (omega arith)))

pub run_all : (text : List ℕ) → ((k : ℕ) → k < length text → is_mark (get_or text k 0) ≡ true → ⊥) → strings_text false text ≡ text
run_all [] none = refl
run_all (b ∷ bytes) none = plain b bytes (none 0 (omega arith)) ∙ ap (λ xs. b ∷ xs) (run_all bytes (λ k h. none (suc k) (omega arith)))

-- a comma comes before the next string, if there is one
led-by : (t e : Bool) (bytes : List ℕ) → (length bytes == 0) ≡ e → strings_text t bytes ≡ comma (t && not e) ++ strings_text false bytes
led-by false e bytes p = refl
led-by true true [] p = refl
led-by true true (b ∷ bytes) p = absurd (omega (arith, eqb-true (length (b ∷ bytes)) 0 p))
led-by true false [] p = absurd (cc)
led-by true false (b ∷ bytes) p = refl

led : (t : Bool) (bytes : List ℕ) → strings_text t bytes ≡ comma (t && not (length bytes == 0)) ++ strings_text false bytes
led t bytes = led-by t (length bytes == 0) bytes refl

pub marked : (b : ℕ) (bytes : List ℕ) → strings_text false (b ∷ bytes) ≡ mark_text b (length bytes == 0) ++ strings_text false bytes
marked b bytes = ap (λ xs. character b ++ xs) (led (b == 0) bytes) ∙ sym (append_assoc (character b) (comma (b == 0 && not (length bytes == 0))) (strings_text false bytes))

-- a run and the mark behind it
pub run_marked : (text : List ℕ) (place : ℕ) → place < length text → ((k : ℕ) → k < place → is_mark (get_or text k 0) ≡ true → ⊥) → strings_text false text ≡ take place text ++ (mark_text (get_or text place 0) (length (drop (place + 1) text) == 0) ++ strings_text false (drop (place + 1) text))
run_marked text place inside none =
    run text place (omega arith) none
    ∙ ap (λ xs. take place text ++ strings_text false xs) (drop-cons text place 0 inside)
    ∙ ap (λ xs. take place text ++ xs) (marked (get_or text place 0) (drop (suc place) text))
    ∙ rw add-one refl
