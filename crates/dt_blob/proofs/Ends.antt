-- Strings in a value, each up to its end.
use Rattle.std.proofs.Common.{◌≡◌, ℕ, zero, suc, ◌+◌, ◌<◌, Bool, true, false, List, [], ◌∷◌, length, take, drop, get_or, refl, sym, ◌∙◌, ap, arith, add-one}
use Rattle.std.proofs.lemmas.Bool.{eqb-true}
use Rattle.std.specs.Prelude.{◌==◌, if◌then◌else◌}
use Rattle.std.specs.List.{list_all}
use Rattle.dt_blob.specs.SourceText.{is_printable, are_strings}

-- no zero byte below a place
abbrev pub NoEnd : List ℕ → ℕ → Type 0
NoEnd bytes place = (k : ℕ) → k < place → (get_or bytes k 0 == 0) ≡ true → ⊥

later : (b : ℕ) (bytes : List ℕ) (place : ℕ) → NoEnd (b ∷ bytes) (suc place) → NoEnd bytes place
later b bytes place none k h = none (suc k) (omega arith)

-- a byte that ends nothing
goes_by : (begun s t : Bool) (b : ℕ) (bytes : List ℕ) → (b == 0) ≡ s → is_printable b ≡ t → (s ≡ true → ⊥) → are_strings begun (b ∷ bytes) ≡ (if t then are_strings true bytes else false)
goes_by begun true t b bytes p q none = absurd (none refl)
goes_by begun false t b bytes p q none = rw (p, q) refl

goes : (begun : Bool) (b : ℕ) (bytes : List ℕ) (place : ℕ) → NoEnd (b ∷ bytes) (suc place) → are_strings begun (b ∷ bytes) ≡ (if is_printable b then are_strings true bytes else false)
goes begun b bytes place none = goes_by begun (b == 0) (is_printable b) b bytes refl refl (none 0 (omega arith))

goes_true : (begun : Bool) (b : ℕ) (bytes : List ℕ) (place : ℕ) → NoEnd (b ∷ bytes) (suc place) → is_printable b ≡ true → are_strings begun (b ∷ bytes) ≡ are_strings true bytes
goes_true begun b bytes place none p = goes begun b bytes place none ∙ ap (λ (t : Bool). if t then are_strings true bytes else false) p

goes_false : (begun : Bool) (b : ℕ) (bytes : List ℕ) (place : ℕ) → NoEnd (b ∷ bytes) (suc place) → is_printable b ≡ false → are_strings begun (b ∷ bytes) ≡ false
goes_false begun b bytes place none p = goes begun b bytes place none ∙ ap (λ (t : Bool). if t then are_strings true bytes else false) p

either_false : (t : Bool) (x : Bool) → x ≡ false → (if t then x else false) ≡ false
either_false true x e = e
either_false false x e = refl

-- what has no end
unended : (bytes : List ℕ) → NoEnd bytes (length bytes) → are_strings true bytes ≡ false
unended [] none = refl
unended (b ∷ bytes) none = goes true b bytes (length bytes) none ∙ either_false (is_printable b) (are_strings true bytes) (unended bytes (later b bytes (length bytes) none))

empty_by : (e : Bool) (b : ℕ) (bytes : List ℕ) → (length (b ∷ bytes) == 0) ≡ e → e ≡ false
empty_by true b bytes p = absurd (omega (arith, eqb-true (length (b ∷ bytes)) 0 p))
empty_by false b bytes p = refl

pub lone : (bytes : List ℕ) → NoEnd bytes (length bytes) → (length bytes == 0) ≡ are_strings false bytes
lone [] none = refl
lone (b ∷ bytes) none =
    empty_by (length (b ∷ bytes) == 0) b bytes refl
    ∙ sym (goes false b bytes (length bytes) none ∙ either_false (is_printable b) (are_strings true bytes) (unended bytes (later b bytes (length bytes) none)))

-- a string of nothing
pub nothing : (bytes : List ℕ) → 0 < length bytes → (get_or bytes 0 0 == 0) ≡ true → false ≡ are_strings false bytes
nothing [] h e = absurd (omega arith)
nothing (b ∷ bytes) h e = rw e refl

-- a string with a byte that isn't printable
pub unlike : (begun : Bool) (bytes : List ℕ) (place : ℕ) → place < length bytes → NoEnd bytes place → list_all is_printable (take place bytes) ≡ false → false ≡ are_strings begun bytes
unlike begun bytes zero h none e = absurd (cc)
unlike begun [] (suc place) h none e = absurd (omega arith)
unlike begun (b ∷ bytes) (suc place) h none e = by_test (is_printable b) refl (unlike true bytes place (omega arith) (later b bytes place none)) where
  by_test : (t : Bool) → is_printable b ≡ t → (list_all is_printable (take place bytes) ≡ false → false ≡ are_strings true bytes) → false ≡ are_strings begun (b ∷ bytes)
  by_test true p more = more (rw p at e) ∙ sym (goes_true begun b bytes place none p)
  by_test false p more = sym (goes_false begun b bytes place none p)

-- a string and its end
within : (bytes : List ℕ) (place : ℕ) → place < length bytes → NoEnd bytes place → (get_or bytes place 0 == 0) ≡ true → list_all is_printable (take place bytes) ≡ true → are_strings false (drop (suc place) bytes) ≡ are_strings true bytes
within [] place h none e all = absurd (omega arith)
within (b ∷ bytes) zero h none e all = rw e refl
within (b ∷ bytes) (suc place) h none e all = by_test (is_printable b) refl (within bytes place (omega arith) (later b bytes place none) e) where
  by_test : (t : Bool) → is_printable b ≡ t → (list_all is_printable (take place bytes) ≡ true → are_strings false (drop (suc place) bytes) ≡ are_strings true bytes) → are_strings false (drop (suc place) bytes) ≡ are_strings true (b ∷ bytes)
  by_test true p more = more (rw p at all) ∙ sym (goes_true true b bytes place none p)
  by_test false p more = let bad : false ≡ true = rw p at all in absurd (cc)

pub ended_string : (bytes : List ℕ) (place : ℕ) → place < length bytes → 0 < place → NoEnd bytes place → (get_or bytes place 0 == 0) ≡ true → list_all is_printable (take place bytes) ≡ true → are_strings false (drop (place + 1) bytes) ≡ are_strings false bytes
ended_string bytes zero h some none e all = absurd (omega arith)
ended_string [] (suc place) h some none e all = absurd (omega arith)
ended_string (b ∷ bytes) (suc place) h some none e all =
    rw add-one (within (b ∷ bytes) (suc place) h none e all)
    ∙ goes true b bytes place none ∙ sym (goes false b bytes place none)
