-- Values as text: cells one by one, and how long a text is.
use Rattle.std.proofs.Common.{◌≡◌, ℕ, suc, ◌+◌, ◌*◌, ◌/◌, ◌%◌, ◌<◌, ◌≤◌, Bool, true, false, List, [], ◌∷◌, ◌++◌, length, take, drop, get_or, refl, sym, ap, ◌∙◌, arith, length-append, length-drop, append_assoc, drop-cons, add-one}
use Rattle.std.proofs.lemmas.List.{drop_all}
use Rattle.std.proofs.lemmas.Bool.{eqb-true}
use Rattle.std.specs.Prelude.{◌==◌, ◌||◌, codes, if◌then◌else◌}
use Rattle.dt_blob.specs.declared.value_form.ValueForm.TheVariants as form
use Rattle.dt_blob.specs.Steps.Printed.{form_of}
use Rattle.dt_blob.specs.SourceText.{hex_digit, hex_of, space, are_strings, character, comma, strings_text, cells_text, pairs_text, value_text, value_part}

four : (xs : List ℕ) (i : ℕ) → i + 4 ≤ length xs → drop i xs ≡ get_or xs i 0 ∷ get_or xs (suc i) 0 ∷ get_or xs (suc (suc i)) 0 ∷ get_or xs (suc (suc (suc i))) 0 ∷ drop (suc (suc (suc (suc i)))) xs
four xs i h =
    drop-cons xs i 0 (omega arith)
    ∙ ap (λ ys. get_or xs i 0 ∷ ys) (drop-cons xs (suc i) 0 (omega arith)
    ∙ ap (λ ys. get_or xs (suc i) 0 ∷ ys) (drop-cons xs (suc (suc i)) 0 (omega arith)
    ∙ ap (λ ys. get_or xs (suc (suc i)) 0 ∷ ys) (drop-cons xs (suc (suc (suc i))) 0 (omega arith))))

cells-next : (later : Bool) (xs : List ℕ) (i : ℕ) → i + 4 ≤ length xs → cells_text later (drop i xs) ≡ space later ++ (48 ∷ 120 ∷ (hex_of (take 4 (drop i xs)) ++ cells_text true (drop (suc (suc (suc (suc i)))) xs)))
cells-next later xs i h = rw (four xs i h) refl

-- one cell more
pub cells-step : (o s x h piece v last : List ℕ) (later : Bool) (k : ℕ) → s ≡ o ++ space later → x ≡ s ++ (48 ∷ 120 ∷ []) → h ≡ x ++ hex_of piece → piece ≡ take 4 (drop (4 * k) v) → 4 * k + 4 ≤ length v → o ++ cells_text later (drop (4 * k) v) ≡ last → h ++ cells_text true (drop (4 * (k + 1)) v) ≡ last
cells-step o s x h piece v last later k es ex eh ep room left =
    let n : 4 * (k + 1) ≡ suc (suc (suc (suc (4 * k)))) = omega arith in
    let e = cells-next later v (4 * k) room in
    rw (eh, ex, es, ep, n) (simp append_assoc (ap (λ ys. o ++ ys) (sym e) ∙ left))

-- one byte more
pub pairs-step : (o s h v last : List ℕ) (later : Bool) (i : ℕ) → i < length v → s ≡ o ++ space later → h ≡ s ++ hex_of (get_or v i 0 ∷ []) → o ++ pairs_text later (drop i v) ≡ last → h ++ pairs_text true (drop (i + 1) v) ≡ last
pairs-step o s h v last later i room es eh left =
    let e : get_or v i 0 ∷ drop (i + 1) v ≡ drop i v = rw add-one (sym (drop-cons v i 0 room)) in
    let digits = hex_of (get_or v i 0 ∷ []) in
    let rest = pairs_text true (drop (i + 1) v) in
    ap (λ ys. ys ++ rest) (eh ∙ ap (λ ys. ys ++ digits) es) ∙ append_assoc (o ++ space later) digits rest ∙ append_assoc o (space later) (digits ++ rest) ∙ ap (λ ys. o ++ pairs_text later ys) e ∙ left

-- two digits more
pub hex-step : (o s h v last : List ℕ) (a b : ℕ) (i : ℕ) → i < length v → a ≡ hex_digit (get_or v i 0 / 16) → b ≡ hex_digit (get_or v i 0 % 16) → s ≡ o ++ a ∷ [] → h ≡ s ++ b ∷ [] → o ++ hex_of (drop i v) ≡ last → h ++ hex_of (drop (i + 1) v) ≡ last
hex-step o s h v last a b i room ea eb es eh left =
    let e : get_or v i 0 ∷ drop (i + 1) v ≡ drop i v = rw add-one (sym (drop-cons v i 0 room)) in
    let rest = hex_of (drop (i + 1) v) in
    ap (λ ys. ys ++ rest) (eh ∙ ap (λ ys. ys ++ b ∷ []) es) ∙ append_assoc (o ++ a ∷ []) (b ∷ []) rest ∙ append_assoc o (a ∷ []) (b ∷ rest)
    ∙ ap (λ x. o ++ x ∷ b ∷ rest) ea ∙ ap (λ x. o ++ hex_digit (get_or v i 0 / 16) ∷ x ∷ rest) eb ∙ ap (λ ys. o ++ hex_of ys) e ∙ left

-- what is no cell
pub cells-short : (later : Bool) (xs : List ℕ) → length xs < 4 → cells_text later xs ≡ []
cells-short later [] h = refl
cells-short later (a ∷ []) h = refl
cells-short later (a ∷ b ∷ []) h = refl
cells-short later (a ∷ b ∷ c ∷ []) h = refl
cells-short later (a ∷ b ∷ c ∷ d ∷ xs) h = absurd (omega arith)

pub length-hex : (xs : List ℕ) → length (hex_of xs) ≡ 2 * length xs
length-hex [] = refl
length-hex (x ∷ xs) = omega (arith, length-hex xs)

length-later_cells : (xs : List ℕ) → length (cells_text true xs) ≡ length xs / 4 * 11
length-later_cells [] = refl
length-later_cells (a ∷ []) = refl
length-later_cells (a ∷ b ∷ []) = refl
length-later_cells (a ∷ b ∷ c ∷ []) = refl
length-later_cells (a ∷ b ∷ c ∷ d ∷ xs) = omega (arith, length-later_cells xs)

pub length-cells : (xs : List ℕ) → 4 ≤ length xs → length (cells_text false xs) + 1 ≡ length xs / 4 * 11
length-cells [] h = absurd (omega arith)
length-cells (a ∷ []) h = absurd (omega arith)
length-cells (a ∷ b ∷ []) h = absurd (omega arith)
length-cells (a ∷ b ∷ c ∷ []) h = absurd (omega arith)
length-cells (a ∷ b ∷ c ∷ d ∷ xs) h = omega (arith, length-later_cells xs)

length-later_pairs : (xs : List ℕ) → length (pairs_text true xs) ≡ length xs * 3
length-later_pairs [] = refl
length-later_pairs (x ∷ xs) = omega (arith, length-later_pairs xs)

pub length-pairs : (xs : List ℕ) → 0 < length xs → length (pairs_text false xs) + 1 ≡ length xs * 3
length-pairs [] h = absurd (omega arith)
length-pairs (x ∷ xs) h = omega (arith, length-later_pairs xs)

-- bytes that aren't strings are some
pub not-none : (xs : List ℕ) → are_strings false xs ≡ false → 0 < length xs
not-none [] e = absurd (cc)
not-none (x ∷ xs) e = omega arith

length-comma : (t : Bool) (xs : List ℕ) → length xs ≤ length (comma t ++ xs)
length-comma true xs = omega arith
length-comma false xs = omega arith

character-by : (s t : Bool) (b : ℕ) → 1 ≤ length (if s then 34 ∷ [] else (if t then 92 ∷ b ∷ [] else b ∷ []))
character-by true t b = omega arith
character-by false true b = omega arith
character-by false false b = omega arith

pub length-strings : (ended : Bool) (xs : List ℕ) → length xs ≤ length (strings_text ended xs)
length-strings ended [] = omega arith
length-strings ended (x ∷ xs) = omega (arith, length-strings (x == 0) xs, length-comma ended (character x ++ strings_text (x == 0) xs), length-append (character x) (strings_text (x == 0) xs), character-by (x == 0) (x == 34 || x == 92) x)

append_nil : (xs : List ℕ) → xs ++ [] ≡ xs
append_nil [] = refl
append_nil (x ∷ xs) = ap (λ ys. x ∷ ys) (append_nil xs)

-- nothing is left
pub nothing-left : (o rest last : List ℕ) → rest ≡ [] → o ++ rest ≡ last → o ≡ last
nothing-left o rest last none left = sym (append_nil o) ∙ ap (λ ys. o ++ ys) (sym none) ∙ left

-- behind the last byte
pub pairs-end : (first o p v : List ℕ) (later : Bool) (i : ℕ) → length v ≤ i → o ++ pairs_text later (drop i v) ≡ first ++ 91 ∷ pairs_text false v → p ≡ o ++ 93 ∷ [] → p ≡ first ++ 91 ∷ (pairs_text false v ++ 93 ∷ [])
pairs-end first o p v later i h left e =
    let o-is : o ≡ first ++ 91 ∷ pairs_text false v = nothing-left o (pairs_text later (drop i v)) _ (ap (pairs_text later) (drop_all i v h)) left in
    e ∙ ap (λ ys. ys ++ 93 ∷ []) o-is ∙ append_assoc first (91 ∷ pairs_text false v) (93 ∷ [])

-- behind the last cell
pub cells-end : (first o p v : List ℕ) (later : Bool) (k : ℕ) → length v / 4 ≤ k → o ++ cells_text later (drop (4 * k) v) ≡ first ++ 60 ∷ cells_text false v → p ≡ o ++ 62 ∷ [] → p ≡ first ++ 60 ∷ (cells_text false v ++ 62 ∷ [])
cells-end first o p v later k h left e =
    let none : cells_text later (drop (4 * k) v) ≡ [] = cells-short later (drop (4 * k) v) (omega (arith, length-drop (4 * k) v)) in
    let o-is : o ≡ first ++ 60 ∷ cells_text false v = sym (append_nil o) ∙ ap (λ ys. o ++ ys) (sym none) ∙ left in
    e ∙ ap (λ ys. ys ++ 62 ∷ []) o-is ∙ simp append_assoc

text-by : (s t : Bool) (a b c : List ℕ) → s ≡ false → t ≡ true → (if s then a else (if t then b else c)) ≡ b
text-by true t a b c p q = absurd (cc)
text-by false true a b c p q = refl
text-by false false a b c p q = absurd (cc)

text-first : (s : Bool) (a b : List ℕ) → s ≡ true → (if s then a else b) ≡ a
text-first true a b p = refl
text-first false a b p = absurd (cc)

text-second : (s : Bool) (a b : List ℕ) → s ≡ false → (if s then a else b) ≡ b
text-second true a b p = absurd (cc)
text-second false a b p = refl

text-else : (s t : Bool) (a b c : List ℕ) → s ≡ false → t ≡ false → (if s then a else (if t then b else c)) ≡ c
text-else true t a b c p q = absurd (cc)
text-else false true a b c p q = absurd (cc)
text-else false false a b c p q = refl

length-by_cells : (v : List ℕ) → are_strings false v ≡ false → (length v % 4 == 0) ≡ true → length v % 4 ≡ 0 → length v / 4 * 11 + 1 ≡ length (value_text v)
length-by_cells v s t m =
    let e = text-by (are_strings false v) (length v % 4 == 0) (34 ∷ strings_text false v) (60 ∷ (cells_text false v ++ 62 ∷ [])) (91 ∷ (pairs_text false v ++ 93 ∷ [])) s t in
    omega (arith, ap length e, length-append (cells_text false v) (62 ∷ []), length-cells v (omega (arith, not-none v s)))

length-by_pairs : (v : List ℕ) → are_strings false v ≡ false → (length v % 4 == 0) ≡ false → length v * 3 + 1 ≡ length (value_text v)
length-by_pairs v s t =
    let e = text-else (are_strings false v) (length v % 4 == 0) (34 ∷ strings_text false v) (60 ∷ (cells_text false v ++ 62 ∷ [])) (91 ∷ (pairs_text false v ++ 93 ∷ [])) s t in
    omega (arith, ap length e, length-append (pairs_text false v) (93 ∷ []), length-pairs v (not-none v s))

form-strings : (s t : Bool) → form.Strings ≡ (if s then form.Strings else (if t then form.Cells else form.Pairs)) → s ≡ true
form-strings true t e = refl
form-strings false true e = absurd (cc)
form-strings false false e = absurd (cc)

form-cells : (s t : Bool) → form.Cells ≡ (if s then form.Strings else (if t then form.Cells else form.Pairs)) → (s ≡ false) × (t ≡ true)
form-cells true t e = absurd (cc)
form-cells false true e = (refl, refl)
form-cells false false e = absurd (cc)

form-pairs : (s t : Bool) → form.Pairs ≡ (if s then form.Strings else (if t then form.Cells else form.Pairs)) → (s ≡ false) × (t ≡ false)
form-pairs true t e = absurd (cc)
form-pairs false true e = absurd (cc)
form-pairs false false e = (refl, refl)

-- the text of a value, by its form
pub text-in_strings : (v : List ℕ) → form.Strings ≡ form_of v → 34 ∷ strings_text false v ≡ value_text v
text-in_strings v e =
    let is = form-strings (are_strings false v) (length v % 4 == 0) e in
    sym (text-first (are_strings false v) (34 ∷ strings_text false v) (if length v % 4 == 0 then 60 ∷ (cells_text false v ++ 62 ∷ []) else 91 ∷ (pairs_text false v ++ 93 ∷ [])) is)

pub text-in_cells : (v : List ℕ) → form.Cells ≡ form_of v → 60 ∷ (cells_text false v ++ 62 ∷ []) ≡ value_text v
text-in_cells v e =
    let parts = form-cells (are_strings false v) (length v % 4 == 0) e in
    sym (text-by (are_strings false v) (length v % 4 == 0) (34 ∷ strings_text false v) (60 ∷ (cells_text false v ++ 62 ∷ [])) (91 ∷ (pairs_text false v ++ 93 ∷ [])) parts.0 parts.1)

pub text-in_pairs : (v : List ℕ) → form.Pairs ≡ form_of v → 91 ∷ (pairs_text false v ++ 93 ∷ []) ≡ value_text v
text-in_pairs v e =
    let parts = form-pairs (are_strings false v) (length v % 4 == 0) e in
    sym (text-else (are_strings false v) (length v % 4 == 0) (34 ∷ strings_text false v) (60 ∷ (cells_text false v ++ 62 ∷ [])) (91 ∷ (pairs_text false v ++ 93 ∷ [])) parts.0 parts.1)

pub length-in_cells : (v : List ℕ) → form.Cells ≡ form_of v → length v / 4 * 11 + 1 ≡ length (value_text v)
length-in_cells v e =
    let parts = form-cells (are_strings false v) (length v % 4 == 0) e in
    length-by_cells v parts.0 parts.1 (eqb-true (length v % 4) 0 parts.1)

pub length-in_pairs : (v : List ℕ) → form.Pairs ≡ form_of v → length v * 3 + 1 ≡ length (value_text v)
length-in_pairs v e =
    let parts = form-pairs (are_strings false v) (length v % 4 == 0) e in
    length-by_pairs v parts.0 parts.1

-- a text is no shorter than its value
value-by : (s t : Bool) (v : List ℕ) → are_strings false v ≡ s → (length v % 4 == 0) ≡ t → length v ≤ length (value_text v)
value-by true t v p q = omega (arith, length-strings false v, ap length (text-first (are_strings false v) (34 ∷ strings_text false v) (if length v % 4 == 0 then 60 ∷ (cells_text false v ++ 62 ∷ []) else 91 ∷ (pairs_text false v ++ 93 ∷ [])) p))
value-by false true v p q = omega (arith, length-by_cells v p q (eqb-true (length v % 4) 0 q), eqb-true (length v % 4) 0 q)
value-by false false v p q = omega (arith, length-by_pairs v p q)

pub value-shorter : (v : List ℕ) → length v ≤ length (value_text v)
value-shorter v = value-by (are_strings false v) (length v % 4 == 0) v refl refl

part-by : (t : Bool) (v : List ℕ) → (length v == 0) ≡ t → length v ≤ length (value_part v)
part-by true v q = omega (arith, eqb-true (length v) 0 q)
part-by false v q = omega (arith, value-shorter v, ap length (text-second (length v == 0) (codes ";\n") (codes " = " ++ (value_text v ++ codes ";\n")) q), length-append (value_text v) (codes ";\n"))

pub part-shorter : (v : List ℕ) → length v ≤ length (value_part v)
part-shorter v = part-by (length v == 0) v refl
