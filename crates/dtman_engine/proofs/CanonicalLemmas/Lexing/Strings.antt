-- The strings of a value, in parts.
use Rattle.std.proofs.Common.{◌≡◌, ℕ, Bool, true, false, eqb, cond, List, [], ◌∷◌, ◌++◌, refl, sym, ap, ◌∙◌, append_assoc, append-nil, length}
use Rattle.std.specs.Prelude.{not}
use Rattle.std.specs.List.{list_all}
use Rattle.std.proofs.lemmas.Bool.{and_from, cond_both, cond-false, true≢false}
use Rattle.std.proofs.lemmas.List.Folds.{list_all-append}
use Rattle.dt_blob.specs.SourceText.{is_printable, are_strings, character, strings_text}
use Rattle.dt_text.specs.declared.lexeme.lexeme.Kind.TheVariants as kinds
use Rattle.dt_text.specs.Lexeme.Contexts.{step}
use Rattle.dtman_engine.specs.Canonical.Private.Lexed.{Segment, Blanks, Word, written, escaped, quoted, comma_parts, string_parts}
use Rattle.dtman_engine.proofs.CanonicalLemmas.Lexing.Segments.{Stands}
use Rattle.dtman_engine.proofs.CanonicalLemmas.Lexing.Marks.{at_value, comma}
use Rattle.dtman_engine.proofs.CanonicalLemmas.Lexing.Texts.{text_here}

-- ---- one byte further

-- what the first byte of strings is
pub record FirstByte (begun : Bool) (b : ℕ) (bytes : List ℕ) : Type 0 where
  pub ends : eqb b 0 ≡ true → (begun ≡ true) × (are_strings false bytes ≡ true)
  pub goes_on : eqb b 0 ≡ false → (is_printable b ≡ true) × (are_strings true bytes ≡ true)

pub first_byte : (begun : Bool) (b : ℕ) (bytes : List ℕ) → are_strings begun (b ∷ bytes) ≡ true → FirstByte begun b bytes
first_byte begun b bytes e = record { ends = λ z. at_zero begun (subst_zero z); goes_on = λ z. at_other (is_printable b) refl (subst_other z) }
  where
    subst_zero : eqb b 0 ≡ true → cond begun (are_strings false bytes) false ≡ true
    subst_zero z = rw z at e

    subst_other : eqb b 0 ≡ false → cond (is_printable b) (are_strings true bytes) false ≡ true
    subst_other z = rw z at e

    at_zero : (x : Bool) → cond x (are_strings false bytes) false ≡ true → (x ≡ true) × (are_strings false bytes ≡ true)
    at_zero true h = (refl, h)
    at_zero false h = absurd cc

    at_other : (x : Bool) → is_printable b ≡ x → cond x (are_strings true bytes) false ≡ true → (is_printable b ≡ true) × (are_strings true bytes ≡ true)
    at_other true k h = (k, h)
    at_other false k h = absurd cc

-- ---- they stand

commas_stand : (n : ℕ) (ended : Bool) (a b : List Segment) → Stands (at_value n) (a ++ b) → Stands (at_value n) ((comma_parts ended ++ a) ++ b)
unfolding Stands step
commas_stand n true a b h = (comma n (written (Blanks (32 ∷ []) ∷ (a ++ b))), (refl, h))
commas_stand n false a b h = h

pub strings_stand : (n : ℕ) (begun ended : Bool) (held bytes : List ℕ) (rest : List Segment) → list_all is_printable held ≡ true → are_strings begun bytes ≡ true
    → Stands (at_value n) rest → Stands (at_value n) (string_parts ended held bytes ++ rest)
unfolding Stands step
strings_stand n begun ended held [] rest p e h = h
strings_stand n begun ended held (b ∷ bytes) rest p e h =
    commas_stand n ended (cond (eqb b 0) (Word kinds.Text (quoted held) ∷ string_parts true [] bytes) (string_parts false (held ++ b ∷ []) bytes)) rest (
    cond_both (eqb b 0) (Word kinds.Text (quoted held) ∷ string_parts true [] bytes) (string_parts false (held ++ b ∷ []) bytes) (λ (x : List Segment). Stands (at_value n) (x ++ rest))
    (λ z. (text_here n held (written (string_parts true [] bytes ++ rest)) p, strings_stand n false true [] bytes rest refl ((first_byte begun b bytes e).ends z).1 h))
    (λ z. let f = (first_byte begun b bytes e).goes_on z in strings_stand n true false (held ++ b ∷ []) bytes rest (list_all-append is_printable held (b ∷ []) ∙ and_from (list_all is_printable held) (list_all is_printable (b ∷ [])) p (and_from (is_printable b) true f.0 refl)) f.1 h))

-- ---- their text

escaped_push : (a : List ℕ) (b : ℕ) → escaped (a ++ b ∷ []) ≡ escaped a ++ character b
escaped_push [] b = append-nil (character b)
escaped_push (c ∷ a) b = ap (λ (t : List ℕ). character c ++ t) (escaped_push a b) ∙ sym (append_assoc (character c) (escaped a) (character b))

-- a byte of a string, and what is behind it
on_text : (held bytes : List ℕ) (b : ℕ) → eqb b 0 ≡ false → 34 ∷ (escaped (held ++ b ∷ []) ++ strings_text false bytes) ≡ 34 ∷ (escaped held ++ (character b ++ strings_text (eqb b 0) bytes))
on_text held bytes b z =
    let push = ap (λ (t : List ℕ). 34 ∷ (t ++ strings_text false bytes)) (escaped_push held b) in
    let turn = ap (λ (t : List ℕ). 34 ∷ t) (append_assoc (escaped held) (character b) (strings_text false bytes)) in
    push ∙ turn ∙ ap (λ (x : Bool). 34 ∷ (escaped held ++ (character b ++ strings_text x bytes))) (sym z)

-- the text of the parts, inside a string or behind one
abbrev shown : Bool → List ℕ → List ℕ → List ℕ
shown true held bytes = 34 ∷ (escaped held ++ strings_text false bytes)
shown false held bytes = strings_text true bytes

pub strings_written : (begun : Bool) (held bytes : List ℕ) → are_strings begun bytes ≡ true → written (string_parts (not begun) (cond begun held []) bytes) ≡ shown begun held bytes
unfolding written
strings_written true held [] e = absurd cc
strings_written false held [] e = refl
strings_written true held (b ∷ bytes) e = go (eqb b 0) refl (strings_written false [] bytes) (strings_written true (held ++ b ∷ []) bytes)
  where
    f : FirstByte true b bytes
    f = first_byte true b bytes e

    go : (z : Bool) → eqb b 0 ≡ z → (are_strings false bytes ≡ true → written (string_parts true [] bytes) ≡ strings_text true bytes)
        → (are_strings true bytes ≡ true → written (string_parts false (held ++ b ∷ []) bytes) ≡ 34 ∷ (escaped (held ++ b ∷ []) ++ strings_text false bytes))
        → written (string_parts false held (b ∷ bytes)) ≡ 34 ∷ (escaped held ++ strings_text false (b ∷ bytes))
    go true z over on = let k = over (f.ends z).1 in rw (z, k) (ap (λ (t : List ℕ). 34 ∷ t) (append_assoc (escaped held) (34 ∷ []) (strings_text true bytes)))
    go false z over on =
        ap written (cond-false (eqb b 0) (Word kinds.Text (quoted held) ∷ string_parts true [] bytes) (string_parts false (held ++ b ∷ []) bytes) z) ∙ on (f.goes_on z).1 ∙ on_text held bytes b z
strings_written false held (b ∷ bytes) e = go (eqb b 0) refl (strings_written true (b ∷ []) bytes)
  where
    f : FirstByte false b bytes
    f = first_byte false b bytes e

    go : (z : Bool) → eqb b 0 ≡ z → (are_strings true bytes ≡ true → written (string_parts false (b ∷ []) bytes) ≡ 34 ∷ (escaped (b ∷ []) ++ strings_text false bytes))
        → written (string_parts true [] (b ∷ bytes)) ≡ strings_text true (b ∷ bytes)
    go true z on = absurd (true≢false (sym (f.ends z).0))
    go false z on =
        ap (λ (x : List Segment). 44 ∷ 32 ∷ written x) (cond-false (eqb b 0) (Word kinds.Text (quoted []) ∷ string_parts true [] bytes) (string_parts false (b ∷ []) bytes) z)
        ∙ ap (λ (t : List ℕ). 44 ∷ 32 ∷ t) (on (f.goes_on z).1 ∙ on_text [] bytes b z)

-- strings from the first on
pub strings_begin : (bytes : List ℕ) → eqb (length bytes) 0 ≡ false → are_strings false bytes ≡ true → written (string_parts false [] bytes) ≡ 34 ∷ strings_text false bytes
unfolding written
strings_begin [] some e = absurd cc
strings_begin (b ∷ bytes) some e = go (eqb b 0) refl
  where
    f : FirstByte false b bytes
    f = first_byte false b bytes e

    go : (z : Bool) → eqb b 0 ≡ z → written (string_parts false [] (b ∷ bytes)) ≡ 34 ∷ strings_text false (b ∷ bytes)
    go true z = absurd (true≢false (sym (f.ends z).0))
    go false z =
        ap written (cond-false (eqb b 0) (Word kinds.Text (quoted []) ∷ string_parts true [] bytes) (string_parts false (b ∷ []) bytes) z)
        ∙ strings_written true (b ∷ []) bytes (f.goes_on z).1 ∙ on_text [] bytes b z
