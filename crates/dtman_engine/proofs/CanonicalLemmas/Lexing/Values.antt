-- What stands behind a name, in parts.
use Rattle.std.proofs.Common.{◌≡◌, ℕ, suc, ◌%◌, Bool, true, false, eqb, cond, List, [], ◌∷◌, ◌++◌, refl, sym, append_assoc, length, subst}
use Rattle.std.specs.Prelude.{codes}
use Rattle.std.proofs.lemmas.Bool.{cond_both}
use Rattle.dt_blob.specs.SourceText.{are_strings, cells_text, pairs_text, value_text, value_part}
use Rattle.dt_text.specs.declared.lexeme.lexeme.Kind.TheVariants as kinds
use Rattle.dt_text.specs.Lexeme.Contexts.{step}
use Rattle.dtman_engine.specs.Canonical.Bytes.{are_bytes}
use Rattle.dtman_engine.specs.Canonical.Private.Lexed.{Segment, Blanks, Word, written, string_parts, cell_parts, pair_parts, value_parts, stop_parts, equals_parts, behind_name}
use Rattle.dtman_engine.proofs.CanonicalLemmas.Lexing.Segments.{Stands, written_append}
use Rattle.dtman_engine.proofs.CanonicalLemmas.Lexing.Marks.{at_value, at_name, at_byte, semicolon, equals, less, greater, square, end_square}
use Rattle.dtman_engine.proofs.CanonicalLemmas.Lexing.Strings.{strings_stand, strings_begin}
use Rattle.dtman_engine.proofs.CanonicalLemmas.Lexing.Elements.{cells_stand, cells_written, pairs_stand, pairs_written}

-- ---- they stand

pub stop_stands : (n : ℕ) (rest : List Segment) → Stands (at_name (suc n)) rest → Stands (at_value (suc n)) (stop_parts ++ rest)
unfolding Stands step
stop_stands n rest h = (semicolon (suc n) (written (Blanks (codes "\n") ∷ rest)), (refl, h))

cells_in_place : (n : ℕ) (value : List ℕ) (rest : List Segment) → are_bytes value ≡ true → Stands (at_value n) rest → Stands (at_value n) ((Word kinds.Less (codes "<") ∷ (cell_parts false value ++ Word kinds.Greater (codes ">") ∷ [])) ++ rest)
unfolding Stands step written
cells_in_place n value rest e h =
    let end = Word kinds.Greater (codes ">") ∷ rest in
    let inner : Stands (at_value n) (cell_parts false value ++ end) = cells_stand n false value end e (record { no_hex = refl; no_u = refl; no_ell = refl }) (greater n (written rest), h) in
    let turn = append_assoc (cell_parts false value) (Word kinds.Greater (codes ">") ∷ []) rest in
    (less n (written ((cell_parts false value ++ Word kinds.Greater (codes ">") ∷ []) ++ rest)), subst (λ (x : List Segment). Stands (at_value n) x) (sym turn) inner)

pairs_in_place : (n : ℕ) (value : List ℕ) (rest : List Segment) → are_bytes value ≡ true → Stands (at_value n) rest → Stands (at_value n) ((Word kinds.Square (codes "[") ∷ (pair_parts false value ++ Word kinds.EndSquare (codes "]") ∷ [])) ++ rest)
unfolding Stands step written
pairs_in_place n value rest e h =
    let end = Word kinds.EndSquare (codes "]") ∷ rest in
    let inner : Stands (at_byte n) (pair_parts false value ++ end) = pairs_stand n false value end e (refl, refl) (end_square n (written rest), h) in
    let turn = append_assoc (pair_parts false value) (Word kinds.EndSquare (codes "]") ∷ []) rest in
    (square n (written ((pair_parts false value ++ Word kinds.EndSquare (codes "]") ∷ []) ++ rest)), subst (λ (x : List Segment). Stands (at_byte n) x) (sym turn) inner)

value_stands : (n : ℕ) (value : List ℕ) (rest : List Segment) → are_bytes value ≡ true → Stands (at_value n) rest → Stands (at_value n) (value_parts value ++ rest)
value_stands n value rest e h =
    cond_both (are_strings false value) (string_parts false [] value) other (λ (x : List Segment). Stands (at_value n) (x ++ rest))
    (λ s. strings_stand n false false [] value rest refl s h)
    (λ s. cond_both (eqb (length value % 4) 0) (Word kinds.Less (codes "<") ∷ (cell_parts false value ++ Word kinds.Greater (codes ">") ∷ [])) (Word kinds.Square (codes "[") ∷ (pair_parts false value ++ Word kinds.EndSquare (codes "]") ∷ [])) (λ (x : List Segment). Stands (at_value n) (x ++ rest))
    (λ f. cells) (λ f. pairs))
  where
    other : List Segment
    other = cond (eqb (length value % 4) 0) (Word kinds.Less (codes "<") ∷ (cell_parts false value ++ Word kinds.Greater (codes ">") ∷ [])) (Word kinds.Square (codes "[") ∷ (pair_parts false value ++ Word kinds.EndSquare (codes "]") ∷ []))

    cells : Stands (at_value n) ((Word kinds.Less (codes "<") ∷ (cell_parts false value ++ Word kinds.Greater (codes ">") ∷ [])) ++ rest)
    cells = cells_in_place n value rest e h

    pairs : Stands (at_value n) ((Word kinds.Square (codes "[") ∷ (pair_parts false value ++ Word kinds.EndSquare (codes "]") ∷ [])) ++ rest)
    pairs = pairs_in_place n value rest e h

equals_stand : (n : ℕ) (v rest : List Segment) → Stands (at_value (suc n)) (v ++ (stop_parts ++ rest)) → Stands (at_value (suc n)) ((equals_parts ++ (v ++ stop_parts)) ++ rest)
unfolding Stands step
equals_stand n v rest h =
    let turn = append_assoc v stop_parts rest in
    (refl, (equals (suc n) (written (Blanks (codes " ") ∷ ((v ++ stop_parts) ++ rest))), (refl, subst (λ (x : List Segment). Stands (at_value (suc n)) x) (sym turn) h)))

pub behind_stands : (n : ℕ) (value : List ℕ) (rest : List Segment) → are_bytes value ≡ true → Stands (at_name (suc n)) rest → Stands (at_value (suc n)) (behind_name value ++ rest)
behind_stands n value rest e h =
    cond_both (eqb (length value) 0) stop_parts (equals_parts ++ (value_parts value ++ stop_parts)) (λ (x : List Segment). Stands (at_value (suc n)) (x ++ rest))
    (λ z. stop_stands n rest h)
    (λ z. equals_stand n (value_parts value) rest (value_stands (suc n) value (stop_parts ++ rest) e (stop_stands n rest h)))

-- ---- their text

cells_shown : (value : List ℕ) → written (Word kinds.Less (codes "<") ∷ (cell_parts false value ++ Word kinds.Greater (codes ">") ∷ [])) ≡ 60 ∷ (cells_text false value ++ 62 ∷ [])
unfolding written
cells_shown value = let k = written_append (cell_parts false value) (Word kinds.Greater (codes ">") ∷ []) in let c = cells_written false value in rw (k, c) refl

pairs_shown : (value : List ℕ) → written (Word kinds.Square (codes "[") ∷ (pair_parts false value ++ Word kinds.EndSquare (codes "]") ∷ [])) ≡ 91 ∷ (pairs_text false value ++ 93 ∷ [])
unfolding written
pairs_shown value = let k = written_append (pair_parts false value) (Word kinds.EndSquare (codes "]") ∷ []) in let c = pairs_written false value in rw (k, c) refl

-- each choice is shown
chosen : (b : Bool) (x y : List Segment) (t u : List ℕ) → (b ≡ true → written x ≡ t) → (b ≡ false → written y ≡ u) → written (cond b x y) ≡ cond b t u
chosen true x y t u f g = f refl
chosen false x y t u f g = g refl

value_written : (value : List ℕ) → eqb (length value) 0 ≡ false → written (value_parts value) ≡ value_text value
value_written value some =
    chosen (are_strings false value) _ _ _ _ (strings_begin value some)
    (λ s. chosen (eqb (length value % 4) 0) _ _ _ _ (λ f. cells_shown value) (λ f. pairs_shown value))

stop_written : written stop_parts ≡ codes ";\n"
unfolding written
stop_written = refl

equals_written : (v : List Segment) (t : List ℕ) → written v ≡ t → written (equals_parts ++ (v ++ stop_parts)) ≡ codes " = " ++ (t ++ codes ";\n")
unfolding written
equals_written v t e = let k = written_append v stop_parts in rw (k, e) refl

pub behind_written : (value : List ℕ) → written (behind_name value) ≡ value_part value
behind_written value =
    chosen (eqb (length value) 0) _ _ _ _ (λ z. stop_written)
    (λ z. equals_written (value_parts value) (value_text value) (value_written value z))
