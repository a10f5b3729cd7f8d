-- Cells and byte strings of a value, in parts.
use Rattle.std.proofs.Common.{◌≡◌, ℕ, Bool, true, false, ltb, List, [], ◌∷◌, ◌++◌, refl, ap}
use Rattle.std.proofs.lemmas.Bool.{and_parts}
use Rattle.dt_blob.specs.SourceText.{hex_of, cells_text, pairs_text}
use Rattle.dt_text.specs.Lexeme.Contexts.{step}
use Rattle.dtman_engine.specs.Canonical.Bytes.{are_bytes}
use Rattle.dtman_engine.specs.Canonical.Private.Lexed.{Segment, written, cell_parts, pair_parts}
use Rattle.dtman_engine.proofs.CanonicalLemmas.Lexing.Segments.{Stands}
use Rattle.dtman_engine.proofs.CanonicalLemmas.Lexing.Marks.{at_value, at_byte}
use Rattle.dtman_engine.proofs.CanonicalLemmas.Lexing.Numbers.{StopsAt, PartsAt, literal_before, pair_before}

-- ---- cells

cells_stop : (bytes : List ℕ) (rest : List Segment) → StopsAt (written rest) → StopsAt (written (cell_parts true bytes ++ rest))
unfolding written
cells_stop [] rest h = h
cells_stop (a ∷ []) rest h = h
cells_stop (a ∷ b ∷ []) rest h = h
cells_stop (a ∷ b ∷ c ∷ []) rest h = h
cells_stop (a ∷ b ∷ c ∷ d ∷ bytes) rest h = record { no_hex = refl; no_u = refl; no_ell = refl }

-- the bytes of a cell, and those behind it
pub four_bytes : (a b c d : ℕ) (bytes : List ℕ) → are_bytes (a ∷ b ∷ c ∷ d ∷ bytes) ≡ true → (are_bytes (a ∷ b ∷ c ∷ d ∷ []) ≡ true) × (are_bytes bytes ≡ true)
four_bytes a b c d bytes e =
    let p = and_parts (ltb a 256) (are_bytes (b ∷ c ∷ d ∷ bytes)) e in
    let q = and_parts (ltb b 256) (are_bytes (c ∷ d ∷ bytes)) p.1 in
    let r = and_parts (ltb c 256) (are_bytes (d ∷ bytes)) q.1 in
    let s = and_parts (ltb d 256) (are_bytes bytes) r.1 in
    let p' = p.0 in let q' = q.0 in let r' = r.0 in let s' = s.0 in
    (rw (p', q', r', s') refl, s.1)

pub cells_stand : (n : ℕ) (later : Bool) (bytes : List ℕ) (rest : List Segment) → are_bytes bytes ≡ true → StopsAt (written rest) → Stands (at_value n) rest → Stands (at_value n) (cell_parts later bytes ++ rest)
unfolding Stands step
cells_stand n later [] rest e g h = h
cells_stand n later (a ∷ []) rest e g h = h
cells_stand n later (a ∷ b ∷ []) rest e g h = h
cells_stand n later (a ∷ b ∷ c ∷ []) rest e g h = h
cells_stand n false (a ∷ b ∷ c ∷ d ∷ bytes) rest e g h =
    let p = four_bytes a b c d bytes e in
    (literal_before n a (b ∷ c ∷ d ∷ []) (written (cell_parts true bytes ++ rest)) p.0 (cells_stop bytes rest g), cells_stand n true bytes rest p.1 g h)
cells_stand n true (a ∷ b ∷ c ∷ d ∷ bytes) rest e g h =
    let p = four_bytes a b c d bytes e in
    (refl, (literal_before n a (b ∷ c ∷ d ∷ []) (written (cell_parts true bytes ++ rest)) p.0 (cells_stop bytes rest g), cells_stand n true bytes rest p.1 g h))

pub cells_written : (later : Bool) (bytes : List ℕ) → written (cell_parts later bytes) ≡ cells_text later bytes
unfolding written
cells_written later [] = refl
cells_written later (a ∷ []) = refl
cells_written later (a ∷ b ∷ []) = refl
cells_written later (a ∷ b ∷ c ∷ []) = refl
cells_written false (a ∷ b ∷ c ∷ d ∷ bytes) = ap (λ (t : List ℕ). 48 ∷ 120 ∷ (hex_of (a ∷ b ∷ c ∷ d ∷ []) ++ t)) (cells_written true bytes)
cells_written true (a ∷ b ∷ c ∷ d ∷ bytes) = ap (λ (t : List ℕ). 32 ∷ 48 ∷ 120 ∷ (hex_of (a ∷ b ∷ c ∷ d ∷ []) ++ t)) (cells_written true bytes)

-- ---- single bytes

pairs_part : (bytes : List ℕ) (rest : List Segment) → PartsAt (written rest) → PartsAt (written (pair_parts true bytes ++ rest))
unfolding written
pairs_part [] rest h = h
pairs_part (b ∷ bytes) rest h = (refl, refl)

pub pairs_stand : (n : ℕ) (later : Bool) (bytes : List ℕ) (rest : List Segment) → are_bytes bytes ≡ true → PartsAt (written rest) → Stands (at_byte n) rest → Stands (at_byte n) (pair_parts later bytes ++ rest)
unfolding Stands step
pairs_stand n later [] rest e g h = h
pairs_stand n false (b ∷ bytes) rest e g h =
    let p = and_parts (ltb b 256) (are_bytes bytes) e in
    (pair_before n b (written (pair_parts true bytes ++ rest)) p.0 (pairs_part bytes rest g), pairs_stand n true bytes rest p.1 g h)
pairs_stand n true (b ∷ bytes) rest e g h =
    let p = and_parts (ltb b 256) (are_bytes bytes) e in
    (refl, (pair_before n b (written (pair_parts true bytes ++ rest)) p.0 (pairs_part bytes rest g), pairs_stand n true bytes rest p.1 g h))

pub pairs_written : (later : Bool) (bytes : List ℕ) → written (pair_parts later bytes) ≡ pairs_text later bytes
unfolding written
pairs_written later [] = refl
pairs_written false (b ∷ bytes) = ap (λ (t : List ℕ). hex_of (b ∷ []) ++ t) (pairs_written true bytes)
pairs_written true (b ∷ bytes) = ap (λ (t : List ℕ). 32 ∷ (hex_of (b ∷ []) ++ t)) (pairs_written true bytes)
