-- Strings of the canonical source: how they are spelled, and what they say.
use Rattle.std.proofs.Common.{◌≡◌, ℕ, ◌+◌, ◌-◌, true, List, [], ◌∷◌, ◌++◌, length, map, drop, refl, ap, ◌∙◌, append_assoc, length-append, arith}
use Rattle.std.specs.Prelude.{flat_map, slice_range}
use Rattle.std.specs.List.{list_all}
use Rattle.std.proofs.lemmas.Bool.{and_parts}
use Rattle.dt_blob.specs.SourceText.{is_printable}
use Rattle.dt_text.specs.declared.lexeme.language.Language.TheVariants.{Profile}
use Rattle.dt_text.specs.declared.lexeme.lexeme.Lexeme.{Lexeme}
use Rattle.dt_text.specs.declared.lexeme.lexeme.Fault.{Fault}
use Rattle.dt_text.specs.declared.lexeme.lexeme.Kind.TheVariants as kinds
use Rattle.dt_text.specs.Expression.Values.{Value}
use Rattle.dt_source.specs.Sequences.{SpellsEach}
use Rattle.dt_source.specs.Strings.{chars_of, chars_with, string_bytes, string_faults, numbers, faults}
use Rattle.dt_source.specs.TreeMeaning.Syntax.{Piece, Plain}
use Rattle.dt_source.specs.Words.{concat}
use Rattle.dt_source.specs.Source.{PieceTree, Quoted, SpellsPiece, SpellsPlaced, SpellsFurther, piece_said, value_faults}
use Rattle.dtman_engine.specs.Canonical.Private.Lexed.{Segment, Blanks, Word, written, past, placed, lexeme_at, escaped, quoted, quoted_pieces}
use Rattle.dtman_engine.proofs.CanonicalLemmas.Spelling.Slices.{At, at_next, slice_front, drop_more}
use Rattle.dtman_engine.proofs.CanonicalLemmas.Spelling.Strung.{strung, all_printable, further}
use Rattle.dtman_engine.proofs.CanonicalLemmas.Spelling.Readings.{plain, chars_plain, plain_numbers, plain_faults}

-- ---- pieces

-- one or more pieces with commas between them
abbrev pub SpellsPieces : List PieceTree → List Lexeme → List Lexeme → Type 0
SpellsPieces [] ts rest = ⊥
SpellsPieces (p ∷ ps) ts rest = (a : List Lexeme) × SpellsPlaced p ts a × SpellsEach SpellsFurther ps a rest

-- a piece without labels
pub bare_piece : (p : PieceTree) (ts rest : List Lexeme) → SpellsPiece p ts rest → SpellsPlaced p ts rest
unfolding SpellsEach
bare_piece p ts rest h = (ts, rest, ([], refl), h, ([], refl))

-- The parts spell these pieces, which say the value and have no fault.
pub record Pieced (text : List ℕ) (p : ℕ) (parts : List Segment) (pieces : List PieceTree) (value : List ℕ) (rest : List Segment) : Type 0 where
  pub spells : SpellsPieces pieces (placed p (parts ++ rest)) (placed (past p parts) rest)
  pub bytes : List (List ℕ)
  pub says : flat_map (piece_said Profile text) pieces ≡ map Plain bytes
  pub bytes_are : concat bytes ≡ value
  pub faultless : value_faults Profile text pieces ≡ []

-- ---- one string

module _ (text : List ℕ) where
  string_slice : (p : ℕ) (s : List ℕ) (ss : List Segment) → At text p (Word kinds.Text (quoted s) ∷ ss) → slice_range text (p + 1) (p + length (quoted s) - 1) ≡ escaped s
  unfolding written
  string_slice p s ss h =
      let e : drop (p + 1) text ≡ (escaped s ++ 34 ∷ []) ++ written ss = drop_more text p (34 ∷ []) ((escaped s ++ 34 ∷ []) ++ written ss) h.is in
      let f = e ∙ append_assoc (escaped s) (34 ∷ []) (written ss) in
      let n : p + length (quoted s) - 1 ≡ p + 1 + length (escaped s) = omega (arith, length-append (escaped s) (34 ∷ [])) in
      ap (slice_range text (p + 1)) n ∙ slice_front text (p + 1) (escaped s) (34 ∷ written ss) f

  string_is : (p : ℕ) (s : List ℕ) (ss : List Segment) → At text p (Word kinds.Text (quoted s) ∷ ss) → list_all is_printable s ≡ true → chars_of Profile text (lexeme_at p kinds.Text (quoted s)) ≡ plain s
  string_is p s ss h e = ap (chars_with Profile 0 (p + 1)) (string_slice p s ss h) ∙ chars_plain (p + 1) s e

  string_says : (p : ℕ) (s : List ℕ) (ss : List Segment) → At text p (Word kinds.Text (quoted s) ∷ ss) → list_all is_printable s ≡ true → string_bytes Profile text (lexeme_at p kinds.Text (quoted s)) ≡ s ++ 0 ∷ []
  string_says p s ss h e = ap (λ (vs : List Value). numbers vs ++ 0 ∷ []) (string_is p s ss h e) ∙ ap (λ (bs : List ℕ). bs ++ 0 ∷ []) (plain_numbers s)

  string_faultless : (p : ℕ) (s : List ℕ) (ss : List Segment) → At text p (Word kinds.Text (quoted s) ∷ ss) → list_all is_printable s ≡ true → string_faults Profile text (lexeme_at p kinds.Text (quoted s)) ≡ []
  string_faultless p s ss h e = ap faults (string_is p s ss h e) ∙ plain_faults s

  -- ---- strings behind commas

  abbrev with_zeros : List (List ℕ) → List (List ℕ)
  with_zeros ss = map (λ s. s ++ 0 ∷ []) ss

  record FurtherSaid (p : ℕ) (ss : List (List ℕ)) (rest : List Segment) : Type 0 where
    pub spells : SpellsEach SpellsFurther (quoted_pieces (placed p (further ss))) (placed p (further ss ++ rest)) (placed (past p (further ss)) rest)
    pub says : flat_map (piece_said Profile text) (quoted_pieces (placed p (further ss))) ≡ map Plain (with_zeros ss)
    pub faultless : value_faults Profile text (quoted_pieces (placed p (further ss))) ≡ []

  further_said : (p : ℕ) (ss : List (List ℕ)) (rest : List Segment) → At text p (further ss ++ rest) → all_printable ss ≡ true → FurtherSaid p ss rest
  unfolding placed past SpellsEach
  further_said p [] rest h e = record { spells = refl; says = refl; faultless = refl }
  further_said p (s ∷ ss) rest h e =
      let k = and_parts (list_all is_printable s) (all_printable ss) e in
      let comma = at_next text p (Word kinds.Comma (44 ∷ [])) (Blanks (32 ∷ []) ∷ Word kinds.Text (quoted s) ∷ (further ss ++ rest)) h in
      let blank = at_next text (p + 1) (Blanks (32 ∷ [])) (Word kinds.Text (quoted s) ∷ (further ss ++ rest)) comma in
      let string = at_next text (p + 1 + 1) (Word kinds.Text (quoted s)) (further ss ++ rest) blank in
      let l = lexeme_at (p + 1 + 1) kinds.Text (quoted s) in
      let more = further_said (p + 1 + 1 + length (quoted s)) ss rest string k.1 in
      let says = string_says (p + 1 + 1) s (further ss ++ rest) blank k.0 in
      let faultless = string_faultless (p + 1 + 1) s (further ss ++ rest) blank k.0 in
      let behind = placed (p + 1 + 1 + length (quoted s)) (further ss ++ rest) in
      record {
        spells = (behind, (l ∷ behind, (refl, refl), bare_piece (Quoted l) (l ∷ behind) behind (refl, refl)), more.spells);
        says = ap (λ (bs : List ℕ). Plain bs ∷ flat_map (piece_said Profile text) (quoted_pieces (placed (p + 1 + 1 + length (quoted s)) (further ss)))) says ∙ ap (λ (ps : List Piece). Plain (s ++ 0 ∷ []) ∷ ps) more.says;
        faultless = ap (λ (fs : List Fault). fs ++ value_faults Profile text (quoted_pieces (placed (p + 1 + 1 + length (quoted s)) (further ss)))) faultless ∙ more.faultless;
      }

  zeros_strung : (ss : List (List ℕ)) → concat (with_zeros ss) ≡ strung ss
  zeros_strung [] = refl
  zeros_strung (s ∷ ss) = append_assoc s (0 ∷ []) (concat (with_zeros ss)) ∙ ap (λ (t : List ℕ). s ++ 0 ∷ t) (zeros_strung ss)

  pub strings_pieced : (p : ℕ) (s : List ℕ) (ss : List (List ℕ)) (rest : List Segment) → At text p (Word kinds.Text (quoted s) ∷ (further ss ++ rest)) → list_all is_printable s ≡ true → all_printable ss ≡ true
      → Pieced text p (Word kinds.Text (quoted s) ∷ further ss) (quoted_pieces (placed p (Word kinds.Text (quoted s) ∷ further ss))) (s ++ 0 ∷ strung ss) rest
  unfolding placed past
  strings_pieced p s ss rest h e f =
      let l = lexeme_at p kinds.Text (quoted s) in
      let string = at_next text p (Word kinds.Text (quoted s)) (further ss ++ rest) h in
      let more = further_said (p + length (quoted s)) ss rest string f in
      let says = string_says p s (further ss ++ rest) h e in
      let faultless = string_faultless p s (further ss ++ rest) h e in
      let behind = placed (p + length (quoted s)) (further ss ++ rest) in
      record {
        spells = (behind, bare_piece (Quoted l) (l ∷ behind) behind (refl, refl), more.spells);
        bytes = with_zeros (s ∷ ss);
        says = ap (λ (bs : List ℕ). Plain bs ∷ flat_map (piece_said Profile text) (quoted_pieces (placed (p + length (quoted s)) (further ss)))) says ∙ ap (λ (ps : List Piece). Plain (s ++ 0 ∷ []) ∷ ps) more.says;
        bytes_are = zeros_strung (s ∷ ss);
        faultless = ap (λ (fs : List Fault). fs ++ value_faults Profile text (quoted_pieces (placed (p + length (quoted s)) (further ss)))) faultless ∙ more.faultless;
      }
