-- Cells and byte strings of the canonical source: how they are spelled, and what they say.
use Rattle.std.proofs.Common.{◌≡◌, ℕ, ◌+◌, ◌%◌, ◌^◌, ◌<◌, Bool, true, false, ltb, List, [], ◌∷◌, ◌++◌, length, map, Option, Some, Ok, refl, sym, ap, ◌∙◌, append_assoc, append-nil, subst, arith, inl}
use Rattle.std.specs.Prelude.{fold}
use Rattle.std.proofs.lemmas.Bool.{and_parts, ltb-true, lt-ltb}
use Rattle.dt_blob.specs.SourceText.{hex_of}
use Rattle.dt_text.specs.declared.lexeme.lexeme.Lexeme.{Lexeme}
use Rattle.dt_text.specs.declared.lexeme.lexeme.Fault.{Fault}
use Rattle.dt_text.specs.declared.lexeme.lexeme.Kind.{Kind}
use Rattle.dt_text.specs.declared.lexeme.lexeme.Kind.TheVariants as kinds
use Rattle.dt_text.specs.declared.expression.elements.Width.TheVariants.{ThirtyTwo}
use Rattle.dt_text.specs.Expression.Expression.{Spells, is_number}
use Rattle.dt_text.specs.Expression.Values.{literal_number, below_64, or_out_of_range, literal_of, value_of}
use Rattle.dt_text.specs.Expression.Element.{element}
use Rattle.dt_source.specs.Sequences.{SpellsEach}
use Rattle.dt_source.specs.Strings.{pair_value}
use Rattle.dt_source.specs.Pieces.{cell_pieces, cell_fault}
use Rattle.dt_source.specs.TreeMeaning.Syntax.{Piece, Plain}
use Rattle.dt_source.specs.Words.{concat}
use Rattle.dt_source.specs.Source.{Pairs, Cells, OnePair, SpellsCell, cell_of, cells_said, pair_bytes, cells_faults, fault_list}
use Rattle.dtman_engine.specs.Canonical.Bytes.{are_bytes}
use Rattle.dtman_engine.specs.Canonical.Private.Lexed.{Segment, Blanks, Word, past, placed, lexeme_at, cell_parts, pair_parts, number_cell}
use Rattle.dtman_engine.proofs.CanonicalLemmas.Spelling.Slices.{At, at_next, at_word, past_append, placed_append}
use Rattle.dtman_engine.proofs.CanonicalLemmas.Lexing.Elements.{four_bytes}
use Rattle.dtman_engine.proofs.CanonicalLemmas.Spelling.Readings.{byte_on, literal_is, four, four_small, four_back, pair_is}
use Rattle.dtman_engine.proofs.CanonicalLemmas.Spelling.Quotes.{bare_piece, Pieced}

-- ---- literals

pub literal_reads : (text : List ℕ) (p : ℕ) (bytes : List ℕ) (ss : List Segment) → At text p (Word kinds.Literal (48 ∷ 120 ∷ hex_of bytes) ∷ ss) → are_bytes bytes ≡ true → fold byte_on 0 bytes < 2 ^ 64
    → literal_of text (lexeme_at p kinds.Literal (48 ∷ 120 ∷ hex_of bytes)) ≡ Ok (fold byte_on 0 bytes)
unfolding literal_of
literal_reads text p bytes ss h e lt =
    let l = lexeme_at p kinds.Literal (48 ∷ 120 ∷ hex_of bytes) in
    ap (λ (bs : List ℕ). or_out_of_range l (below_64 (literal_number bs))) (at_word text p kinds.Literal (48 ∷ 120 ∷ hex_of bytes) ss h)
    ∙ ap (λ (o : Option ℕ). or_out_of_range l (below_64 o)) (literal_is bytes e)
    ∙ within (fold byte_on 0 bytes) l (lt-ltb (fold byte_on 0 bytes) (2 ^ 64) lt)
  where
    within : (n : ℕ) (l : Lexeme) → ltb n (2 ^ 64) ≡ true → or_out_of_range l (below_64 (Some n)) ≡ Ok n
    within n l e = rw e refl

-- ---- of one kind

abbrev AllOf : Kind → List Lexeme → Type 0
AllOf k [] = Unit {0}
AllOf k (l ∷ ls) = (l.kind ≡ k) × AllOf k ls

numbers_spelled : (ls m : List Lexeme) → AllOf kinds.Literal ls → SpellsEach SpellsCell (map number_cell ls) (ls ++ m) m
unfolding SpellsEach Spells
numbers_spelled [] m h = refl
numbers_spelled (l ∷ ls) m h = (ls ++ m, (ls ++ m, refl, (tt, (ap is_number h.0, refl))), numbers_spelled ls m h.1)

pairs_spelled : (ls m : List Lexeme) → AllOf kinds.Pair ls → SpellsEach OnePair ls (ls ++ m) m
unfolding SpellsEach
pairs_spelled [] m h = refl
pairs_spelled (l ∷ ls) m h = (ls ++ m, (inl h.0, refl), pairs_spelled ls m h.1)

cells_literal : (p : ℕ) (later : Bool) (bytes : List ℕ) → AllOf kinds.Literal (placed p (cell_parts later bytes))
unfolding placed
cells_literal p later [] = tt
cells_literal p later (a ∷ []) = tt
cells_literal p later (a ∷ b ∷ []) = tt
cells_literal p later (a ∷ b ∷ c ∷ []) = tt
cells_literal p false (a ∷ b ∷ c ∷ d ∷ bytes) = (refl, cells_literal (p + 10) true bytes)
cells_literal p true (a ∷ b ∷ c ∷ d ∷ bytes) = (refl, cells_literal (p + 1 + 10) true bytes)

pairs_pair : (p : ℕ) (later : Bool) (bytes : List ℕ) → AllOf kinds.Pair (placed p (pair_parts later bytes))
unfolding placed
pairs_pair p later [] = tt
pairs_pair p false (b ∷ bytes) = (refl, pairs_pair (p + 2) true bytes)
pairs_pair p true (b ∷ bytes) = (refl, pairs_pair (p + 1 + 2) true bytes)

-- ---- what cells say

abbrev fours : List ℕ → List (List ℕ)
fours [] = []
fours (a ∷ []) = []
fours (a ∷ b ∷ []) = []
fours (a ∷ b ∷ c ∷ []) = []
fours (a ∷ b ∷ c ∷ d ∷ bytes) = (a ∷ b ∷ c ∷ d ∷ []) ∷ fours bytes

fours_whole : (bytes : List ℕ) → length bytes % 4 ≡ 0 → concat (fours bytes) ≡ bytes
fours_whole [] e = refl
fours_whole (a ∷ []) e = absurd cc
fours_whole (a ∷ b ∷ []) e = absurd cc
fours_whole (a ∷ b ∷ c ∷ []) e = absurd cc
fours_whole (a ∷ b ∷ c ∷ d ∷ bytes) e = ap (λ (t : List ℕ). a ∷ b ∷ c ∷ d ∷ t) (fours_whole bytes (omega arith))

fits : (v place : ℕ) → v < 2 ^ 32 → element ThirtyTwo place (Ok v) ≡ Ok v
fits v place lt = let e = lt-ltb v (2 ^ 32) lt in rw e refl

module _ (text : List ℕ) where
  -- what numbers say as cells of 32 bits, and their faults
  abbrev numbers_said : List Lexeme → List Piece
  numbers_said ls = cells_said text (Some ThirtyTwo) (map number_cell ls)

  abbrev numbers_faults : List Lexeme → List Fault
  numbers_faults ls = cells_faults text (Some ThirtyTwo) (map number_cell ls)

  record OneCell (l : Lexeme) (bytes : List ℕ) : Type 0 where
    pub says : cell_pieces text (Some ThirtyTwo) (cell_of text (number_cell l)) ≡ Plain bytes ∷ []
    pub faultless : fault_list (cell_fault (Some ThirtyTwo) (cell_of text (number_cell l))) ≡ []

  one_cell : (p a b c d : ℕ) (ss : List Segment) → At text p (Word kinds.Literal (48 ∷ 120 ∷ hex_of (a ∷ b ∷ c ∷ d ∷ [])) ∷ ss) → are_bytes (a ∷ b ∷ c ∷ d ∷ []) ≡ true
      → OneCell (lexeme_at p kinds.Literal (48 ∷ 120 ∷ hex_of (a ∷ b ∷ c ∷ d ∷ []))) (a ∷ b ∷ c ∷ d ∷ [])
  unfolding value_of
  one_cell p a b c d ss h e =
      let q = and_parts (ltb a 256) (are_bytes (b ∷ c ∷ d ∷ [])) e in
      let r = and_parts (ltb b 256) (are_bytes (c ∷ d ∷ [])) q.1 in
      let s = and_parts (ltb c 256) (are_bytes (d ∷ [])) r.1 in
      let t = and_parts (ltb d 256) (are_bytes []) s.1 in
      let small = four_small a b c d (ltb-true a 256 q.0) (ltb-true b 256 r.0) (ltb-true c 256 s.0) (ltb-true d 256 t.0) in
      let v = literal_reads text p (a ∷ b ∷ c ∷ d ∷ []) ss h e (omega arith) in
      let f = fits (four a b c d) p small in
      let back = four_back a b c d (ltb-true a 256 q.0) (ltb-true b 256 r.0) (ltb-true c 256 s.0) (ltb-true d 256 t.0) in
      record { says = rw (v, f, back) refl; faultless = rw (v, f) refl }

  record CellsSaid (ls : List Lexeme) (bytes : List ℕ) : Type 0 where
    pub says : numbers_said ls ≡ map Plain (fours bytes)
    pub faultless : numbers_faults ls ≡ []

  one_more : (l : Lexeme) (ls : List Lexeme) (a b c d : ℕ) (bytes : List ℕ) → OneCell l (a ∷ b ∷ c ∷ d ∷ []) → CellsSaid ls bytes → CellsSaid (l ∷ ls) (a ∷ b ∷ c ∷ d ∷ bytes)
  one_more l ls a b c d bytes one more = record {
    says = ap (λ (ps : List Piece). ps ++ numbers_said ls) one.says ∙ ap (λ (ps : List Piece). Plain (a ∷ b ∷ c ∷ d ∷ []) ∷ ps) more.says;
    faultless = ap (λ (fs : List Fault). fs ++ numbers_faults ls) one.faultless ∙ more.faultless;
  }

  cells_say : (p : ℕ) (later : Bool) (bytes : List ℕ) (rest : List Segment) → At text p (cell_parts later bytes ++ rest) → are_bytes bytes ≡ true → CellsSaid (placed p (cell_parts later bytes)) bytes
  unfolding placed
  cells_say p later [] rest h e = record { says = refl; faultless = refl }
  cells_say p later (a ∷ []) rest h e = record { says = refl; faultless = refl }
  cells_say p later (a ∷ b ∷ []) rest h e = record { says = refl; faultless = refl }
  cells_say p later (a ∷ b ∷ c ∷ []) rest h e = record { says = refl; faultless = refl }
  cells_say p false (a ∷ b ∷ c ∷ d ∷ bytes) rest h e =
      let k = four_bytes a b c d bytes e in
      let w = 48 ∷ 120 ∷ hex_of (a ∷ b ∷ c ∷ d ∷ []) in
      let next = at_next text p (Word kinds.Literal w) (cell_parts true bytes ++ rest) h in
      one_more (lexeme_at p kinds.Literal w) (placed (p + 10) (cell_parts true bytes)) a b c d bytes (one_cell p a b c d (cell_parts true bytes ++ rest) h k.0) (cells_say (p + 10) true bytes rest next k.1)
  cells_say p true (a ∷ b ∷ c ∷ d ∷ bytes) rest h e =
      let k = four_bytes a b c d bytes e in
      let w = 48 ∷ 120 ∷ hex_of (a ∷ b ∷ c ∷ d ∷ []) in
      let blank = at_next text p (Blanks (32 ∷ [])) (Word kinds.Literal w ∷ (cell_parts true bytes ++ rest)) h in
      let next = at_next text (p + 1) (Word kinds.Literal w) (cell_parts true bytes ++ rest) blank in
      one_more (lexeme_at (p + 1) kinds.Literal w) (placed (p + 1 + 10) (cell_parts true bytes)) a b c d bytes (one_cell (p + 1) a b c d (cell_parts true bytes ++ rest) blank k.0) (cells_say (p + 1 + 10) true bytes rest next k.1)

  -- ---- what pairs say

  one_pair : (p b : ℕ) (ss : List Segment) → At text p (Word kinds.Pair (hex_of (b ∷ [])) ∷ ss) → ltb b 256 ≡ true → pair_bytes text (lexeme_at p kinds.Pair (hex_of (b ∷ []))) ≡ b ∷ []
  one_pair p b ss h e =
      ap (λ (bs : List ℕ). pair_value bs ∷ []) (at_word text p kinds.Pair (hex_of (b ∷ [])) ss h) ∙ ap (λ (x : ℕ). x ∷ []) (pair_is b e)

  pairs_say : (p : ℕ) (later : Bool) (bytes : List ℕ) (rest : List Segment) → At text p (pair_parts later bytes ++ rest) → are_bytes bytes ≡ true → concat (map (pair_bytes text) (placed p (pair_parts later bytes))) ≡ bytes
  unfolding placed
  pairs_say p later [] rest h e = refl
  pairs_say p false (b ∷ bytes) rest h e =
      let k = and_parts (ltb b 256) (are_bytes bytes) e in
      let next = at_next text p (Word kinds.Pair (hex_of (b ∷ []))) (pair_parts true bytes ++ rest) h in
      ap (λ (bs : List ℕ). bs ++ concat (map (pair_bytes text) (placed (p + 2) (pair_parts true bytes)))) (one_pair p b (pair_parts true bytes ++ rest) h k.0) ∙ ap (λ (bs : List ℕ). b ∷ bs) (pairs_say (p + 2) true bytes rest next k.1)
  pairs_say p true (b ∷ bytes) rest h e =
      let k = and_parts (ltb b 256) (are_bytes bytes) e in
      let blank = at_next text p (Blanks (32 ∷ [])) (Word kinds.Pair (hex_of (b ∷ [])) ∷ (pair_parts true bytes ++ rest)) h in
      let next = at_next text (p + 1) (Word kinds.Pair (hex_of (b ∷ []))) (pair_parts true bytes ++ rest) blank in
      ap (λ (bs : List ℕ). bs ++ concat (map (pair_bytes text) (placed (p + 1 + 2) (pair_parts true bytes)))) (one_pair (p + 1) b (pair_parts true bytes ++ rest) blank k.0) ∙ ap (λ (bs : List ℕ). b ∷ bs) (pairs_say (p + 1 + 2) true bytes rest next k.1)

  -- ---- between brackets

  -- where the lexemes between brackets lie
  inner_placed : (p : ℕ) (inner : List Segment) (k : Kind) (b : ℕ) (rest : List Segment) → placed p ((inner ++ Word k (b ∷ []) ∷ []) ++ rest) ≡ placed p inner ++ placed (past p inner) (Word k (b ∷ []) ∷ rest)
  inner_placed p inner k b rest = ap (placed p) (append_assoc inner (Word k (b ∷ []) ∷ []) rest) ∙ placed_append p inner (Word k (b ∷ []) ∷ rest)

  -- and what is behind them
  behind_placed : (p : ℕ) (inner : List Segment) (k : Kind) (b : ℕ) (rest : List Segment) → placed (past p inner + 1) rest ≡ placed (past p (inner ++ Word k (b ∷ []) ∷ [])) rest
  unfolding past
  behind_placed p inner k b rest = ap (λ (q : ℕ). placed q rest) (sym (past_append p inner (Word k (b ∷ []) ∷ [])))

  pub cells_pieced : (p : ℕ) (value : List ℕ) (rest : List Segment) → At text p (Word kinds.Less (60 ∷ []) ∷ ((cell_parts false value ++ Word kinds.Greater (62 ∷ []) ∷ []) ++ rest)) → are_bytes value ≡ true → length value % 4 ≡ 0
      → Pieced text p (Word kinds.Less (60 ∷ []) ∷ (cell_parts false value ++ Word kinds.Greater (62 ∷ []) ∷ [])) (Cells (map number_cell (placed (p + 1) (cell_parts false value))) ∷ []) value rest
  unfolding placed past SpellsEach
  cells_pieced p value rest h e f =
      let inner = cell_parts false value in
      let at = at_next text p (Word kinds.Less (60 ∷ [])) ((inner ++ Word kinds.Greater (62 ∷ []) ∷ []) ++ rest) h in
      let at' = subst (λ (x : List Segment). At text (p + 1) x) (append_assoc inner (Word kinds.Greater (62 ∷ []) ∷ []) rest) at in
      let said = cells_say (p + 1) false value (Word kinds.Greater (62 ∷ []) ∷ rest) at' e in
      let a = placed (p + 1) ((inner ++ Word kinds.Greater (62 ∷ []) ∷ []) ++ rest) in
      let b = placed (past (p + 1) inner) (Word kinds.Greater (62 ∷ []) ∷ rest) in
      let each = subst (λ (x : List Lexeme). SpellsEach SpellsCell (map number_cell (placed (p + 1) inner)) x b) (sym (inner_placed (p + 1) inner kinds.Greater 62 rest)) (numbers_spelled (placed (p + 1) inner) b (cells_literal (p + 1) false value)) in
      let behind = placed (past (p + 1) (inner ++ Word kinds.Greater (62 ∷ []) ∷ [])) rest in
      record {
        spells = (behind, bare_piece (Cells (map number_cell (placed (p + 1) inner))) (lexeme_at p kinds.Less (60 ∷ []) ∷ a) behind (a, b, (refl, refl), each, (refl, behind_placed (p + 1) inner kinds.Greater 62 rest)), refl);
        bytes = fours value;
        says = append-nil (numbers_said (placed (p + 1) inner)) ∙ said.says;
        bytes_are = fours_whole value f;
        faultless = append-nil (numbers_faults (placed (p + 1) inner)) ∙ said.faultless;
      }

  pub pairs_pieced : (p : ℕ) (value : List ℕ) (rest : List Segment) → At text p (Word kinds.Square (91 ∷ []) ∷ ((pair_parts false value ++ Word kinds.EndSquare (93 ∷ []) ∷ []) ++ rest)) → are_bytes value ≡ true
      → Pieced text p (Word kinds.Square (91 ∷ []) ∷ (pair_parts false value ++ Word kinds.EndSquare (93 ∷ []) ∷ [])) (Pairs (placed (p + 1) (pair_parts false value)) ∷ []) value rest
  unfolding placed past SpellsEach
  pairs_pieced p value rest h e =
      let inner = pair_parts false value in
      let at = at_next text p (Word kinds.Square (91 ∷ [])) ((inner ++ Word kinds.EndSquare (93 ∷ []) ∷ []) ++ rest) h in
      let at' = subst (λ (x : List Segment). At text (p + 1) x) (append_assoc inner (Word kinds.EndSquare (93 ∷ []) ∷ []) rest) at in
      let said = pairs_say (p + 1) false value (Word kinds.EndSquare (93 ∷ []) ∷ rest) at' e in
      let a = placed (p + 1) ((inner ++ Word kinds.EndSquare (93 ∷ []) ∷ []) ++ rest) in
      let b = placed (past (p + 1) inner) (Word kinds.EndSquare (93 ∷ []) ∷ rest) in
      let each = subst (λ (x : List Lexeme). SpellsEach OnePair (placed (p + 1) inner) x b) (sym (inner_placed (p + 1) inner kinds.EndSquare 93 rest)) (pairs_spelled (placed (p + 1) inner) b (pairs_pair (p + 1) false value)) in
      let behind = placed (past (p + 1) (inner ++ Word kinds.EndSquare (93 ∷ []) ∷ [])) rest in
      record {
        spells = (behind, bare_piece (Pairs (placed (p + 1) inner)) (lexeme_at p kinds.Square (91 ∷ []) ∷ a) behind (a, b, (refl, refl), each, (refl, behind_placed (p + 1) inner kinds.EndSquare 93 rest)), refl);
        bytes = value ∷ [];
        says = ap (λ (bs : List ℕ). Plain bs ∷ []) said;
        bytes_are = append-nil value;
        faultless = refl;
      }
