-- What stands behind a name says the value.
use Rattle.std.proofs.Common.{◌≡◌, ℕ, ◌%◌, Bool, true, false, eqb, cond, List, [], ◌∷◌, ◌++◌, length, map, refl, sym, ap, ◌∙◌, append_assoc, append-nil, subst, arith}
use Rattle.std.proofs.lemmas.Bool.{eqb-true}
use Rattle.dt_blob.specs.SourceText.{are_strings}
use Rattle.dt_text.specs.declared.lexeme.language.Language.TheVariants.{Profile}
use Rattle.dt_text.specs.declared.lexeme.lexeme.Lexeme.{Lexeme}
use Rattle.dt_text.specs.declared.lexeme.lexeme.Kind.TheVariants as kinds
use Rattle.dt_text.specs.Expression.Expression.{Begins}
use Rattle.dt_source.specs.TreeMeaning.Syntax.{Plain}
use Rattle.dt_source.specs.Pieces.{joined, join_bytes}
use Rattle.dt_source.specs.Words.{concat}
use Rattle.dt_source.specs.Source.{PieceTree, SpellsValue, value_said, value_faults}
use Rattle.dtman_engine.specs.Canonical.Bytes.{are_bytes}
use Rattle.dtman_engine.specs.Canonical.SourceOf.{value_of}
use Rattle.dtman_engine.specs.Canonical.Private.Lexed.{Segment, Word, past, placed, string_parts, value_parts, stop_parts, equals_parts, behind_name, quoted, quoted_pieces, value_pieces, property_pieces}
use Rattle.dtman_engine.proofs.CanonicalLemmas.Spelling.Slices.{At, at_past, past_append}
use Rattle.dtman_engine.proofs.CanonicalLemmas.Spelling.Strung.{cut_first, further}
use Rattle.dtman_engine.proofs.CanonicalLemmas.Spelling.Quotes.{SpellsPieces, Pieced, strings_pieced}
use Rattle.dtman_engine.proofs.CanonicalLemmas.Spelling.Cells.{cells_pieced, pairs_pieced}

-- ---- bytes one after the other are one piece

joined_one : (bs cs : List ℕ) → join_bytes bs (value_of cs) ≡ value_of (bs ++ cs)
joined_one [] cs = refl
joined_one (b ∷ bs) [] = ap (λ (x : List ℕ). Plain (b ∷ x) ∷ []) (sym (append-nil bs))
joined_one (b ∷ bs) (c ∷ cs) = refl

joined_plain : (bss : List (List ℕ)) → joined (map Plain bss) ≡ value_of (concat bss)
joined_plain [] = refl
joined_plain (bs ∷ bss) = ap (join_bytes bs) (joined_plain bss) ∙ joined_one bs (concat bss)

pieced_says : (text : List ℕ) (p : ℕ) (parts : List Segment) (pieces : List PieceTree) (value : List ℕ) (rest : List Segment) → Pieced text p parts pieces value rest → value_said Profile text pieces ≡ value_of value
pieced_says text p parts pieces value rest h = ap joined h.says ∙ joined_plain h.bytes ∙ ap value_of h.bytes_are

-- ---- the first form that fits

module _ (text : List ℕ) where
  strings_as : (p : ℕ) (value : List ℕ) (rest : List Segment) → At text p (string_parts false [] value ++ rest) → eqb (length value) 0 ≡ false → are_strings false value ≡ true
      → Pieced text p (string_parts false [] value) (quoted_pieces (placed p (string_parts false [] value))) value rest
  strings_as p value rest h some e =
      let c = cut_first value some e in
      let same = c.2.parts_are in
      let at = subst (λ (x : List Segment). At text p (x ++ rest)) same h in
      let all = strings_pieced text p c.0 c.1 rest at c.2.printable c.2.others in
      let bytes = subst (λ (v : List ℕ). Pieced text p (Word kinds.Text (quoted c.0) ∷ further c.1) (quoted_pieces (placed p (Word kinds.Text (quoted c.0) ∷ further c.1))) v rest) (sym c.2.bytes_are) all in
      subst (λ (x : List Segment). Pieced text p x (quoted_pieces (placed p x)) value rest) (sym same) bytes

  -- a choice of parts, and the same of pieces
  choice : (b : Bool) (p : ℕ) (x y : List Segment) (u v : List PieceTree) (value : List ℕ) (rest : List Segment)
      → (b ≡ true → At text p (x ++ rest) → Pieced text p x u value rest) → (b ≡ false → At text p (y ++ rest) → Pieced text p y v value rest)
      → At text p (cond b x y ++ rest) → Pieced text p (cond b x y) (cond b u v) value rest
  choice true p x y u v value rest f g h = f refl h
  choice false p x y u v value rest f g h = g refl h

  value_pieced : (p : ℕ) (value : List ℕ) (rest : List Segment) → At text p (value_parts value ++ rest) → eqb (length value) 0 ≡ false → are_bytes value ≡ true → Pieced text p (value_parts value) (value_pieces p value) value rest
  value_pieced p value rest h some e =
      choice (are_strings false value) p _ _ _ _ value rest (λ s at. strings_as p value rest at some s)
      (λ s at. choice (eqb (length value % 4) 0) p _ _ _ _ value rest (λ f at. cells_pieced text p value rest at e (eqb-true (length value % 4) 0 f)) (λ f at. pairs_pieced text p value rest at e) at) h

  -- ---- behind a name

  -- The parts spell the value of a property up to the semicolon.
  pub record Valued (p : ℕ) (parts : List Segment) (pieces : List PieceTree) (value : List ℕ) (rest : List Segment) : Type 0 where
    pub mid : List Lexeme
    pub spells : SpellsValue pieces (placed p (parts ++ rest)) mid
    pub ends : Begins mid kinds.Semicolon (placed (past p parts) rest)
    pub says : value_said Profile text pieces ≡ value_of value
    pub faultless : value_faults Profile text pieces ≡ []

  empty_valued : (p : ℕ) (value : List ℕ) (rest : List Segment) → eqb (length value) 0 ≡ true → Valued p stop_parts [] value rest
  unfolding placed past
  empty_valued p [] rest e = record { mid = placed p (stop_parts ++ rest); spells = refl; ends = (refl, refl); says = refl; faultless = refl }
  empty_valued p (b ∷ bytes) rest e = absurd (one_or_more (eqb-true (length (b ∷ bytes)) 0 e))
    where
      one_or_more : length (b ∷ bytes) ≡ 0 → ⊥
      one_or_more f = omega arith

  pieces_valued : (p : ℕ) (parts : List Segment) (pieces : List PieceTree) (value : List ℕ) (rest : List Segment) → Pieced text (past p equals_parts) parts pieces value (stop_parts ++ rest)
      → Valued p (equals_parts ++ (parts ++ stop_parts)) pieces value rest
  unfolding placed past
  pieces_valued p parts [] value rest h = absurd h.spells
  pieces_valued p parts (x ∷ xs) value rest h =
      let q = past p equals_parts in
      let turn : (parts ++ stop_parts) ++ rest ≡ parts ++ (stop_parts ++ rest) = append_assoc parts stop_parts rest in
      let mid = placed (past q parts) (stop_parts ++ rest) in
      let first : SpellsPieces (x ∷ xs) (placed q ((parts ++ stop_parts) ++ rest)) mid = subst (λ (y : List Segment). SpellsPieces (x ∷ xs) (placed q y) mid) (sym turn) h.spells in
      record {
        mid = mid;
        spells = (placed q ((parts ++ stop_parts) ++ rest), first.0, (refl, refl), first.1, first.2);
        ends = (refl, ap (λ (n : ℕ). placed n rest) (sym (past_append q parts stop_parts)));
        says = pieced_says text q parts (x ∷ xs) value (stop_parts ++ rest) h;
        faultless = h.faultless;
      }

  either : (b : Bool) (p : ℕ) (x y : List Segment) (u v : List PieceTree) (value : List ℕ) (rest : List Segment)
      → (b ≡ true → At text p (x ++ rest) → Valued p x u value rest) → (b ≡ false → At text p (y ++ rest) → Valued p y v value rest)
      → At text p (cond b x y ++ rest) → Valued p (cond b x y) (cond b u v) value rest
  either true p x y u v value rest f g h = f refl h
  either false p x y u v value rest f g h = g refl h

  at_value : (p : ℕ) (v rest : List Segment) → At text p ((equals_parts ++ (v ++ stop_parts)) ++ rest) → At text (past p equals_parts) (v ++ (stop_parts ++ rest))
  at_value p v rest h =
      subst (λ (x : List Segment). At text (past p equals_parts) x) (append_assoc v stop_parts rest) (at_past text p equals_parts ((v ++ stop_parts) ++ rest) h)

  pub behind_valued : (p : ℕ) (value : List ℕ) (rest : List Segment) → At text p (behind_name value ++ rest) → are_bytes value ≡ true → Valued p (behind_name value) (property_pieces p value) value rest
  behind_valued p value rest h e =
      either (eqb (length value) 0) p _ _ _ _ value rest (λ z at. empty_valued p value rest z)
      (λ z at. pieces_valued p (value_parts value) (value_pieces (past p equals_parts) value) value rest (value_pieced (past p equals_parts) value (stop_parts ++ rest) (at_value p (value_parts value) rest at) z e)) h
