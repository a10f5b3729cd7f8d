-- Lexemes spell the value of a property in one way alone.
use Rattle.std.proofs.Common.{◌≡◌, List, [], ◌∷◌, false, refl, sym, ap, subst, ◌∙◌}
use Rattle.dt_text.specs.declared.lexeme.lexeme.Lexeme.{Lexeme}
use Rattle.dt_text.specs.declared.lexeme.lexeme.Kind.{Kind}
use Rattle.dt_text.specs.declared.lexeme.lexeme.Kind.TheVariants.{Text, Reference, Square, Less, Bits, IncludeBinary, Paren, EndParen, Equals, Comma, Semicolon, Brace}
use Rattle.dt_text.specs.Expression.Expression.{Begins, SpellsPrimary}
use Rattle.dt_source.specs.Sequences.{SpellsEach}
use Rattle.dt_source.specs.Marks.{is_label}
use Rattle.dt_source.specs.Source.{CellTree, PortionTree, Whole, Portion, PieceTree, Quoted, Points, Pairs, Cells, WideCells, Includes, SpellsLabels, SpellsCells, SpellsPortion, SpellsPiece, SpellsPlaced, SpellsFurther, SpellsValue}
use Rattle.dt_text.proofs.ExpressionLemmas.Trees.{spells_one}
use Rattle.dt_source.proofs.Several.{each_can}
use Rattle.dt_source.proofs.SpelledLabels.{NoLabel}
use Rattle.dt_source.proofs.SpelledPieces.{front}
use Rattle.dt_source.proofs.OneEach.{Same, one_takes, one_begins, one_after, one_labels, one_each, Ends, sorted, sort_at, begins_sort, takes_sort, reference_sort, no_label}
use Rattle.dt_source.proofs.OneCell.{one_cells, one_pairs}

-- ---- one piece

abbrev piece_kind : PieceTree → Kind
piece_kind (Quoted l) = Text
piece_kind (Points l) = Reference
piece_kind (Pairs ls) = Square
piece_kind (Cells cs) = Less
piece_kind (WideCells l cs) = Bits
piece_kind (Includes w l p) = IncludeBinary

piece_sort : (p : PieceTree) (ts rest : List Lexeme) → SpellsPiece p ts rest → sort_at ts ≡ sorted (piece_kind p)
piece_sort (Quoted l) ts rest h = takes_sort Text l ts rest h.0 h.1
piece_sort (Points l) ts rest h = reference_sort l ts rest h
piece_sort (Pairs ls) ts rest h = begins_sort Square ts h.0 h.2
piece_sort (Cells cs) ts rest h = begins_sort Less ts h.0 h.2
piece_sort (WideCells l cs) ts rest h = begins_sort Bits ts h.0 h.2
piece_sort (Includes w l p) ts rest h = takes_sort IncludeBinary w ts h.0 h.3.0 h.3.1

piece_bare : (p : PieceTree) → is_label (piece_kind p) ≡ false
piece_bare (Quoted l) = refl
piece_bare (Points l) = refl
piece_bare (Pairs ls) = refl
piece_bare (Cells cs) = refl
piece_bare (WideCells l cs) = refl
piece_bare (Includes w l p) = refl

piece_front : (p : PieceTree) (ts rest : List Lexeme) → SpellsPiece p ts rest → NoLabel ts
piece_front p ts rest h = no_label (piece_kind p) ts (piece_sort p ts rest h) (piece_bare p)

one_wide : (l m : Lexeme) (cs ds : List CellTree) (ts r q : List Lexeme) → SpellsPiece (WideCells l cs) ts r → SpellsPiece (WideCells m ds) ts q → Same (WideCells l cs) (WideCells m ds) r q
one_wide l m cs ds ts r q h k =
    let first = one_begins Bits Bits ts h.0 k.0 h.2 k.2 in
    let width = one_takes l m h.0 h.1 k.1 h.3.1 (first.1 ∙ k.3.1) in
    let cells = one_cells cs ds h.1 r q h.4 (subst (λ (x : List Lexeme). SpellsCells ds x q) (sym width.1) k.4) in
    (cc (width.0, cells.0), cells.1)

abbrev portion_kind : PortionTree → Kind
portion_kind Whole = EndParen
portion_kind (Portion o n) = Comma

portion_sort : (p : PortionTree) (ts rest : List Lexeme) → SpellsPortion p ts rest → sort_at ts ≡ sorted (portion_kind p)
portion_sort Whole ts rest h = begins_sort EndParen ts rest h
portion_sort (Portion o n) ts rest h = begins_sort Comma ts h.0 h.4

one_portion : (p o : PortionTree) (ts r q : List Lexeme) → SpellsPortion p ts r → SpellsPortion o ts q → Same p o r q
one_portion Whole Whole ts r q h k = let e = one_begins EndParen EndParen ts r q h k in (refl, e.1)
one_portion (Portion o n) (Portion x y) ts r q h k =
    let first = one_begins Comma Comma ts h.0 k.0 h.4 k.4 in
    let offset = spells_one o x h.0 h.1 k.1 h.5 (subst (λ (z : List Lexeme). SpellsPrimary x z k.1) (sym first.1) k.5) in
    let mid : h.2 ≡ k.2 = one_after Comma h.1 k.1 h.2 k.2 offset.1 h.6 k.6 in
    let size = spells_one n y h.2 h.3 k.3 h.7 (subst (λ (z : List Lexeme). SpellsPrimary y z k.3) (sym mid) k.7) in
    (cc (offset.0, size.0), one_after EndParen h.3 k.3 r q size.1 h.8 k.8)
one_portion p o ts r q h k = let e : sorted (portion_kind p) ≡ sorted (portion_kind o) = sym (portion_sort p ts r h) ∙ portion_sort o ts q k in absurd cc

one_includes : (w x l m : Lexeme) (p o : PortionTree) (ts r q : List Lexeme) → SpellsPiece (Includes w l p) ts r → SpellsPiece (Includes x m o) ts q → Same (Includes w l p) (Includes x m o) r q
one_includes w x l m p o ts r q h k =
    let word = one_takes w x ts h.0 k.0 h.3.1 k.3.1 in
    let inside : h.1 ≡ k.1 = one_after Paren h.0 k.0 h.1 k.1 word.1 h.4 k.4 in
    let name = one_takes l m h.1 h.2 k.2 h.5.1 (inside ∙ k.5.1) in
    let portion = one_portion p o h.2 r q h.6 (subst (λ (z : List Lexeme). SpellsPortion o z q) (sym name.1) k.6) in
    (cc (word.0, name.0, portion.0), portion.1)

one_piece : (p o : PieceTree) (ts r q : List Lexeme) → SpellsPiece p ts r → SpellsPiece o ts q → Same p o r q
one_piece (Quoted l) (Quoted m) ts r q h k = let e = one_takes l m ts r q h.1 k.1 in (ap Quoted e.0, e.1)
one_piece (Points l) (Points m) ts r q h k = let e = one_takes l m ts r q h.1 k.1 in (ap Points e.0, e.1)
one_piece (Pairs ls) (Pairs ms) ts r q h k = let e = one_pairs ls ms ts r q h k in (ap Pairs e.0, e.1)
one_piece (Cells cs) (Cells ds) ts r q h k = let e = one_cells cs ds ts r q h k in (ap Cells e.0, e.1)
one_piece (WideCells l cs) (WideCells m ds) ts r q h k = one_wide l m cs ds ts r q h k
one_piece (Includes w l p) (Includes x m o) ts r q h k = one_includes w x l m p o ts r q h k
one_piece p o ts r q h k = let e : sorted (piece_kind p) ≡ sorted (piece_kind o) = sym (piece_sort p ts r h) ∙ piece_sort o ts q k in absurd cc

-- ---- pieces with labels round them

one_placed : (p o : PieceTree) (ts r q : List Lexeme) → SpellsPlaced p ts r → SpellsPlaced o ts q → NoLabel r → NoLabel q → Same p o r q
one_placed p o ts r q h k n m =
    let before = one_labels h.2.0 k.2.0 ts h.0 k.0 h.2.1 k.2.1 (piece_front p h.0 h.1 h.3) (piece_front o k.0 k.1 k.3) in
    let piece = one_piece p o h.0 h.1 k.1 h.3 (subst (λ (x : List Lexeme). SpellsPiece o x k.1) (sym before.1) k.3) in
    let behind = one_labels h.4.0 k.4.0 h.1 r q h.4.1 (subst (λ (x : List Lexeme). SpellsLabels k.4.0 x q) (sym piece.1) k.4.1) n m in
    (piece.0, behind.1)

one_further : (p o : PieceTree) (ts r q : List Lexeme) → SpellsFurther p ts r → SpellsFurther o ts q → NoLabel r → NoLabel q → Same p o r q
one_further p o ts r q h k n m =
    let first = one_begins Comma Comma ts h.0 k.0 h.1 k.1 in
    one_placed p o h.0 r q h.2 (subst (λ (x : List Lexeme). SpellsPlaced o x q) (sym first.1) k.2) n m

further_front : (p : PieceTree) (ts rest : List Lexeme) → SpellsFurther p ts rest → NoLabel ts
further_front p ts rest h = front Comma refl ts h.0 h.1

-- ---- values

abbrev Further : List Lexeme → Type 0
Further ts = Ends SpellsFurther NoLabel ts

-- a semicolon ends the pieces
ends : (ts rest : List Lexeme) → Begins ts Semicolon rest → Further ts
ends ts rest h = record {
  can = front Semicolon refl ts rest h;
  none = λ p r k. let e = one_begins Semicolon Comma ts rest k.0 h k.1 in cc (e.0);
}

one_pieces : (p o : PieceTree) (ps os : List PieceTree) (ts r q : List Lexeme) → SpellsValue (p ∷ ps) ts r → SpellsValue (o ∷ os) ts q → Further r → Further q → Same (p ∷ ps) (o ∷ os) r q
one_pieces p o ps os ts r q h k e f =
    let equals = one_begins Equals Equals ts h.0 k.0 h.2 k.2 in
    let first =
    one_placed p o h.0 h.1 k.1 h.3 (subst (λ (x : List Lexeme). SpellsPlaced o x k.1) (sym equals.1) k.3)
    (each_can SpellsFurther NoLabel further_front ps h.1 r h.4 e.can) (each_can SpellsFurther NoLabel further_front os k.1 q k.4 f.can) in
    let others = one_each SpellsFurther NoLabel one_further further_front ps os h.1 r q h.4 (subst (λ (x : List Lexeme). SpellsEach SpellsFurther os x q) (sym first.1) k.4) e f in
    (cc (first.0, others.0), others.1)

-- A value, or none, and the semicolon behind it.
pub record Ended (v : List PieceTree) (ts at rest : List Lexeme) : Type 0 where
  pub value : SpellsValue v ts at
  pub ends : Begins at Semicolon rest

-- what stands first there
abbrev value_kind : List PieceTree → Kind
value_kind [] = Semicolon
value_kind (p ∷ ps) = Equals

value_sort : (v : List PieceTree) (ts at rest : List Lexeme) → Ended v ts at rest → sort_at ts ≡ sorted (value_kind v)
value_sort [] ts at rest h = begins_sort Semicolon ts rest (subst (λ (x : List Lexeme). Begins x Semicolon rest) (sym h.value) h.ends)
value_sort (p ∷ ps) ts at rest h = begins_sort Equals ts h.value.0 h.value.2

pub no_brace : (v : List PieceTree) (ts at rest : List Lexeme) → Ended v ts at rest → (r : List Lexeme) → Begins ts Brace r → ⊥
no_brace v ts at rest h r b = go v (sym (value_sort v ts at rest h) ∙ begins_sort Brace ts r b)
  where
    go : (v : List PieceTree) → sorted (value_kind v) ≡ sorted Brace → ⊥
    go [] e = cc
    go (p ∷ ps) e = cc

one_inside : (v w : List PieceTree) (ts a r b q : List Lexeme) → Ended v ts a r → Ended w ts b q → Same v w a b
one_inside [] [] ts a r b q h k = (refl, sym h.value ∙ k.value)
one_inside (p ∷ ps) (o ∷ os) ts a r b q h k = one_pieces p o ps os ts a b h.value k.value (ends a r h.ends) (ends b q k.ends)
one_inside v w ts a r b q h k = let e : sorted (value_kind v) ≡ sorted (value_kind w) = sym (value_sort v ts a r h) ∙ value_sort w ts b q k in absurd cc

pub one_value : (v w : List PieceTree) (ts a r b q : List Lexeme) → Ended v ts a r → Ended w ts b q → Same v w r q
one_value v w ts a r b q h k =
    let e = one_inside v w ts a r b q h k in
    (e.0, one_after Semicolon a b r q e.1 h.ends k.ends)
