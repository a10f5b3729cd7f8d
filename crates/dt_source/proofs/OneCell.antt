-- Lexemes spell cells and byte strings in one way alone.
use Rattle.std.proofs.Common.{◌≡◌, true, refl, List, sym, ap, ◌∙◌, ◌⊎◌, inl, inr}
use Rattle.dt_text.specs.declared.lexeme.lexeme.Lexeme.{Lexeme}
use Rattle.dt_text.specs.declared.lexeme.lexeme.Kind.{Kind}
use Rattle.dt_text.specs.declared.lexeme.lexeme.Kind.TheVariants.{Label, Literal, Character, Reference, Pair, Less, Greater, Square, EndSquare, Paren}
use Rattle.dt_text.specs.Expression.Expression.{Expression, Number, Grouped, Prefixed, Infix, Choice, is_number, Begins, Spells, SpellsPrimary}
use Rattle.dt_source.specs.Source.{CellTree, Element, Refers, Marks, IsPair, OnePair, SpellsCell, SpellsCells}
use Rattle.dt_text.proofs.ExpressionLemmas.Trees.{spells_one}
use Rattle.dt_source.proofs.OneEach.{Same, one_takes, one_between, Between, sort, sorted, sort_at, begins_sort, takes_sort, reference_sort}

-- ---- cells

number_sort : (k : Kind) → is_number k ≡ true → sort k ≡ Literal
number_sort Literal h = refl
number_sort Character h = refl
number_sort _ h = absurd cc

primary_sort : (e : Expression) (ts rest : List Lexeme) → SpellsPrimary e ts rest → sort_at ts ≡ sorted Literal
unfolding Spells
primary_sort (Number l) ts rest h = ap sort_at h.1.1 ∙ ap sorted (number_sort l.kind h.1.0)
primary_sort (Grouped e) ts rest h = begins_sort Paren ts h.1.0 h.1.2
primary_sort (Prefixed o e) ts rest h = absurd h.0
primary_sort (Infix o e f) ts rest h = absurd h.0
primary_sort (Choice e f g) ts rest h = absurd h.0

abbrev cell_kind : CellTree → Kind
cell_kind (Element l e) = Literal
cell_kind (Refers l) = Reference
cell_kind (Marks l) = Label

cell_sort : (c : CellTree) (ts rest : List Lexeme) → SpellsCell c ts rest → sort_at ts ≡ sorted (cell_kind c)
cell_sort (Element l e) ts rest h = primary_sort e ts rest h.2
cell_sort (Refers l) ts rest h = reference_sort l ts rest h
cell_sort (Marks l) ts rest h = takes_sort Label l ts rest h.0 h.1

one_cell : (c d : CellTree) (ts r q : List Lexeme) → SpellsCell c ts r → SpellsCell d ts q → Same c d r q
one_cell (Element l e) (Element m f) ts r q h k =
    let first = one_takes l m ts h.0 k.0 h.1 k.1 in
    let value = spells_one e f ts r q h.2 k.2 in
    (cc (first.0, value.0), value.1)
one_cell (Refers l) (Refers m) ts r q h k = let e = one_takes l m ts r q h.1 k.1 in (ap Refers e.0, e.1)
one_cell (Marks l) (Marks m) ts r q h k = let e = one_takes l m ts r q h.1 k.1 in (ap Marks e.0, e.1)
one_cell c d ts r q h k = let e : sorted (cell_kind c) ≡ sorted (cell_kind d) = sym (cell_sort c ts r h) ∙ cell_sort d ts q k in absurd cc

no_cell : (c : CellTree) (ts r q : List Lexeme) → Begins ts Greater r → SpellsCell c ts q → ⊥
no_cell c ts r q h k = go c (sym (begins_sort Greater ts r h) ∙ cell_sort c ts q k)
  where
    go : (c : CellTree) → sorted Greater ≡ sorted (cell_kind c) → ⊥
    go (Element l e) h = cc
    go (Refers l) h = cc
    go (Marks l) h = cc

pub one_cells : (cs ds : List CellTree) (ts r q : List Lexeme) → SpellsCells cs ts r → SpellsCells ds ts q → Same cs ds r q
one_cells cs ds ts r q h k = one_between SpellsCell Less Greater one_cell no_cell cs ds ts r q h k

-- ---- byte strings

pair_sort : (l : Lexeme) (ts rest : List Lexeme) → OnePair l ts rest → (sort_at ts ≡ sorted Pair) ⊎ (sort_at ts ≡ sorted Label)
pair_sort l ts rest h = go h.0
  where
    go : IsPair l.kind → (sort_at ts ≡ sorted Pair) ⊎ (sort_at ts ≡ sorted Label)
    go (inl e) = inl (takes_sort Pair l ts rest e h.1)
    go (inr e) = inr (takes_sort Label l ts rest e h.1)

no_pair : (l : Lexeme) (ts r q : List Lexeme) → Begins ts EndSquare r → OnePair l ts q → ⊥
no_pair l ts r q h k = go (begins_sort EndSquare ts r h) (pair_sort l ts q k)
  where
    go : sort_at ts ≡ sorted EndSquare → (sort_at ts ≡ sorted Pair) ⊎ (sort_at ts ≡ sorted Label) → ⊥
    go h (inl e) = cc
    go h (inr e) = cc

pub one_pairs : (ls ms ts r q : List Lexeme) → Between OnePair Square EndSquare ls ts r → Between OnePair Square EndSquare ms ts q → Same ls ms r q
one_pairs ls ms ts r q h k = one_between OnePair Square EndSquare (λ l m ts r q h k. one_takes l m ts r q h.1 k.1) no_pair ls ms ts r q h k
