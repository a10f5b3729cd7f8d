-- Expressions in cells, and the lexemes that spell them (Devicetree Specification v0.4, section 6.3).
use Rattle.std.specs.Prelude.{◌≡◌, ℕ, zero, suc, ◌-◌, ◌≤◌, Bool, true, false, List, [], ◌∷◌}
use Rattle.dt_text.specs.declared.lexeme.lexeme.Lexeme.{Lexeme}
use Rattle.dt_text.specs.declared.lexeme.lexeme.Kind.{Kind}
use Rattle.dt_text.specs.declared.lexeme.lexeme.Kind.TheVariants.{Literal, Character, Less, Greater, Paren, EndParen, Slash, Question, Colon, OrOr, AndAnd, Or, Xor, And, EqualEqual, NotEqual, LessEqual, GreaterEqual, ShiftLeft, ShiftRight, Plus, Minus, Star, Percent, Tilde, Bang}

-- An expression, with the lexemes that its value and its faults are of.
pub data Expression : Type 0 where
  Number : (literal : Lexeme) → Expression
  Grouped : (inner : Expression) → Expression
  Prefixed : (operator : Lexeme) (operand : Expression) → Expression
  Infix : (operator : Lexeme) (left right : Expression) → Expression
  Choice : (test yes no : Expression) → Expression

-- How loosely an operator binds: 1 to 10 for one between two operands, 11 for the question mark, 0 for none.
abbrev pub rank : Kind → ℕ
rank Star = 1
rank Slash = 1
rank Percent = 1
rank Plus = 2
rank Minus = 2
rank ShiftLeft = 3
rank ShiftRight = 3
rank Less = 4
rank Greater = 4
rank LessEqual = 4
rank GreaterEqual = 4
rank EqualEqual = 5
rank NotEqual = 5
rank And = 6
rank Xor = 7
rank Or = 8
rank AndAnd = 9
rank OrOr = 10
rank Question = 11
rank _ = 0

-- The lexemes that are a number: literals, and in dtc's language character literals.
abbrev pub is_number : Kind → Bool
is_number Literal = true
is_number Character = true
is_number _ = false

-- The operators that stand before their one operand.
abbrev pub is_prefix : Kind → Bool
is_prefix Minus = true
is_prefix Tilde = true
is_prefix Bang = true
is_prefix _ = false

-- One level of nesting further, which there has to be.
abbrev pub Deeper : ℕ → (ℕ → Type 0) → Type 0
Deeper zero P = ⊥
Deeper (suc depth) P = P depth

-- The lexemes begin with one of this kind, and these follow it.
abbrev pub Begins : List Lexeme → Kind → List Lexeme → Type 0
Begins [] k after = ⊥
Begins (t ∷ ts) k after = (t.kind ≡ k) × (ts ≡ after)

-- The lexemes begin with this one.
abbrev pub Takes : List Lexeme → Lexeme → List Lexeme → Type 0
Takes ts t after = ts ≡ t ∷ after

-- The lexemes begin with a spelling of the expression, which may nest depth levels further and has only
-- operators of this rank or less outside parentheses, and then the rest follows.
unfoldable pub Spells : ℕ → ℕ → Expression → List Lexeme → List Lexeme → Type 0
Spells depth level (Number l) ts rest = (is_number l.kind ≡ true) × Takes ts l rest
Spells depth level (Grouped e) ts rest =
    Deeper depth (λ inner. (a b : List Lexeme) × Begins ts Paren a × Spells inner 11 e a b × Begins b EndParen rest)
Spells depth level (Prefixed t e) ts rest =
    Deeper depth (λ inner. (a : List Lexeme) × (is_prefix t.kind ≡ true) × Takes ts t a × Spells inner 0 e a rest)
Spells depth level (Infix t e f) ts rest =
    (1 ≤ rank t.kind) × (rank t.kind ≤ level) × (rank t.kind ≤ 10)
    × (a b : List Lexeme) × Spells depth (rank t.kind) e ts a × Takes a t b × Spells depth (rank t.kind - 1) f b rest
Spells depth level (Choice e f g) ts rest =
    (level ≡ 11) × (a b c d : List Lexeme) × Spells depth 10 e ts a × Begins a Question b
    × Deeper depth (λ inner. Spells inner 11 f b c × Begins c Colon d × Spells inner 11 g d rest)

-- how deep parentheses, operands of prefix operators and choices nest, at most: this project's number
abbrev pub nesting_limit : ℕ
nesting_limit = 64

-- A number, or an expression in parentheses.
abbrev pub IsPrimary : Expression → Type 0
IsPrimary (Number l) = Unit {0}
IsPrimary (Grouped e) = Unit {0}
IsPrimary (Prefixed t e) = ⊥
IsPrimary (Infix t e f) = ⊥
IsPrimary (Choice e f g) = ⊥

-- The lexemes begin with a spelling of the literal or the parentheses, nested as deep as may be, and then the rest follows.
abbrev pub SpellsPrimary : Expression → List Lexeme → List Lexeme → Type 0
SpellsPrimary e ts rest = IsPrimary e × Spells nesting_limit 0 e ts rest

-- What a reader makes of a literal, of parentheses and of operators with their operands.
pub record Making (A : Type 0) : Type 0 where
  pub number : Lexeme → A
  pub grouped : A → A
  pub prefixed : Lexeme → A → A
  pub joined : Lexeme → A → A → A
  pub chosen : A → A → A → A

-- what it makes of an expression
unfoldable pub made : {A : Type 0} → Making A → Expression → A
made m (Number l) = m.number l
made m (Grouped e) = m.grouped (made m e)
made m (Prefixed t e) = m.prefixed t (made m e)
made m (Infix t e f) = m.joined t (made m e) (made m f)
made m (Choice e f g) = m.chosen (made m e) (made m f) (made m g)
