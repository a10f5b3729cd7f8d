-- The value of an expression, or its one fault: unsigned 64 bits that wrap, with the operators of C
-- (Devicetree Specification v0.4, section 6.3).
use Rattle.std.specs.Prelude.{ℕ, ◌+◌, ◌-◌, ◌*◌, ◌/◌, ◌%◌, ◌^◌, Bool, true, false, not, ◌&&◌, ◌||◌, List, [], ◌∷◌, Option, None, Some, Result, Ok, Err, nat_lt, nat_le, ◌==◌, if◌then◌else◌, slice_range, fold, bit_and, bit_or, bit_xor}
use Rattle.dt_text.specs.declared.lexeme.lexeme.Lexeme.{Lexeme}
use Rattle.dt_text.specs.declared.lexeme.lexeme.Fault.{Fault}
use Rattle.dt_text.specs.declared.lexeme.lexeme.FaultKind.TheVariants.{DivideByZero, LiteralRange}
use Rattle.dt_text.specs.declared.lexeme.lexeme.Kind.{Kind}
use Rattle.dt_text.specs.declared.lexeme.lexeme.Kind.TheVariants.{Character, Less, Greater, Slash, OrOr, AndAnd, Or, Xor, And, EqualEqual, NotEqual, LessEqual, GreaterEqual, ShiftLeft, ShiftRight, Plus, Minus, Star, Percent, Tilde, Bang}
use Rattle.dt_text.specs.Expression.Character.{character_of}
use Rattle.dt_text.specs.Expression.Expression.{Expression, Number, Grouped, Prefixed, Infix, Choice, Making}

-- a number below 2 ^ 64, or the one fault
abbrev pub Value : Type 0
Value = Result ℕ Fault

-- ---- literals

-- what a lexeme stands for in the text
abbrev pub bytes_of : List ℕ → Lexeme → List ℕ
bytes_of text l = slice_range text l.start l.end

-- the number of a digit of base 16 or less, and 16 for any other byte
abbrev pub digit_of : ℕ → ℕ
digit_of c =
    if nat_le 48 c && nat_le c 57 then c - 48 else if nat_le 65 c && nat_le c 70 then c - 55 else if nat_le 97 c && nat_le c 102 then c - 87 else 16

-- the letters of a suffix: L, U
abbrev pub is_suffix : ℕ → Bool
is_suffix c = (c == 76) || (c == 85)

abbrev pub digit_step : ℕ → ℕ → ℕ → Option ℕ
digit_step base n d = if nat_lt d base then Some (n * base + d) else None

-- one byte more of a number in this base: a suffix changes nothing, and what is no digit of the base makes it no number
abbrev pub number_step : ℕ → Option ℕ → ℕ → Option ℕ
number_step base None c = None
number_step base (Some n) c = if is_suffix c then Some n else digit_step base n (digit_of c)

-- the number that the digits stand for in this base
abbrev pub number_of : ℕ → List ℕ → Option ℕ
number_of base digits = fold (number_step base) (Some 0) digits

-- octal behind a leading 0, hexadecimal behind 0x or 0X, else decimal
abbrev pub literal_number : List ℕ → Option ℕ
literal_number [] = number_of 10 []
literal_number (a ∷ []) = number_of 10 (a ∷ [])
literal_number (a ∷ b ∷ digits) =
    if a == 48 then (if (b == 120) || (b == 88) then number_of 16 digits else number_of 8 (b ∷ digits)) else number_of 10 (a ∷ b ∷ digits)

-- a number below 2 ^ 64 alone
abbrev pub below_64 : Option ℕ → Option ℕ
below_64 None = None
below_64 (Some n) = if nat_lt n (2 ^ 64) then Some n else None

abbrev pub or_out_of_range : Lexeme → Option ℕ → Value
or_out_of_range l None = Err (record { kind = LiteralRange; place = l.start })
or_out_of_range l (Some n) = Ok n

-- the number of a literal, where it is one below 2 ^ 64 in its base
unfoldable pub literal_of : List ℕ → Lexeme → Value
literal_of text l = or_out_of_range l (below_64 (literal_number (bytes_of text l)))

-- what stands between the quotes of a character literal
abbrev pub inside_of : List ℕ → Lexeme → List ℕ
inside_of text l = slice_range text (l.start + 1) (l.end - 1)

-- the number of a character literal, where it has one
unfoldable pub character_at : List ℕ → Lexeme → Value
character_at text l = or_out_of_range l (character_of (inside_of text l))

abbrev pub constant_by : List ℕ → Lexeme → Kind → Value
constant_by text l Character = character_at text l
constant_by text l _ = literal_of text l

-- a number as it stands in the text: a character literal, in dtc's language, or a literal
abbrev pub constant_of : List ℕ → Lexeme → Value
constant_of text l = constant_by text l l.kind

-- ---- operators

-- what a comparison or a logical operator gives
abbrev pub truth : Bool → ℕ
truth true = 1
truth false = 0

abbrev pub is_true : ℕ → Bool
is_true x = not (x == 0)

-- a zero divisor is a fault at the operator
abbrev pub divided : Lexeme → ℕ → ℕ → Value
divided t y quotient = if y == 0 then Err (record { kind = DivideByZero; place = t.start }) else Ok quotient

-- a shift by 64 or more leaves nothing
abbrev pub shifted_left : ℕ → ℕ → ℕ
shifted_left x y = if nat_lt y 64 then x * 2 ^ y % 2 ^ 64 else 0

abbrev pub shifted_right : ℕ → ℕ → ℕ
shifted_right x y = if nat_lt y 64 then x / 2 ^ y else 0

-- an operator at two numbers
abbrev pub operation : Kind → Lexeme → ℕ → ℕ → Value
operation Star t x y = Ok (x * y % 2 ^ 64)
operation Slash t x y = divided t y (x / y)
operation Percent t x y = divided t y (x % y)
operation Plus t x y = Ok ((x + y) % 2 ^ 64)
operation Minus t x y = Ok ((x + (2 ^ 64 - y)) % 2 ^ 64)
operation ShiftLeft t x y = Ok (shifted_left x y)
operation ShiftRight t x y = Ok (shifted_right x y)
operation Less t x y = Ok (truth (nat_lt x y))
operation Greater t x y = Ok (truth (nat_lt y x))
operation LessEqual t x y = Ok (truth (nat_le x y))
operation GreaterEqual t x y = Ok (truth (nat_le y x))
operation EqualEqual t x y = Ok (truth (x == y))
operation NotEqual t x y = Ok (truth (not (x == y)))
operation And t x y = Ok (bit_and x y)
operation Xor t x y = Ok (bit_xor x y)
operation Or t x y = Ok (bit_or x y)
operation AndAnd t x y = Ok (truth (is_true x && is_true y))
operation OrOr t x y = Ok (truth (is_true x || is_true y))
operation _ t x y = Ok 0

-- every operand is computed, from left to right
abbrev pub both : Lexeme → Value → Value → Value
both t (Err f) b = Err f
both t (Ok x) (Err f) = Err f
both t (Ok x) (Ok y) = operation t.kind t x y

abbrev pub prefix_operation : Kind → ℕ → ℕ
prefix_operation Minus x = (2 ^ 64 - x) % 2 ^ 64
prefix_operation Tilde x = 2 ^ 64 - 1 - x
prefix_operation Bang x = truth (x == 0)
prefix_operation _ x = x

abbrev pub prefixed : Lexeme → Value → Value
prefixed t (Err f) = Err f
prefixed t (Ok x) = Ok (prefix_operation t.kind x)

abbrev pub choice : Value → Value → Value → Value
choice (Err f) b c = Err f
choice (Ok x) (Err f) c = Err f
choice (Ok x) (Ok y) (Err f) = Err f
choice (Ok x) (Ok y) (Ok z) = Ok (if x == 0 then z else y)

-- the value of an expression of this text
unfoldable pub value_of : List ℕ → Expression → Value
value_of text (Number l) = constant_of text l
value_of text (Grouped e) = value_of text e
value_of text (Prefixed t e) = prefixed t (value_of text e)
value_of text (Infix t e f) = both t (value_of text e) (value_of text f)
value_of text (Choice e f g) = choice (value_of text e) (value_of text f) (value_of text g)

-- the same, as what a reader of this text makes of it
abbrev pub values : List ℕ → Making Value
values text = record { number = constant_of text; grouped = λ v. v; prefixed = prefixed; joined = both; chosen = choice }
