-- Reading an expression from left to right, by levels of nesting and of precedence.
use Rattle.std.specs.Prelude.{◌≡◌, ℕ, zero, suc, List, [], ◌∷◌, length, Ok, Err, ◌==◌, if◌then◌else◌, Option, None, Some}
use Rattle.dt_text.specs.declared.lexeme.lexeme.Lexeme.{Lexeme}
use Rattle.dt_text.specs.declared.lexeme.lexeme.Kind.{Kind}
use Rattle.dt_text.specs.declared.lexeme.lexeme.Kind.TheVariants.{Literal, Character, Question, Colon, Paren, EndParen}
use Rattle.dt_text.specs.Expression.Expression.{Expression, nesting_limit, rank, is_prefix, SpellsPrimary, Making}
use Rattle.dt_text.specs.Expression.Values.{Value, values, value_of}
use Rattle.dt_text.specs.Expression.Reading.{◌>>=◌, Read, syntax_at, too_deep}

abbrev pub Reader : Type 0 → Type 0
Reader A = List Lexeme → Read A

-- a closing parenthesis, and what was read before it
abbrev pub closed_by : {A : Type 0} → A → Kind → Lexeme → List Lexeme → Read A
closed_by v EndParen t ts = Ok (v, ts)
closed_by v _ t ts = Err (syntax_at (t ∷ ts))

abbrev pub closed : {A : Type 0} → A → List Lexeme → Read A
closed v [] = Err (syntax_at [])
closed v (t ∷ ts) = closed_by v t.kind t ts

-- a number or parentheses
abbrev pub primary_by : {A : Type 0} → Making A → (Lexeme → Reader A) → Kind → Lexeme → List Lexeme → Read A
primary_by m expr Literal t ts = Ok (m.number t, ts)
primary_by m expr Character t ts = Ok (m.number t, ts)
primary_by m expr Paren t ts = do
  x ← expr t ts
  closed (m.grouped x.0) x.1
primary_by m expr _ t ts = Err (syntax_at (t ∷ ts))

abbrev pub primary_with : {A : Type 0} → Making A → (Lexeme → Reader A) → Reader A
primary_with m expr [] = Err (syntax_at [])
primary_with m expr (t ∷ ts) = primary_by m expr t.kind t ts

abbrev pub prefixed_by : {A : Type 0} → Making A → (Lexeme → Reader A) → Lexeme → List Lexeme → Read A
prefixed_by m unary t ts = do
  x ← unary t ts
  Ok (m.prefixed t x.0, x.1)

-- the same, or an operator before its operand
abbrev pub unary_with : {A : Type 0} → Making A → (Lexeme → Reader A) → (Lexeme → Reader A) → Reader A
unary_with m expr unary [] = Err (syntax_at [])
unary_with m expr unary (t ∷ ts) = if is_prefix t.kind then prefixed_by m unary t ts else primary_by m expr t.kind t ts

-- an operator of this rank, and what follows it
abbrev pub operator_at : ℕ → List Lexeme → Option (Lexeme × List Lexeme)
operator_at level [] = None
operator_at level (t ∷ ts) = if rank t.kind == level then Some (t, ts) else None

abbrev pub with_operator : {A : Type 0} → Option (Lexeme × List Lexeme) → A → (Lexeme → List Lexeme → A) → A
with_operator None a f = a
with_operator (Some x) a f = f x.0 x.1

-- further operands of operators of one rank
unfoldable pub more : {A : Type 0} → Making A → Reader A → ℕ → ℕ → A → List Lexeme → Read A
more m lower level zero v ts = Ok (v, ts)
more m lower level (suc n) v ts = with_operator (operator_at level ts) (Ok (v, ts)) (λ t rest. lower rest >>= λ x. more m lower level n (m.joined t v x.0) x.1)

-- operands of operators of a rank, each of lower ranks
unfoldable pub levels : {A : Type 0} → Making A → Reader A → ℕ → Reader A
levels m unary zero ts = unary ts
levels m unary (suc level) ts = do
  x ← levels m unary level ts
  more m (levels m unary level) (suc level) (length x.1) x.0 x.1

-- the third operand of a choice
abbrev pub otherwise_by : {A : Type 0} → Making A → (Lexeme → Reader A) → A → A → Kind → Lexeme → List Lexeme → Read A
otherwise_by m expr a b Colon t ts = do
  x ← expr t ts
  Ok (m.chosen a b x.0, x.1)
otherwise_by m expr a b _ t ts = Err (syntax_at (t ∷ ts))

abbrev pub otherwise : {A : Type 0} → Making A → (Lexeme → Reader A) → A → A → List Lexeme → Read A
otherwise m expr a b [] = Err (syntax_at [])
otherwise m expr a b (t ∷ ts) = otherwise_by m expr a b t.kind t ts

-- the second and the third operand, where a question mark follows the first
abbrev pub chosen_by : {A : Type 0} → Making A → (Lexeme → Reader A) → A → Kind → Lexeme → List Lexeme → Read A
chosen_by m expr v Question t ts = do
  x ← expr t ts
  otherwise m expr v x.0 x.1
chosen_by m expr v _ t ts = Ok (v, t ∷ ts)

abbrev pub chosen : {A : Type 0} → Making A → (Lexeme → Reader A) → A → List Lexeme → Read A
chosen m expr v [] = Ok (v, [])
chosen m expr v (t ∷ ts) = chosen_by m expr v t.kind t ts

abbrev pub expr_with : {A : Type 0} → Making A → (Lexeme → Reader A) → Reader A → Reader A
expr_with m expr unary ts = do
  x ← levels m unary 10 ts
  chosen m expr x.0 x.1

-- an expression, or what a prefix operator stands before, one level of nesting further than the lexeme before it:
-- that lexeme nests too deep where no level is left
unfoldable mutual
  pub expr_below : {A : Type 0} → Making A → ℕ → Lexeme → List Lexeme → Read A
  expr_below m zero t ts = Err (too_deep t)
  expr_below m (suc depth) t ts = expr_with m (expr_below m depth) (unary_with m (expr_below m depth) (unary_below m depth)) ts

  pub unary_below : {A : Type 0} → Making A → ℕ → Lexeme → List Lexeme → Read A
  unary_below m zero t ts = Err (too_deep t)
  unary_below m (suc depth) t ts = unary_with m (expr_below m depth) (unary_below m depth) ts

unfoldable pub unary_at : {A : Type 0} → Making A → ℕ → List Lexeme → Read A
unary_at m depth ts = unary_with m (expr_below m depth) (unary_below m depth) ts

unfoldable pub expr_at : {A : Type 0} → Making A → ℕ → List Lexeme → Read A
expr_at m depth ts = expr_with m (expr_below m depth) (unary_at m depth) ts

-- ---- the same, of values

abbrev pub primary_in : List ℕ → ℕ → List Lexeme → Read Value
primary_in text depth ts = primary_with (values text) (expr_below (values text) depth) ts

abbrev pub operands_in : List ℕ → ℕ → List Lexeme → Read Value
operands_in text depth ts = levels (values text) (unary_at (values text) depth) 10 ts

abbrev pub chosen_in : List ℕ → ℕ → Value → List Lexeme → Read Value
chosen_in text depth test ts = chosen (values text) (expr_below (values text) depth) test ts

abbrev pub otherwise_in : List ℕ → ℕ → (test taken : Value) → List Lexeme → Read Value
otherwise_in text depth test taken ts = otherwise (values text) (expr_below (values text) depth) test taken ts

-- a literal, or an expression in parentheses, at the front of the lexemes
unfoldable pub primary_made : {A : Type 0} → Making A → List Lexeme → Read A
primary_made m ts = primary_with m (expr_below m nesting_limit) ts

-- its value, or its one fault, and the lexemes behind it
unfoldable pub primary_at : List ℕ → List Lexeme → Read Value
primary_at text ts = primary_made (values text) ts

-- ---- laws

-- What is read is spelled so, and has that value.
abbrev pub ReadsWhatIsSpelled : Type 0
ReadsWhatIsSpelled =
    (text : List ℕ) (ts : List Lexeme) (v : Value) (rest : List Lexeme) → primary_at text ts ≡ Ok (v, rest) → (e : Expression) × SpellsPrimary e ts rest × (value_of text e ≡ v)

-- What is spelled is read, with its value.
abbrev pub ReadsAllThatIsSpelled : Type 0
ReadsAllThatIsSpelled = (text : List ℕ) (e : Expression) (ts rest : List Lexeme) → SpellsPrimary e ts rest → primary_at text ts ≡ Ok (value_of text e, rest)

-- Lexemes begin with one literal or expression in parentheses at most, in one way.
abbrev pub SpellsOne : Type 0
SpellsOne = (e f : Expression) (ts a b : List Lexeme) → SpellsPrimary e ts a → SpellsPrimary f ts b → (e ≡ f) × (a ≡ b)
