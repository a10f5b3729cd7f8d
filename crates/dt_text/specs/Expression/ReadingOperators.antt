-- Operators between two operands that wait while what binds more tightly is read behind them.
use Rattle.std.specs.Prelude.{◌≡◌, ◌<◌, ℕ, zero, suc, Bool, ◌&&◌, nat_le, List, [], ◌∷◌, Option, None, Some, slice_index_or, if◌then◌else◌}
use Rattle.dt_text.specs.declared.lexeme.lexeme.Lexeme.{Lexeme}
use Rattle.dt_text.specs.declared.lexeme.lexeme.Kind.{Kind}
use Rattle.dt_text.specs.declared.expression.waiting.Begun.{Begun}
use Rattle.dt_text.specs.Expression.Expression.{rank}
use Rattle.dt_text.specs.Expression.Values.{Value, both}

-- The operators that stand between two operands.
abbrev pub is_infix : Kind → Bool
is_infix k = nat_le 1 (rank k) && nat_le (rank k) 10

-- such an operator, and what follows it
abbrev pub infix_at : List Lexeme → Option (Lexeme × List Lexeme)
infix_at [] = None
infix_at (t ∷ ts) = if is_infix t.kind then Some (t, ts) else None

-- what stands before an operator that waits, joined with what stands behind it
abbrev pub joined : Option Begun → Value → Value
joined None v = v
joined (Some b) v = both b.operator b.left v

-- the value behind an operand, joined with what waits at each rank up to this one, the tightest first
unfoldable pub joined_up_to : List (Option Begun) → ℕ → Value → Value
joined_up_to waiting zero v = v
joined_up_to waiting (suc r) v = joined (slice_index_or waiting r None) (joined_up_to waiting r v)

-- No operator up to this rank waits.
abbrev pub NothingUpTo : List (Option Begun) → ℕ → Type 0
NothingUpTo waiting rank = (k : ℕ) → k < rank → slice_index_or waiting k None ≡ None

-- At these ranks the same operators wait.
abbrev pub SameWait : (ℕ → Type 0) → (old new : List (Option Begun)) → Type 0
SameWait ranks old new = (k : ℕ) → ranks k → slice_index_or new k None ≡ slice_index_or old k None

abbrev pub Waits : List (Option Begun) → ℕ → Begun → Type 0
Waits waiting rank begun = slice_index_or waiting rank None ≡ Some begun
