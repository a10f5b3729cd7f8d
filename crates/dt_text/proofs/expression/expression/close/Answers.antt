use Rattle.std.proofs.Common.{◌≡◌, ◌≤◌, List, [], ◌∷◌, length, get_or, Err, refl, arith}
use Rattle.dt_text.specs.declared.lexeme.lexeme.Lexeme.{Lexeme}
use Rattle.dt_text.specs.declared.lexeme.lexeme.Kind.{Kind}
use Rattle.dt_text.specs.declared.lexeme.lexeme.Kind.TheVariants.{EndParen}
use Rattle.dt_text.specs.Expression.Values.{Value}
use Rattle.dt_text.specs.Expression.Reading.{syntax_at}
use Rattle.dt_text.specs.Expression.ReadingExpressions.{closed_by, closed}
use Rattle.dt_text.proofs.expression.expression.close.Goals as goal

other : (v : Value) (ts : List Lexeme) (d : Lexeme) → 1 ≤ length ts → ((get_or ts 0 d).kind ≡ EndParen → ⊥) → closed v ts ≡ Err (syntax_at ts)
other v [] d h n = absurd (omega arith)
other v (t ∷ ts) d h n = go t.kind n
  where
    go : (k : Kind) → (k ≡ EndParen → ⊥) → closed_by v k t ts ≡ Err (syntax_at (t ∷ ts))
    go EndParen n = absurd (n refl)
    go _ n = refl

pub returns-in_default-clause-gives : goal.returns-in_default-clause-gives
returns-in_default-clause-gives c = rw c.syntax_at-in_default.ensures (other c.args.value c.args.lexemes.now _ c.in-len1-up.len_at_least c.in_default.not-EndParen)
