use Rattle.std.proofs.Common.{◌≡◌, ◌≤◌, ℕ, List, [], ◌∷◌, length, get_or, Err, refl, arith}
use Rattle.dt_text.specs.declared.lexeme.lexeme.Lexeme.{Lexeme}
use Rattle.dt_text.specs.declared.lexeme.lexeme.Kind.{Kind}
use Rattle.dt_text.specs.declared.lexeme.lexeme.Kind.TheVariants.{Name}
use Rattle.dt_text.specs.Expression.Reading.{syntax_at}
use Rattle.dt_source.specs.Reading.Bodies.{name_by, name_at}
use Rattle.dt_source.proofs.body.name.Goals as goal

other : (text : List ℕ) (ts : List Lexeme) (d : Lexeme) → 1 ≤ length ts → ((get_or ts 0 d).kind ≡ Name → ⊥) → name_at text ts ≡ Err (syntax_at ts)
other text [] d h n = absurd (omega arith)
other text (t ∷ ts) d h n = go t.kind n
  where
    go : (k : Kind) → (k ≡ Name → ⊥) → name_by text k t ts ≡ Err (syntax_at (t ∷ ts))
    go Name n = absurd (n refl)
    go _ n = refl

pub returns-in_default-clause-gives : goal.returns-in_default-clause-gives
returns-in_default-clause-gives c = rw c.syntax_at-in_default.ensures (other c.args.text.now c.args.ts.now _ c.in-len1-up.len_at_least c.in_default.not-Name)
