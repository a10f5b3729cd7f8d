use Rattle.std.proofs.Common.{◌≡◌, ◌≤◌, List, [], ◌∷◌, length, get_or, Err, refl, arith}
use Rattle.dt_text.specs.declared.lexeme.lexeme.Lexeme.{Lexeme}
use Rattle.dt_text.specs.declared.lexeme.lexeme.Kind.{Kind}
use Rattle.dt_text.specs.declared.lexeme.lexeme.Kind.TheVariants.{Comma}
use Rattle.dt_text.specs.Expression.Reading.{syntax_at}
use Rattle.dt_source.specs.Reading.Files.{separator_kind, separator_at}
use Rattle.dt_source.proofs.file_parts.separator.Goals as goal

other : (ts : List Lexeme) (d : Lexeme) → 1 ≤ length ts → ((get_or ts 0 d).kind ≡ Comma → ⊥) → separator_at ts ≡ Err (syntax_at ts)
other [] d h n = absurd (omega arith)
other (t ∷ ts) d h n = go t.kind n
  where
    go : (k : Kind) → (k ≡ Comma → ⊥) → separator_kind k t ts ≡ Err (syntax_at (t ∷ ts))
    go Comma n = absurd (n refl)
    go _ n = refl

pub returns-in_default-clause-gives : goal.returns-in_default-clause-gives
returns-in_default-clause-gives c = rw c.syntax_at-in_default.ensures (other c.args.ts.now _ c.in-len1-up.len_at_least c.in_default.not-Comma)
