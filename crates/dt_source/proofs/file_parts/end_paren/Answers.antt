use Rattle.std.proofs.Common.{◌≡◌, ◌≤◌, List, [], ◌∷◌, length, get_or, Err, refl, arith}
use Rattle.dt_text.specs.declared.lexeme.lexeme.Lexeme.{Lexeme}
use Rattle.dt_text.specs.declared.lexeme.lexeme.Kind.{Kind}
use Rattle.dt_text.specs.declared.lexeme.lexeme.Kind.TheVariants.{EndParen}
use Rattle.dt_text.specs.Expression.Reading.{syntax_at}
use Rattle.dt_source.specs.Reading.Files.{end_paren_kind, end_paren_at}
use Rattle.dt_source.proofs.file_parts.end_paren.Goals as goal

other : (ts : List Lexeme) (d : Lexeme) → 1 ≤ length ts → ((get_or ts 0 d).kind ≡ EndParen → ⊥) → end_paren_at ts ≡ Err (syntax_at ts)
other [] d h n = absurd (omega arith)
other (t ∷ ts) d h n = go t.kind n
  where
    go : (k : Kind) → (k ≡ EndParen → ⊥) → end_paren_kind k t ts ≡ Err (syntax_at (t ∷ ts))
    go EndParen n = absurd (n refl)
    go _ n = refl

pub returns-in_default-clause-gives : goal.returns-in_default-clause-gives
returns-in_default-clause-gives c = rw c.syntax_at-in_default.ensures (other c.args.ts.now _ c.in-len1-up.len_at_least c.in_default.not-EndParen)
