use Rattle.std.proofs.Common.{◌≡◌, ◌≤◌, ℕ, List, [], ◌∷◌, length, get_or, Err, refl, arith}
use Rattle.dt_text.specs.declared.lexeme.lexeme.Lexeme.{Lexeme}
use Rattle.dt_text.specs.declared.lexeme.lexeme.Kind.{Kind}
use Rattle.dt_text.specs.declared.lexeme.lexeme.Kind.TheVariants.{EndSquare, Pair, Label}
use Rattle.dt_text.specs.Expression.Reading.{syntax_at}
use Rattle.dt_source.specs.Reading.Bodies.{pair_by, pair_at}
use Rattle.dt_source.proofs.cells.pair_in.Goals as goal

other : (text : List ℕ) (ts : List Lexeme) (d : Lexeme) → 1 ≤ length ts → ((get_or ts 0 d).kind ≡ EndSquare → ⊥) → ((get_or ts 0 d).kind ≡ Pair → ⊥) → ((get_or ts 0 d).kind ≡ Label → ⊥) → pair_at text ts ≡ Err (syntax_at ts)
other text [] d h n0 n1 n2 = absurd (omega arith)
other text (t ∷ ts) d h n0 n1 n2 = go t.kind n0 n1 n2
  where
    go : (k : Kind) → (k ≡ EndSquare → ⊥) → (k ≡ Pair → ⊥) → (k ≡ Label → ⊥) → pair_by text k t ts ≡ Err (syntax_at (t ∷ ts))
    go EndSquare n0 n1 n2 = absurd (n0 refl)
    go Pair n0 n1 n2 = absurd (n1 refl)
    go Label n0 n1 n2 = absurd (n2 refl)
    go _ n0 n1 n2 = refl

pub returns-in_default-clause-gives : goal.returns-in_default-clause-gives
returns-in_default-clause-gives c = rw c.syntax_at-in_default.ensures (other c.args.text.now c.args.ts.now _ c.in-len1-up.len_at_least c.in_default.not-EndSquare c.in_default.not-Pair c.in_default.not-Label)
