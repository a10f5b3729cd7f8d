use Rattle.std.proofs.Common.{◌≡◌, ◌≤◌, ℕ, List, [], ◌∷◌, length, get_or, Err, refl, arith}
use Rattle.dt_text.specs.declared.lexeme.lexeme.Lexeme.{Lexeme}
use Rattle.dt_text.specs.declared.lexeme.lexeme.Kind.{Kind}
use Rattle.dt_text.specs.declared.lexeme.lexeme.Kind.TheVariants.{Greater, Literal, Character, Paren, Reference, PathReference, Label}
use Rattle.dt_text.specs.Expression.Reading.{syntax_at}
use Rattle.dt_source.specs.Reading.Bodies.{cell_by, cell_at}
use Rattle.dt_source.proofs.cells.cell.Goals as goal

other : (text : List ℕ) (ts : List Lexeme) (d : Lexeme) → 1 ≤ length ts → ((get_or ts 0 d).kind ≡ Greater → ⊥) → ((get_or ts 0 d).kind ≡ Literal → ⊥) → ((get_or ts 0 d).kind ≡ Character → ⊥) → ((get_or ts 0 d).kind ≡ Paren → ⊥) → ((get_or ts 0 d).kind ≡ Reference → ⊥) → ((get_or ts 0 d).kind ≡ PathReference → ⊥) → ((get_or ts 0 d).kind ≡ Label → ⊥) → cell_at text ts ≡ Err (syntax_at ts)
unfolding cell_at
other text [] d h n0 n1 n6 n2 n3 n4 n5 = absurd (omega arith)
other text (t ∷ ts) d h n0 n1 n6 n2 n3 n4 n5 = go t.kind n0 n1 n6 n2 n3 n4 n5
  where
    go : (k : Kind) → (k ≡ Greater → ⊥) → (k ≡ Literal → ⊥) → (k ≡ Character → ⊥) → (k ≡ Paren → ⊥) → (k ≡ Reference → ⊥) → (k ≡ PathReference → ⊥) → (k ≡ Label → ⊥) → cell_by text k t ts ≡ Err (syntax_at (t ∷ ts))
    go Greater n0 n1 n6 n2 n3 n4 n5 = absurd (n0 refl)
    go Literal n0 n1 n6 n2 n3 n4 n5 = absurd (n1 refl)
    go Character n0 n1 n6 n2 n3 n4 n5 = absurd (n6 refl)
    go Paren n0 n1 n6 n2 n3 n4 n5 = absurd (n2 refl)
    go Reference n0 n1 n6 n2 n3 n4 n5 = absurd (n3 refl)
    go PathReference n0 n1 n6 n2 n3 n4 n5 = absurd (n4 refl)
    go Label n0 n1 n6 n2 n3 n4 n5 = absurd (n5 refl)
    go _ n0 n1 n6 n2 n3 n4 n5 = refl

pub returns-in_default-clause-gives : goal.returns-in_default-clause-gives
returns-in_default-clause-gives c = rw c.syntax_at-in_default.ensures (other c.args.text.now c.args.ts.now _ c.in-len1-up.len_at_least c.in_default.not-Greater c.in_default.not-Literal c.in_default.not-Character c.in_default.not-Paren c.in_default.not-Reference c.in_default.not-PathReference c.in_default.not-Label)
