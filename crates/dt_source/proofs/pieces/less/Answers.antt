use Rattle.std.proofs.Common.{◌≡◌, ◌≤◌, ◌-◌, ℕ, List, [], ◌∷◌, length, get_or, take, drop, Option, Err, refl, sym, ap, ◌∙◌, arith}
use Rattle.std.proofs.lemmas.List.{take_rest}
use Rattle.dt_text.specs.declared.lexeme.lexeme.Lexeme.{Lexeme}
use Rattle.dt_text.specs.declared.lexeme.lexeme.Fault.{Fault}
use Rattle.dt_text.specs.declared.lexeme.lexeme.Kind.{Kind}
use Rattle.dt_text.specs.declared.lexeme.lexeme.Kind.TheVariants.{Less}
use Rattle.dt_text.specs.Expression.Reading.{syntax_at}
use Rattle.dt_text.specs.declared.expression.elements.Width.{Width}
use Rattle.dt_source.specs.Reading.Values.{built}
use Rattle.dt_source.specs.Reading.Bodies.{cells_at, less_by, less_at}
use Rattle.dt_source.specs.Reading.Loops.{into}
use Rattle.dt_source.proofs.PieceLoops.{into_earlier}
use Rattle.dt_source.proofs.pieces.less.Goals as goal

begins : (text : List ℕ) (w : Option Width) (f : Option Fault) (ts : List Lexeme) (d : Lexeme) → 1 ≤ length ts → (get_or ts 0 d).kind ≡ Less → less_at text w f ts ≡ less_by text w f Less (get_or ts 0 d) (take (length ts - 1) (drop 1 ts))
begins text w f [] d h k = absurd (omega arith)
begins text w f (t ∷ ts) d h k = ap (λ (x : Kind). less_by text w f x t ts) k ∙ ap (λ (x : List Lexeme). less_by text w f Less t x) (sym (take_rest (t ∷ ts) 1))

pub returns-in_ok-first-in-Less-clause-gives : goal.returns-in_ok-first-in-Less-clause-gives
returns-in_ok-first-in-Less-clause-gives c =
    ap (into (built c.args.parts.now)) (begins c.args.text.now c.args.width c.args.fault c.args.ts.now _ c.in-len1-up.len_at_least c.in-Less.is)
    ∙ into_earlier (built c.args.parts.now) c.args.fault (cells_at c.args.text.now c.args.width (take (length c.args.ts.now - 1) (drop 1 c.args.ts.now))) (built c.cells.new.parts) c.in_ok-first-in-Less.first c.in_ok-first-in-Less.rest.now c.in_ok-first-in-Less.ensures.gives
    ∙ rw c.earlier.ensures refl

other : (text : List ℕ) (w : Option Width) (f : Option Fault) (ts : List Lexeme) (d : Lexeme) → 1 ≤ length ts → ((get_or ts 0 d).kind ≡ Less → ⊥) → less_at text w f ts ≡ Err (syntax_at ts)
other text w f [] d h n = absurd (omega arith)
other text w f (t ∷ ts) d h n = go t.kind n
  where
    go : (k : Kind) → (k ≡ Less → ⊥) → less_by text w f k t ts ≡ Err (syntax_at (t ∷ ts))
    go Less n = absurd (n refl)
    go _ n = refl

pub returns-in_default-clause-gives : goal.returns-in_default-clause-gives
returns-in_default-clause-gives c = rw (c.syntax_at-in_default.ensures, other c.args.text.now c.args.width c.args.fault c.args.ts.now _ c.in-len1-up.len_at_least c.in_default.not-Less) refl
