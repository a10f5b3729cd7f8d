use Rattle.std.proofs.Common.{◌≡◌, ◌≤◌, false, List, [], ◌∷◌, length, get_or, Ok, refl, arith}
use Rattle.dt_text.specs.declared.lexeme.lexeme.Lexeme.{Lexeme}
use Rattle.dt_text.specs.declared.lexeme.lexeme.Kind.{Kind}
use Rattle.dt_text.specs.declared.lexeme.lexeme.Kind.TheVariants.{Plugin}
use Rattle.dt_source.specs.Reading.Whole.{plugin_kind, plugin_at}
use Rattle.dt_source.proofs.source.plugin.Goals as goal

other : (ts : List Lexeme) (d : Lexeme) → 1 ≤ length ts → ((get_or ts 0 d).kind ≡ Plugin → ⊥) → plugin_at ts ≡ Ok (false, ts)
other [] d h n = absurd (omega arith)
other (t ∷ ts) d h n = go t.kind n
  where
    go : (k : Kind) → (k ≡ Plugin → ⊥) → plugin_kind k t ts ≡ Ok (false, (t ∷ ts))
    go Plugin n = absurd (n refl)
    go _ n = refl

pub returns-in_default-clause-gives : goal.returns-in_default-clause-gives
returns-in_default-clause-gives c = other c.args.ts.now _ c.in-len1-up.len_at_least c.in_default.not-Plugin
