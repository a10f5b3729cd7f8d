-- Semicolons are spelled where they are read, and the other way round.
use Rattle.std.proofs.Common.{◌≡◌, List, [], ◌∷◌, Ok, ap, ◌∙◌, refl}
use Rattle.dt_text.specs.declared.lexeme.lexeme.Lexeme.{Lexeme}
use Rattle.dt_text.specs.declared.lexeme.lexeme.Kind.{Kind}
use Rattle.dt_text.specs.declared.lexeme.lexeme.Kind.TheVariants.{Semicolon}
use Rattle.dt_text.specs.Expression.Expression.{Begins}
use Rattle.dt_source.specs.Reading.Bodies.{semicolon_kind, semicolon_at}
use Rattle.dt_text.proofs.ExpressionLemmas.Sound.{ok_is}

pub semicolon_sound : (ts rest : List Lexeme) → semicolon_at ts ≡ Ok rest → Begins ts Semicolon rest
semicolon_sound [] rest e = absurd cc
semicolon_sound (t ∷ ts) rest e = go t.kind refl e
  where
    go : (k : Kind) → t.kind ≡ k → semicolon_kind k t ts ≡ Ok rest → Begins (t ∷ ts) Semicolon rest
    go Semicolon k e = (k, ok_is ts rest e)
    go _ k e = absurd cc

pub semicolon_again : (ts rest : List Lexeme) → Begins ts Semicolon rest → semicolon_at ts ≡ Ok rest
semicolon_again [] rest h = absurd h
semicolon_again (t ∷ ts) rest h = ap (λ (x : Kind). semicolon_kind x t ts) h.0 ∙ rw (h.1) refl
