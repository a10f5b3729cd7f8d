use Rattle.std.proofs.Common.{◌≡◌, ℕ, List, ◌∷◌, Err, refl}
use Rattle.dt_text.specs.declared.lexeme.language.Language.{Language}
use Rattle.dt_text.specs.declared.lexeme.lexeme.Lexeme.{Lexeme}
use Rattle.dt_text.specs.declared.lexeme.lexeme.Kind.{Kind}
use Rattle.dt_text.specs.declared.lexeme.lexeme.Kind.TheVariants.{Slash, DeleteNode, OmitIfNoRef}
use Rattle.dt_text.specs.Expression.Reading.{syntax_at}
use Rattle.dt_source.specs.Reading.Whole.{bare_item}
use Rattle.dt_source.proofs.source.bare.Goals as goal

other : (language : Language) (text : List ℕ) (k : Kind) (t : Lexeme) (ts : List Lexeme) → (k ≡ Slash → ⊥) → (k ≡ DeleteNode → ⊥) → (k ≡ OmitIfNoRef → ⊥) → bare_item language text k t ts ≡ Err (syntax_at (t ∷ ts))
other language text Slash t ts n0 n1 n2 = absurd (n0 refl)
other language text DeleteNode t ts n0 n1 n2 = absurd (n1 refl)
other language text OmitIfNoRef t ts n0 n1 n2 = absurd (n2 refl)
other language text _ t ts n0 n1 n2 = refl

pub returns-in_default-clause-gives : goal.returns-in_default-clause-gives
returns-in_default-clause-gives c = rw (c.syntax_at.ensures, c.requires) (other c.args.language c.args.text.now c.args.t.kind c.args.t c.args.rest.now c.in_default.not-Slash c.in_default.not-DeleteNode c.in_default.not-OmitIfNoRef)
