use Rattle.std.proofs.Common.{◌∙◌, sym, ◌==◌}
use Rattle.dt_overlay.proofs.FixupLemmas.TextLaws.{first-part, no-part}
use Rattle.dt_overlay.proofs.fixup.texts.first_part.Goals as goal

pub returns-in_default : goal.returns-in_default
returns-in_default c = no-part (λ b. b == 58) c.args.text.now (sym c.colon_place.ensures ∙ c.in_default.is)

pub returns : goal.returns
returns c = first-part (λ b. b == 58) c.args.text.now c.in-Some.end (sym c.colon_place.ensures ∙ c.in-Some.is)
