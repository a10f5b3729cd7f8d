use Rattle.std.proofs.Common.{◌≡◌, ◌∙◌, ◌++◌, ◌∷◌, [], ap}
use Rattle.dt_source.specs.OverlayMeaning.Texts.{unended}
use Rattle.dt_overlay.proofs.FixupLemmas.TextLaws.{unended-zero, unended-other}
use Rattle.dt_overlay.proofs.fixup.texts.unended.Goals as goal

pub returns-then-last-eq0 : goal.returns-then-last-eq0
returns-then-last-eq0 c =
    let e : c.args.value.now ≡ c.in-Some.texts.now ++ c.in-Some.last.now ∷ [] = c.in-Some.ensures.cases.0 in
    ap unended e ∙ unended-zero c.in-Some.texts.now c.in-Some.last.now c.if-last-eq0.true

pub returns-else-last-eq0 : goal.returns-else-last-eq0
returns-else-last-eq0 c =
    let e : c.args.value.now ≡ c.in-Some.texts.now ++ c.in-Some.last.now ∷ [] = c.in-Some.ensures.cases.0 in
    ap unended e ∙ unended-other c.in-Some.texts.now c.in-Some.last.now c.if-last-eq0.false
