use Rattle.std.proofs.Common.{◌∙◌, ◌∷◌, List, ℕ, ap}
use Rattle.dt_source.specs.OverlayMeaning.Shifted.{site_of}
use Rattle.dt_overlay.proofs.FixupLemmas.TextLaws.{no-fourth}
use Rattle.dt_overlay.proofs.fixup.texts.site_in.Goals as goal

pub returns-in-Some-first_part-2 : goal.returns-in-Some-first_part-2
returns-in-Some-first_part-2 c =
    let p = c.in-Some.path.now in
    let n = c.in-Some-first_part.name.now in
    let d = c.in-Some-first_part-2.field-0.0.now in
    ap site_of c.in-Some.ensures
    ∙ ap (λ (ps : List (List ℕ)). site_of (p ∷ ps)) c.in-Some-first_part.ensures
    ∙ ap (λ (ps : List (List ℕ)). site_of (p ∷ n ∷ ps)) c.in-Some-first_part-2.ensures
    ∙ no-fourth p n d c.in-Some-first_part-2.field-0.1.now
