use Rattle.std.proofs.Common.{Some, None, ap, sym, ◌∙◌}
use Rattle.std.specs.Option.{option_copied}
use Rattle.dt_patch.proofs.ViewLemmas.CellCounts.{read_region}
use Rattle.dt_patch.proofs.view.view.View.region.Goals as goal

pub returns-in-Some-Some-clause-stands : goal.returns-in-Some-Some-clause-stands
returns-in-Some-Some-clause-stands c = λ p d s t. c.region_at.ensures
    ∙ read_region p.properties d.properties c.args.index (Some c.in-Some-Some.cells) (Some c.in-Some-Some.value.now) (sym c.in-Some-Some.is-0 ∙ c.in_ok-cells.ensures.stands p s) (ap option_copied (sym c.in-Some-Some.is-1) ∙ c.in_ok-value.ensures.stands d t)

pub returns-in-Some-None-clause-stands : goal.returns-in-Some-None-clause-stands
returns-in-Some-None-clause-stands c = λ p d s t.
    read_region p.properties d.properties c.args.index (Some c.in-Some-None.field-0-0) None (sym c.in-Some-None.is-0 ∙ c.in_ok-cells.ensures.stands p s) (ap option_copied (sym c.in-Some-None.is-1) ∙ c.in_ok-value.ensures.stands d t)
