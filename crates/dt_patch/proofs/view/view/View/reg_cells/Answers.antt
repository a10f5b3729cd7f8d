use Rattle.std.proofs.Common.{Some, None, sym, ◌∙◌}
use Rattle.dt_patch.proofs.ViewLemmas.CellCounts.{read_cells, read_none}
use Rattle.dt_patch.proofs.view.view.View.reg_cells.Goals as goal

pub returns-in-Some-Some-clause-stands : goal.returns-in-Some-Some-clause-stands
returns-in-Some-Some-clause-stands c = λ d a.
    read_cells d.properties (Some c.in-Some-Some.address) (Some c.in-Some-Some.size) (sym c.in-Some-Some.is-0 ∙ c.in_ok-address.ensures.stands d a) (sym c.in-Some-Some.is-1 ∙ c.in_ok-size.ensures.stands d a)

pub returns-in-Some-None-clause-stands : goal.returns-in-Some-None-clause-stands
returns-in-Some-None-clause-stands c = λ d a. read_none d.properties c.in_ok-address.address (c.in_ok-address.ensures.stands d a) (sym c.in-Some-None.is-1 ∙ c.in_ok-size.ensures.stands d a)

pub returns-in-None-default-clause-stands : goal.returns-in-None-default-clause-stands
returns-in-None-default-clause-stands c = λ d a. read_cells d.properties None c.in_ok-size.size (sym c.in-None-default.is-0 ∙ c.in_ok-address.ensures.stands d a) (c.in_ok-size.ensures.stands d a)
