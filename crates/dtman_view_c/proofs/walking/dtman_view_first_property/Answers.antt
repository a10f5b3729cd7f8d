use Rattle.std.proofs.Common.{ap, ◌∙◌}
use Rattle.dtman_view_c.specs.Told.{property_told}
use Rattle.dtman_view_c.proofs.walking.dtman_view_first_property.Goals as goal

pub returns-clause-tells : goal.returns-clause-tells
returns-clause-tells c = (c.first_property.result, c.first_property.ensures.stands, c.property_told.ensures)

pub returns-clause-refused : goal.returns-clause-refused
returns-clause-refused c = λ n. c.property_told.ensures ∙ ap property_told (c.first_property.ensures.refused n)
