-- The new place stands last.
use Rattle.std.proofs.Common.{◌∙◌, ◌||◌, ap}
use Rattle.std.specs.List.{list_any}
use Rattle.bus_plan.proofs.PlacesLemmas.{any-insert}
use Rattle.bus_plan.proofs.places.Places.add.Goals as goal

pub returns : goal.returns
returns c test =
    ap (list_any test) c.in_ok-insert.ensures.keys ∙ any-insert test c.self.inside.set.keys c.args.place
    ∙ ap (λ places. list_any test places || test c.args.place) c.self.view_is
