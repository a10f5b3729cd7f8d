-- The set's keys show the paths.
use Rattle.std.proofs.Common.{◌∙◌, ap}
use Rattle.std.specs.Prelude.{position}
use Rattle.std.specs.Str.{bytes_eq}
use Rattle.bus_plan.proofs.ListLemmas.{position-map}
use Rattle.bus_plan.proofs.paths.PathIndex.position.Goals as goal

pub returns : goal.returns
returns c =
    c.get_index_of.ensures.index ∙ position-map (λ k. k.items) (bytes_eq c.args.path.now) c.self.inside.set.keys
    ∙ ap (position (bytes_eq c.args.path.now)) c.self.view_is
