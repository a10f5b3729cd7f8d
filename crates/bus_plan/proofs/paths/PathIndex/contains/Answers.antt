-- The set's keys show the paths.
use Rattle.std.proofs.Common.{◌∙◌, ap}
use Rattle.std.specs.List.{list_any}
use Rattle.std.specs.Str.{bytes_eq}
use Rattle.bus_plan.proofs.ListLemmas.{list_any-map}
use Rattle.bus_plan.proofs.paths.PathIndex.contains.Goals as goal

pub returns : goal.returns
returns c =
    c.contains.ensures ∙ list_any-map (λ k. k.items) (bytes_eq c.args.path.now) c.self.inside.set.keys
    ∙ ap (list_any (bytes_eq c.args.path.now)) c.self.view_is
