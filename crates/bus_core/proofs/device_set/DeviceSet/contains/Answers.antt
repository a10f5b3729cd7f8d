use Rattle.std.proofs.Common.{◌≡◌, false, get_or, ap, sym, ◌∙◌, rules}
use Rattle.std.specs.Prelude.{is_some}
use Rattle.bus_core.specs.RefinementSet.{place_of}
use Rattle.bus_core.proofs.SetLemmas.{view-at}
use Rattle.bus_core.proofs.device_set.DeviceSet.contains.Goals as goal

pub returns-in-Some : goal.returns-in-Some
returns-in-Some c =
    let at : c.in-Some.place.now ≡ place_of c.self.inside.places.items c.args.device = search rules
    in c.is_some.ensures ∙ ap is_some at ∙ sym (view-at c.self.inside.places.items c.args.device) ∙ ap (λ flags. get_or flags c.args.device false) c.self.view_is
