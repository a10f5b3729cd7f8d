use Rattle.std.proofs.Common.{◌≡◌, ap, ◌∙◌, subst, List, Bool, ℕ, get_or, true, false}
use Rattle.std.specs.Prelude.{IfNone, IfSome, slice_get, length, ◌-◌}
use Rattle.bus_core.proofs.SetLemmas.{any-none, any-some}
use Rattle.bus_core.proofs.device_set.DeviceSet.any.Goals as goal
use Rattle.bus_core.proofs.device_set.DeviceSet.any.Goals.{After-copied}

last : (c : After-copied) → c.copied.result ≡ slice_get c.self.inside.members.items (length c.self.inside.members.items - 1)
last c = c.copied.ensures ∙ c.last.ensures.value ∙ ap (λ xs. slice_get xs (length xs - 1)) c.deref.ensures.value

pub returns-clause-none : goal.returns-clause-none
returns-clause-none c =
    let P : List Bool → Type 0 = λ flags. IfNone c.copied.result ((d : ℕ) → get_or flags d false ≡ false)
    in subst P c.self.view_is (any-none c.self.inside.members.items c.self.inside.places.items _ c.copied.result (last c) c.self.invariant)

pub returns-clause-some : goal.returns-clause-some
returns-clause-some c =
    let P : List Bool → Type 0 = λ flags. IfSome c.copied.result (λ d. get_or flags d false ≡ true)
    in subst P c.self.view_is (any-some c.self.inside.members.items c.self.inside.places.items _ c.copied.result (last c) c.self.invariant)
