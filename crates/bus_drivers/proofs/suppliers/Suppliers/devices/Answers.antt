-- A place more is named, and in the end each is.
use Rattle.std.proofs.Common.{◌∙◌, ap, sym, ℕ, List, [], ◌∷◌, ◌++◌, take}
use Rattle.std.proofs.lemmas.List.{take_more, take_all}
use Rattle.bus_drivers.specs.Private.Suppliers.{Suppliers}
use Rattle.bus_drivers.proofs.suppliers.Suppliers.devices.Goals as goal

pub loop-place-preserved : goal.loop-place-preserved
loop-place-preserved c =
    let places = c.as_slice-place-items.result.now in
    let at = c.loop-place.place-index in
    c.in_ok-push.ensures.items ∙ ap (λ (ds : List ℕ). ds ++ c.new.result ∷ []) c.loop-place.invariant ∙ ap (λ (d : ℕ). take at places ++ d ∷ []) c.new.ensures
    ∙ sym (take_more places at 0 c.loop-place-test.true)

pub returns : goal.returns
returns c =
    c.loop-place.invariant ∙ take_all c.loop-place.place-index c.as_slice-place-items.result.now c.loop-place-test.false ∙ c.as_slice-place-items.ensures.keys
    ∙ ap (λ (s : Suppliers). s.found) c.self.view_is
