-- A device more, or its fault.
use Rattle.std.proofs.Common.{◌∙◌, ap, sym, ◌+◌, inl, inr, ⊎_elim, drop, append-nil, Ok}
use Rattle.std.proofs.lemmas.List.{at_drop_all}
use Rattle.std.proofs.lemmas.Result.{err_from_is_err_and}
use Rattle.bus_drivers.specs.Nodes.{target_of}
use Rattle.bus_drivers.specs.References.{followed_by}
use Rattle.bus_drivers.specs.TreePlan.{planned_from}
use Rattle.bus_drivers.specs.Private.Planning.{planned_at}
use Rattle.bus_drivers.proofs.PlanningLemmas.{none-before, planned-next, planned-fault}
use Rattle.bus_drivers.proofs.planning.planned_devices.Goals as goal

pub loop-place-init : goal.loop-place-init
loop-place-init c = none-before c.in_ok-planned.planned.items _ c.in_ok-planned.ensures.items

pub loop-place-preserved : goal.loop-place-preserved
loop-place-preserved c =
    let target = target_of c.args.phandle_index.now in
    let set = c.args.matcher.now in
    let all = c.devices-device-items.result.now in
    let place = c.loop-place.place in
    let d = c.device-item.result in
    ap (λ ps. followed_by (Ok ps) (planned_from target set (place + 1) (drop (place + 1) all))) c.in_ok-push.ensures.items
    ∙ planned-next target set c.loop-place.planned.items all place d c.loop-place-test.true c.device-item.is c.in_ok-device.device (ap (λ k. planned_at target set k d) (sym c.new.ensures) ∙ c.in_ok-device.ensures)
    ∙ c.loop-place.invariant

pub returns-in_err-device : goal.returns-in_err-device
returns-in_err-device c =
    let target = target_of c.args.phandle_index.now in
    let set = c.args.matcher.now in
    let d = c.device-item.result in
    let p = err_from_is_err_and c.from_residual-in_err-device.result c.from_residual-in_err-device.ensures.1 in
    rw (p.1, p.2)
    (⊎_elim (λ none. inl none)
    (λ fault.
    inr (ap (λ ds. planned_from target set 0 ds) (sym c.devices-device-items.ensures) ∙ sym c.loop-place.invariant
    ∙ planned-fault target set c.loop-place.planned.items c.devices-device-items.result.now c.loop-place.place d c.loop-place-test.true c.device-item.is _ (ap (λ k. planned_at target set k d) (sym c.new.ensures) ∙ fault)))
    c.in_err-device.ensures)

pub returns : goal.returns
returns c =
    let target = target_of c.args.phandle_index.now in
    let set = c.args.matcher.now in
    let planned = c.loop-place.planned.items in
    ap (λ ds. planned_from target set 0 ds) (sym c.devices-device-items.ensures) ∙ sym c.loop-place.invariant
    ∙ at_drop_all (λ ds. followed_by (Ok planned) (planned_from target set c.loop-place.place ds)) c.devices-device-items.result.now c.loop-place.place c.loop-place-test.false ∙ ap Ok (append-nil planned)
