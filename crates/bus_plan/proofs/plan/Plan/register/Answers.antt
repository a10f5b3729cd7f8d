-- Each device gets what it gains, and nothing else changes.
use Rattle.std.proofs.Common.{◌∙◌, ap, sym, subst, ◌<◌, ◌&&◌, ◌||◌, map, length}
use Rattle.std.specs.Prelude.{All, nat_lt}
use Rattle.std.specs.Str.{bytes_eq}
use Rattle.std.proofs.lemmas.List.{length-map}
use Rattle.bus_plan.specs.LateDriver.{with_driver, gaining}
use Rattle.bus_plan.specs.PlanPaths.{is_among}
use Rattle.bus_plan.specs.Private.Indexed.{IsIndexed}
use Rattle.bus_plan.specs.Private.Late.{gain_of, given}
use Rattle.bus_plan.proofs.GainLemmas.{gaining-of, listed-with, given-with, given-count, gains-within, drivers-with}
use Rattle.bus_plan.proofs.LateDriverLemmas.{gathered-stays, index-stays, late_driver_is_lawful}
use Rattle.bus_plan.proofs.plan.Plan.register.Goals as goal

pub give-requires : goal.give-requires
give-requires c =
    let old = c.self.inside.devices.items in
    let name = c.args.name.now in
    let strings = c.args.compatibles.now in
    let places = c.in_ok-gaining.gaining in
    let are = gaining-of name strings old c.as_slice-devices.result.now c.self.inside.waiting places c.as_slice-devices.ensures.value c.self.invariant.listed c.in_ok-gaining.ensures in
    subst (All (λ gain. gain.device < length old)) (sym (c.in_ok-gains.ensures ∙ ap (map (gain_of name)) c.as_slice.ensures.places))
    (gains-within name strings places old are)

pub invariant_of-self-2 : goal.invariant_of-self-2
invariant_of-self-2 c =
    let old = c.self.inside.devices.items in
    let name = c.args.name.now in
    let strings = c.args.compatibles.now in
    let places = c.in_ok-gaining.gaining in
    let are = gaining-of name strings old c.as_slice-devices.result.now c.self.inside.waiting places c.as_slice-devices.ensures.value c.self.invariant.listed c.in_ok-gaining.ensures in
    let is = c.give.ensures ∙ ap (given old) (c.in_ok-gains.ensures ∙ ap (map (gain_of name)) c.as_slice.ensures.places)
    ∙ given-with name strings places old c.as_slice.ensures.once are in
    subst (λ ds. IsIndexed ds c.self.inside.index c.self.inside.consumers c.add_name.new.names c.empty_all.new.self) (sym is)
    (record {
      lawful = late_driver_is_lawful old name strings c.self.invariant.lawful c.requires;
      agrees = index-stays name strings old c.self.inside.index c.self.invariant.agrees;
      gathered = gathered-stays name strings old c.self.inside.consumers c.self.invariant.gathered;
      drivers = drivers-with name strings places old c.self.inside.drivers c.add_name.new.names are c.self.invariant.drivers
          (λ q. c.in_ok-add_name.ensures.ok q
          ∙ ap (λ ps. (nat_lt 0 (length ps) && bytes_eq q name) || is_among q c.self.inside.drivers) c.as_slice-2.ensures.places);
      listed = listed-with name strings old c.self.inside.waiting c.empty_all.new.self c.self.invariant.listed c.empty_all.ensures;
    })

pub returns-clause-ok : goal.returns-clause-ok
returns-clause-ok c =
    let old = c.self.inside.devices.items in
    let name = c.args.name.now in
    let strings = c.args.compatibles.now in
    let places = c.in_ok-gaining.gaining in
    let are = gaining-of name strings old c.as_slice-devices.result.now c.self.inside.waiting places c.as_slice-devices.ensures.value c.self.invariant.listed c.in_ok-gaining.ensures in
    c.give.ensures ∙ ap (given old) (c.in_ok-gains.ensures ∙ ap (map (gain_of name)) c.as_slice.ensures.places)
    ∙ given-with name strings places old c.as_slice.ensures.once are ∙ ap (λ ds. with_driver ds name strings) c.self.view_is

pub returns-clause-count : goal.returns-clause-count
returns-clause-count c =
    let old = c.self.inside.devices.items in
    let name = c.args.name.now in
    let strings = c.args.compatibles.now in
    let places = c.in_ok-gaining.gaining in
    let are = gaining-of name strings old c.as_slice-devices.result.now c.self.inside.waiting places c.as_slice-devices.ensures.value c.self.invariant.listed c.in_ok-gaining.ensures in
    c.len-count.ensures ∙ c.in_ok-gains.gains.ok.0 ∙ ap length (c.in_ok-gains.ensures ∙ ap (map (gain_of name)) c.as_slice.ensures.places)
    ∙ length-map places (gain_of name) ∙ given-count name strings places old c.as_slice.ensures.once are ∙ ap (λ ds. gaining ds strings) c.self.view_is
