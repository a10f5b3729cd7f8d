use Rattle.std.proofs.Common.{◌≡◌, ◌∙◌, ap, sym, Some}
use Rattle.std.proofs.lemmas.Bool.{ne_eqb}
use Rattle.bus_links.specs.Bindings.Interrupts.{Asked, asked_next}
use Rattle.bus_links.proofs.BindingsLemmas.InterruptLemmas.{controller-on}
use Rattle.bus_links.proofs.bindings.interrupts.controller_within.Goals as goal

pub loop-left-preserved : goal.loop-left-preserved
loop-left-preserved c =
    let nodes = c.args.nodes.now in
    let at = c.loop-left.at in
    let key = c.loop-left.asked.now in
    let a : Asked = record { place = c.next.inside.place; key = c.next.inside.key.now } in
    let is : asked_next nodes at key ≡ Some a = sym c.asked_next.ensures ∙ c.in-Some.is ∙ ap Some (sym c.next.view_is) in
    controller-on nodes c.loop-left.left at key a c.loop-left-test.true (sym c.is_controller.ensures ∙ c.if-is_controller.false) is (ne_eqb a.place at c.if-next-at.false)
    ∙ c.loop-left.invariant
