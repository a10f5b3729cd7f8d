use Rattle.std.proofs.Common.{◌≡◌, ◌∙◌, ap, sym, List, ℕ, ◌+◌, ◌-◌, Some, length, drop}
use Rattle.bus_links.specs.Bindings.Interrupts.{Parent, parent_in, row_within}
use Rattle.bus_links.proofs.BindingsLemmas.InterruptLemmas.{le-test, row-on}
use Rattle.bus_links.proofs.bindings.nexus.row_within.Goals as goal

pub loop-left-preserved : goal.loop-left-preserved
loop-left-preserved c =
    let nodes = c.args.nodes.now in
    let masks = c.args.masks.now in
    let key = c.args.key.now in
    let rest = c.loop-left.rest.now in
    let left = c.loop-left.left in
    let p : Parent = record { node = c.parent.inside.node; bytes = c.parent.inside.bytes } in
    let is : parent_in nodes (drop (length key) rest) ≡ Some p =
    ap (parent_in nodes) (sym c.behind.ensures) ∙ sym c.parent_in.ensures.value ∙ c.in-Some.is ∙ ap Some (sym c.parent.view_is) in
    ap (λ (r : List ℕ). row_within nodes masks key (left - 1) r) c.behind-rest.ensures
    ∙ row-on nodes masks key left rest p c.loop-left-test.true (le-test (length key + 8) (length rest) c.if-rest-key.false) is (sym c.is_for.ensures ∙ c.if-is_for.false)
    ∙ c.loop-left.invariant
