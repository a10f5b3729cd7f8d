-- Each specifier names its controller, until one has none.
use Rattle.std.proofs.Common.{◌≡◌, ◌∙◌, ap, ap₂, sym, subst, List, ℕ, ◌+◌, ◌-◌, length, take, None, Some, arith}
use Rattle.std.specs.Prelude.{OnOk}
use Rattle.bus_links.specs.Bindings.Interrupts.{controller_of}
use Rattle.bus_links.specs.Bindings.Mentions.{FoundData, and_then, mentioned, lines_within}
use Rattle.bus_links.proofs.BindingsLemmas.FoundLemmas.{and_then-assoc, lines-none, lines-on}
use Rattle.bus_links.proofs.BindingsLemmas.InterruptLemmas.{le-test}
use Rattle.bus_links.proofs.bindings.mentions.Found.add_specifiers.Goals as goal

pub returns-in_default : goal.returns-in_default
returns-in_default c =
    let nodes = c.args.nodes.now in
    let rest = c.loop-left.rest.now in
    let width = c.args.width in
    let none : controller_of nodes c.args.own c.args.parent (take width rest) ≡ None =
    ap (controller_of nodes c.args.own c.args.parent) (sym c.before-specifier.ensures) ∙ sym c.in_ok-controller.ensures ∙ c.in_default.is in
    let all = ap (and_then c.loop-left.self)
    (sym (lines-none nodes c.args.property.now c.args.own c.args.parent width c.loop-left.entry c.loop-left.left rest c.loop-left-test.true (sym c.is_empty.ensures ∙ c.if-is_empty.false)
    (le-test width (length rest) c.if-width-rest.false) none))
    ∙ c.loop-left.invariant.left in
    subst (λ (f : FoundData). OnOk c.add_fault-in_default.result (c.add_fault-in_default.new.self ≡ f)) all c.add_fault-in_default.ensures

pub loop-left-preserved : goal.loop-left-preserved
loop-left-preserved c =
    let nodes = c.args.nodes.now in
    let property = c.args.property.now in
    let own = c.args.own in
    let parent = c.args.parent in
    let width = c.args.width in
    let entry = c.loop-left.entry in
    let left = c.loop-left.left in
    let rest = c.loop-left.rest.now in
    let controller = c.in-Some.controller in
    let some : controller_of nodes own parent (take width rest) ≡ Some controller =
    ap (controller_of nodes own parent) (sym c.before-specifier.ensures) ∙ sym c.in_ok-controller.ensures ∙ c.in-Some.is in
    let on = lines-on nodes property own parent width entry left rest controller c.loop-left-test.true (sym c.is_empty.ensures ∙ c.if-is_empty.false) (le-test width (length rest) c.if-width-rest.false) some in
    record {
      left =
          ap₂ (λ (s : FoundData) (r : List ℕ). and_then s (lines_within nodes property own parent width (entry + 1) (left - 1) r)) c.in_ok-add.ensures c.behind-rest.ensures
          ∙ and_then-assoc c.loop-left.self (mentioned property entry controller) _ ∙ ap (and_then c.loop-left.self) (sym on) ∙ c.loop-left.invariant.left;
      few = omega (arith, c.loop-left.invariant.few, c.loop-left-test.true);
    }
