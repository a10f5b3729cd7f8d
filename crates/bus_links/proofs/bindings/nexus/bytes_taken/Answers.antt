use Rattle.std.proofs.Common.{◌≡◌, ◌∙◌, ap, sym, ℕ, ◌+◌, ◌*◌, Some}
use Rattle.std.specs.Prelude.{codes}
use Rattle.std.specs.Option.{option_map}
use Rattle.bus_links.specs.Bindings.Interrupts.{number_in, number_at}
use Rattle.bus_links.proofs.bindings.nexus.bytes_taken.Goals as goal

pub returns : goal.returns
returns c =
    let nodes = c.args.nodes.now in
    let place = c.args.place in
    let is : number_in nodes place (codes "#interrupt-cells") ≡ Some c.in-Some.specifier = sym c.number.ensures ∙ c.in-Some.is in
    ap (λ (n : ℕ). Some (4 * (n + c.in-Some.specifier))) c.number_or-address.ensures
    ∙ sym (ap (option_map (λ (cells : ℕ). 4 * (number_at nodes place (codes "#address-cells") 0 + cells))) is)
