-- What the first cell of the endpoint's value leads to, if it has one.
use Rattle.std.proofs.Common.{◌≡◌, ◌∙◌, ap, sym, subst, ℕ, List, take, Option, Some, None}
use Rattle.std.specs.Prelude.{codes, OnOk}
use Rattle.std.specs.Option.{option_map_or}
use Rattle.dt_tree.specs.Cell.{cell_in}
use Rattle.bus_links.specs.Bindings.Endpoints.{found_other_end, found_end}
use Rattle.bus_links.specs.Bindings.Interrupts.{bytes_at}
use Rattle.bus_links.specs.Bindings.Mentions.{FoundData, nothing, and_then}
use Rattle.bus_links.proofs.BindingsLemmas.FoundLemmas.{and_then-nothing}
use Rattle.bus_links.proofs.bindings.mentions.Found.add_end.Goals as goal

pub returns-in-None : goal.returns-in-None
returns-in-None c =
    let nodes = c.args.nodes.now in
    let self = c.args.self.now in
    let cell : cell_in (take 4 (bytes_at nodes c.args.place (codes "remote-endpoint"))) ≡ None =
    ap (λ (b : List ℕ). cell_in (take 4 b)) (sym c.bytes.ensures) ∙ ap cell_in (sym c.before-2.ensures) ∙ sym c.cell_in.ensures ∙ c.in-None.is in
    sym (ap (λ (o : Option ℕ). and_then self (option_map_or (found_other_end nodes) o nothing)) cell ∙ and_then-nothing self)

pub returns-in-Some : goal.returns-in-Some
returns-in-Some c =
    let nodes = c.args.nodes.now in
    let self = c.args.self.now in
    let cell : cell_in (take 4 (bytes_at nodes c.args.place (codes "remote-endpoint"))) ≡ Some c.in-Some.phandle =
    ap (λ (b : List ℕ). cell_in (take 4 b)) (sym c.bytes.ensures) ∙ ap cell_in (sym c.before-2.ensures) ∙ sym c.cell_in.ensures ∙ c.in-Some.is in
    let same : and_then self (found_other_end nodes c.in-Some.phandle) ≡ and_then self (found_end nodes c.args.place) =
    sym (ap (λ (o : Option ℕ). and_then self (option_map_or (found_other_end nodes) o nothing)) cell) in
    subst (λ (f : FoundData). OnOk c.add_other_end.result (c.add_other_end.new.self ≡ f)) same c.add_other_end.ensures
