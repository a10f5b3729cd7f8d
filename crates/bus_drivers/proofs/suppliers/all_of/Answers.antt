-- What all properties add are the suppliers.
use Rattle.std.proofs.Common.{◌∙◌, ap, sym, ℕ, List}
use Rattle.bus_drivers.specs.Nodes.{target_of}
use Rattle.bus_drivers.specs.References.{all_references}
use Rattle.bus_drivers.specs.Private.Suppliers.{adding}
use Rattle.bus_drivers.proofs.SuppliersLemmas.{suppliers-all}
use Rattle.bus_drivers.proofs.suppliers.all_of.Goals as goal

pub returns : goal.returns
returns c =
    let mentioned = all_references (target_of c.args.phandle_index.now) c.args.properties.now in
    let own = c.args.suppliers.now.own in
    suppliers-all own mentioned _ _ (ap (λ (found : List ℕ). adding (record { own = own; found = found }) mentioned) (sym c.requires) ∙ c.in_ok-add_properties.ensures) c.in_ok-devices.ensures
