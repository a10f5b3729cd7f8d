use Rattle.std.proofs.Common.{◌≡◌, length}
use Rattle.bus_drivers.specs.Nodes.{target_of}
use Rattle.bus_drivers.specs.References.{cells_of, devices_in}
use Rattle.bus_drivers.specs.Private.Suppliers.{adding}
use Rattle.bus_drivers.specs.SupplierForm.{form_data}
use Rattle.bus_drivers.proofs.suppliers.Suppliers.add_value.Given as goal

-- what the cells that are left add makes what all cells add
abbrev pub invariant-loop-cell : goal.invariant-loop-cell
invariant-loop-cell l =
    adding l.self (devices_in (target_of l.phandle_index) (form_data l.form) l.left (cells_of l.rest))
    ≡ adding l.fn.self (devices_in (target_of l.phandle_index) (form_data l.form) 0 (cells_of l.value))

abbrev pub decreases-loop-cell : goal.decreases-loop-cell
decreases-loop-cell l = length l.rest
