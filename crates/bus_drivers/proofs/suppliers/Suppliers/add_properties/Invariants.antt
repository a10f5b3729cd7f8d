use Rattle.std.proofs.Common.{◌≡◌, drop}
use Rattle.bus_drivers.specs.Nodes.{target_of}
use Rattle.bus_drivers.specs.References.{all_references}
use Rattle.bus_drivers.specs.Private.Suppliers.{adding}
use Rattle.bus_drivers.proofs.suppliers.Suppliers.add_properties.Given as goal

-- what the properties that are left add makes what all properties add
abbrev pub invariant-loop-place : goal.invariant-loop-place
invariant-loop-place l =
    adding l.self (all_references (target_of l.phandle_index) (drop l.place l.properties))
    ≡ adding l.fn.self (all_references (target_of l.phandle_index) l.properties)
