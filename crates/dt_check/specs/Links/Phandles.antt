-- Phandles (Devicetree Specification v0.4, section 2.3.3): one cell, other than 0 and all ones, in `phandle`, in old trees in
-- `linux,phandle`; no two nodes have the same.
use Rattle.std.specs.Prelude.{ℕ, ◌==◌, codes, if◌then◌else◌, List, length, Option, Some, None, option_and_then}
use Rattle.std.specs.Option.{option_map_or}
use Rattle.dt_tree.specs.Cell.{cell_in}
use Rattle.dt_tree.specs.PathMap.{value_of}
use Rattle.dt_tree.specs.Phandle.{or_else}
use Rattle.dt_check.specs.declared.message.Message.TheVariants.{PhandleLength, PhandleValue, PhandlesDiffer, PhandleTwice}
use Rattle.dt_check.specs.Fault.{FaultData, of_node, of_property}
use Rattle.dt_check.specs.Nodes.{PlacedData, HereData, place_with}
use Rattle.dt_check.specs.Links.Lists.{is_no_phandle}

abbrev pub number_fault : List ℕ → List ℕ → Option FaultData
number_fault name v =
    option_map_or (λ n. if is_no_phandle n then Some (of_property name (PhandleValue n)) else None)
    (cell_in v) (Some (of_property name (PhandleLength (length v))))

abbrev pub phandle_fault : List ℕ → HereData → Option FaultData
phandle_fault name here = option_and_then (number_fault name) (value_of here.node.properties name)

-- the phandle under this name
abbrev pub valid : ℕ → Option ℕ
valid n = if is_no_phandle n then None else Some n

abbrev pub given : List ℕ → HereData → Option ℕ
given name here = option_and_then (λ v. option_and_then valid (cell_in v)) (value_of here.node.properties name)

abbrev pub different_fault : HereData → Option FaultData
different_fault here =
    option_and_then
    (λ n. option_and_then (λ m. if n == m then None else Some (of_node PhandlesDiffer)) (given (codes "linux,phandle") here))
    (given (codes "phandle") here)

abbrev pub own_phandle : HereData → Option ℕ
own_phandle here = or_else (given (codes "phandle") here) (given (codes "linux,phandle") here)

-- the first node with it is another
abbrev pub twice_fault : List PlacedData → HereData → ℕ → Option FaultData
twice_fault nodes here place =
    option_and_then
    (λ h. option_and_then (λ n. if n == place then None else Some (of_node (PhandleTwice h n))) (place_with nodes h))
    (own_phandle here)
