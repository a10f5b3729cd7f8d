-- `#address-cells` and `#size-cells` (Devicetree Specification v0.4, section 2.3.5): a node whose children have addresses should say
-- both and not rely on the defaults; a node below the root without `ranges` whose children have no `reg` needs neither.
use Rattle.std.specs.Prelude.{ℕ, Bool, not, ◌&&◌, ◌||◌, ◌==◌, codes, if◌then◌else◌, List, length, Option, Some, None, is_none, option_and_then}
use Rattle.std.specs.List.{list_any}
use Rattle.dt_tree.specs.NodeData.{NodeData, nodes_of}
use Rattle.dt_check.specs.declared.message.Message.{Message}
use Rattle.dt_check.specs.declared.message.Message.TheVariants.{Unnecessary}
use Rattle.dt_check.specs.Cells.{has}
use Rattle.dt_check.specs.Fault.{FaultData, of_node}
use Rattle.dt_check.specs.Nodes.{HereData}

abbrev pub is_addressed : NodeData → Bool
is_addressed b = has b.properties (codes "reg") || has b.properties (codes "ranges")

-- the node above doesn't say the number of this name
abbrev pub default_fault : List ℕ → Message → HereData → Option FaultData
default_fault name message here =
    option_and_then
    (λ above. if not (is_addressed here.node) || has above.properties name then None else Some (of_node message))
    here.above

abbrev pub has_reg : NodeData → Bool
has_reg b = has b.properties (codes "reg")

abbrev pub is_unnecessary : NodeData → Bool
is_unnecessary b =
    has b.properties (codes "#address-cells") && has b.properties (codes "#size-cells") && not (has b.properties (codes "ranges"))
    && not (length (nodes_of b.children) == 0) && not (list_any has_reg (nodes_of b.children))

abbrev pub unnecessary_fault : HereData → Option FaultData
unnecessary_fault here = if is_none here.above || not (is_unnecessary here.node) then None else Some (of_node Unnecessary)
