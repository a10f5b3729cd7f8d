-- `/chosen` (Devicetree Specification v0.4, section 3.6): one node below the root, with `bootargs` and `stdout-path`, both strings.
-- Parents of interrupts say both numbers of cells (section 2.4.3.1). Lists of names are lists of strings, and lines of GPIO controllers
-- are listed by names that end in `gpios` (bindings gpio/gpio.txt of Linux).
use Rattle.std.specs.Prelude.{ℕ, ◌-◌, Bool, not, ◌&&◌, ◌||◌, ◌==◌, nat_le, codes, if◌then◌else◌, List, drop, length, Option, Some, None, is_some, option_and_then}
use Rattle.std.specs.Str.{bytes_eq}
use Rattle.dt_tree.specs.declared.property.Property.{Property}
use Rattle.dt_tree.specs.NodeData.{NodeData}
use Rattle.dt_tree.specs.PathMap.{child_named}
use Rattle.dt_check.specs.declared.message.Message.{Message}
use Rattle.dt_check.specs.declared.message.Message.TheVariants.{ObsoleteController, ChosenPlace, OldStdout, DeprecatedGpio}
use Rattle.dt_check.specs.Buses.{is_provider}
use Rattle.dt_check.specs.Cells.{has}
use Rattle.dt_check.specs.Fault.{FaultData, of_node, of_property}
use Rattle.dt_check.specs.Nodes.{HereData}
use Rattle.dt_check.specs.Texts.{string_fault, not_string_list}

abbrev pub is_named : List ℕ → NodeData → Bool
is_named name b = bytes_eq b.name name

-- told of the root
abbrev pub controller_fault : HereData → Option FaultData
controller_fault here =
    if is_some here.above then None
    else option_and_then
    (λ chosen. if has chosen.properties (codes "interrupt-controller")
    then Some (of_property (codes "interrupt-controller") ObsoleteController) else None)
    (child_named here.node.children (codes "chosen"))

-- the root alone has no name
abbrev pub place_fault : HereData → Option FaultData
place_fault here =
    option_and_then
    (λ above. if not (is_named (codes "chosen") here.node) || length above.name == 0 then None else Some (of_node ChosenPlace))
    here.above

abbrev pub bootargs_fault : HereData → Option FaultData
bootargs_fault here = if not (is_named (codes "chosen") here.node) then None else string_fault (codes "bootargs") here

abbrev pub old_stdout_fault : HereData → Option FaultData
old_stdout_fault here =
    if not (is_named (codes "chosen") here.node) || has here.node.properties (codes "stdout-path") then None
    else (if not (has here.node.properties (codes "linux,stdout-path")) then None
    else Some (of_property (codes "linux,stdout-path") OldStdout))

abbrev pub stdout_name : NodeData → List ℕ
stdout_name b = if has b.properties (codes "stdout-path") then codes "stdout-path" else codes "linux,stdout-path"

abbrev pub stdout_fault : HereData → Option FaultData
stdout_fault here =
    if not (is_named (codes "chosen") here.node) then None else string_fault (stdout_name here.node) here

-- a parent of interrupts that doesn't say the number of this name
abbrev pub is_parent_without : List ℕ → Message → HereData → Option FaultData
is_parent_without name message here =
    if not (is_provider here.node) || has here.node.properties name then None else Some (of_node message)

abbrev pub ends_with : List ℕ → List ℕ → Bool
ends_with end name = nat_le (length end) (length name) && bytes_eq (drop (length name - length end) name) end

abbrev pub is_gpio : List ℕ → Bool
is_gpio name =
    not (ends_with (codes ",nr-gpios") name)
    && (ends_with (codes "-gpios") name || bytes_eq name (codes "gpios")
    || ends_with (codes "-gpio") name || bytes_eq name (codes "gpio"))

abbrev pub gpio_fault : Property → Option FaultData
gpio_fault p = if is_gpio p.name && ends_with (codes "gpio") p.name then Some (of_property p.name DeprecatedGpio) else None

abbrev pub names_fault : Property → Option FaultData
names_fault p = if not (ends_with (codes "-names") p.name) then None else not_string_list p.name p.value
