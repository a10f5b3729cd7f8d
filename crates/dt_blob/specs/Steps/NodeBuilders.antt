-- What has been read of the structure block: the nodes that are still open, as a list of tokens is read one by one.
use Rattle.std.specs.Prelude.{ℕ, Bool, true, false, ◌&&◌, ◌==◌, nat_lt, List, [], ◌∷◌, ◌++◌, length, map, reverse, Option, Some, None, if◌then◌else◌, is_none, option_and_then}
use Rattle.dt_tree.specs.Limits.{depth_limit}
use Rattle.dt_tree.specs.declared.property.Property.{Property}
use Rattle.dt_tree.specs.NodeData.{NodeData, node_data, siblings}
use Rattle.dt_tree.specs.Name.{is_name}
use Rattle.dt_tree.specs.NodeView.{name_bytes}
use Rattle.dt_tree.specs.Fault.{fault_of}
use Rattle.dt_blob.specs.Token.{Token, begin_node, end_node, property, nop, end}
use Rattle.dt_blob.specs.declared.read_nodes.NodeBuilder.{NodeBuilder}
use Rattle.dt_blob.specs.declared.read_nodes.Progress.{Progress}
use Rattle.dt_blob.specs.declared.read_nodes.Progress.TheVariants as held

-- a node whose end has not come
pub record NodeSoFar : Type 0 where
  pub name : List ℕ
  pub properties : List Property
  pub children : List NodeData

abbrev pub node_so_far : List ℕ → List Property → List NodeData → NodeSoFar
node_so_far n ps cs = record { name = n; properties = ps; children = cs }

-- nothing yet; in a node, with those round it, the innermost first; behind the root; behind the end
pub data State : Type 0 where
  begun : State
  inside : NodeSoFar → List NodeSoFar → State
  behind : NodeData → State
  ended : NodeData → State

-- a node begins: the root, without a name, or a child, with one
abbrev pub begin_in : State → List ℕ → Option State
begin_in begun [] = Some (inside (node_so_far [] [] []) [])
begin_in begun (b ∷ bs) = None
begin_in (inside top outer) name = if is_name name && nat_lt (length outer) depth_limit then Some (inside (node_so_far name [] []) (top ∷ outer)) else None
begin_in (behind root) name = None
begin_in (ended root) name = None

-- a property, before any child
abbrev pub property_in : State → List ℕ → List ℕ → Option State
property_in begun name value = None
property_in (inside top outer) name value =
    if is_name name && length top.children == 0
    then Some (inside (node_so_far top.name (top.properties ++ record { name = name; value = value } ∷ []) top.children) outer)
    else None
property_in (behind root) name value = None
property_in (ended root) name value = None

-- a node goes into the one round it
abbrev pub behind_node : NodeData → List NodeSoFar → State
behind_node node [] = behind node
behind_node node (o ∷ os) = inside (node_so_far o.name o.properties (o.children ++ node ∷ [])) os

abbrev pub node_of : NodeSoFar → Option NodeData
node_of o = if is_none (fault_of o.properties o.children) then Some (node_data o.name o.properties (siblings o.children)) else None

abbrev pub end_in : State → Option State
end_in begun = None
end_in (inside top outer) = option_and_then (λ node. Some (behind_node node outer)) (node_of top)
end_in (behind root) = None
end_in (ended root) = None

abbrev pub close_in : State → Option State
close_in begun = None
close_in (inside top outer) = None
close_in (behind root) = Some (ended root)
close_in (ended root) = None

-- one token more, before the END; a NOP changes nothing
abbrev pub advance : State → Token → Option State
advance s (begin_node name) = begin_in s name
advance s end_node = end_in s
advance s (property name value) = property_in s name value
advance s nop = Some s
advance s end = None

abbrev pub is_end : Token → Bool
is_end (begin_node name) = false
is_end end_node = false
is_end (property name value) = false
is_end nop = false
is_end end = true

-- one token more of a list without NOP
abbrev pub step : State → Token → Option State
step s (begin_node name) = begin_in s name
step s end_node = end_in s
step s (property name value) = property_in s name value
step s nop = None
step s end = close_in s

abbrev pub run : State → List Token → Option State
run s [] = Some s
run s (t ∷ ts) = option_and_then (λ u. run u ts) (step s t)

abbrev pub root_of : State → Option NodeData
root_of begun = None
root_of (inside top outer) = None
root_of (behind root) = None
root_of (ended root) = Some root

-- the root that tokens make
unfoldable pub root_from : State → List Token → Option NodeData
root_from s ts = option_and_then root_of (run s ts)

-- ---- what the code keeps

abbrev pub so_far_of : NodeBuilder → NodeSoFar
so_far_of o = record { name = name_bytes o.name; properties = o.properties.items; children = o.children.items }

abbrev pub state_of : Progress → State
state_of held.Nothing = begun
state_of (held.Inside top outer) = inside (so_far_of top) (reverse (map so_far_of outer.items))
state_of (held.Behind root) = behind root
