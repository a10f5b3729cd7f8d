-- What a change of a property in place makes of a blob: the tree *with property* (`Changes`), all else as it was.
use Rattle.std.specs.Prelude.{ℕ, ◌+◌, ◌-◌, ◌*◌, ◌/◌, ◌==◌, nat_lt, Bool, true, false, List, Option, Some, None, length, if◌then◌else◌, option_and_then}
use Rattle.std.specs.Option.{option_map_or}
use Rattle.dt_tree.specs.Name.{is_name}
use Rattle.dt_tree.specs.NodeData.{NodeData}
use Rattle.dt_tree.specs.Path.{is_path, path_names}
use Rattle.dt_tree.specs.PathMap.{node_at, value_of}
use Rattle.dt_tree.specs.TreeData.{TreeData}
use Rattle.dt_blob.specs.HeaderWords.{header_of, strings_of}
use Rattle.dt_blob.specs.Holds.{Holds}
use Rattle.dt_blob.specs.Strings.{with_name}
use Rattle.dt_blob.specs.Query.Set.{IsWithProperty}
use Rattle.dt_patch.specs.View.Reserved.{reserved_size}
use Rattle.dt_patch.specs.declared.error.PatchError.{PatchError}
use Rattle.dt_patch.specs.declared.error.PatchError.TheVariants.{BadName, BadPath, NoNode, NoProperty, OtherLength, Short, Unordered}
use Rattle.dt_patch.specs.Order.{is_ordered}

-- the bytes hold the tree with the property
pub record HoldsWith (bytes : List ℕ) (tree : TreeData) (path : List (List ℕ)) (name value : List ℕ) : Type 0 where
  pub changed : TreeData
  pub with_it : IsWithProperty tree path name value changed
  pub held : Holds bytes changed

-- why no node has a path
abbrev pub missing : Option NodeData → Option PatchError
missing None = Some NoNode
missing (Some node) = None

abbrev pub path_fault : NodeData → List ℕ → Option PatchError
path_fault root path = if is_path path then missing (node_at root (path_names path)) else Some BadPath

-- why a node's value isn't set to one of this length: there is none, or its length is another
abbrev pub length_fault : Option (List ℕ) → ℕ → Option PatchError
length_fault None n = Some NoProperty
length_fault (Some old) n = if length old == n then None else Some OtherLength

abbrev pub node_fault : Option NodeData → List ℕ → ℕ → Option PatchError
node_fault None name n = Some NoNode
node_fault (Some node) name n = length_fault (value_of node.properties name) n

abbrev pub value_fault : NodeData → List ℕ → List ℕ → ℕ → Option PatchError
value_fault root path name n = if is_path path then node_fault (node_at root (path_names path)) name n else Some BadPath

abbrev pub or_unordered : Option PatchError → Bool → Option PatchError
or_unordered (Some e) ordered = Some e
or_unordered None true = None
or_unordered None false = Some Unordered

-- why the value at a path isn't set in place, the first of the reasons in this order
abbrev pub set_fault : List ℕ → TreeData → List ℕ → List ℕ → ℕ → Option PatchError
set_fault bytes tree path name n = or_unordered (value_fault tree.root path name n) (is_ordered bytes (reserved_size tree.reserves))

-- ---- a value of any length

-- a property has a lawful name
abbrev pub name_fault : Option NodeData → List ℕ → Option PatchError
name_fault None name = Some NoNode
name_fault (Some node) name = if is_name name then None else Some BadName

-- why no property of this name is set at a path
abbrev pub place_fault : NodeData → List ℕ → List ℕ → Option PatchError
place_fault root path name = if is_path path then name_fault (node_at root (path_names path)) name else Some BadPath

abbrev pub or_short : Option PatchError → ℕ → ℕ → Option PatchError
or_short (Some e) wanted room = Some e
or_short None wanted room = if nat_lt room wanted then Some (Short wanted) else None

-- the bytes of a property whose value has so many (section 5.4.1): three words, and the value up to a multiple of 4
abbrev pub property_size : ℕ → ℕ
property_size n = 12 + (n + 3) / 4 * 4

-- and those of the one that is there
abbrev pub old_size : Option (List ℕ) → ℕ
old_size old = option_map_or (λ value. property_size (length value)) old 0

-- how many bytes a blob has up to the end of its strings
abbrev pub used_size : List ℕ → ℕ
used_size bytes = let h = header_of bytes in h.strings_at + h.strings_size

-- and the bytes of its strings once a name is added, where it doesn't stand there
abbrev pub added_size : List ℕ → List ℕ → ℕ
added_size strings name = length (with_name strings name) - length strings

-- how many bytes are wanted for a value of this length
abbrev pub wanted_to_set : List ℕ → NodeData → List ℕ → List ℕ → ℕ → ℕ
wanted_to_set bytes root path name n =
    let old = option_and_then (λ node. value_of node.properties name) (node_at root (path_names path)) in
    used_size bytes - old_size old + property_size n + added_size (strings_of bytes) name

-- why a property isn't set to a value of this length, the first of the reasons in this order
abbrev pub change_fault : List ℕ → TreeData → List ℕ → List ℕ → ℕ → Option PatchError
change_fault bytes tree path name n =
    or_short (or_unordered (place_fault tree.root path name) (is_ordered bytes (reserved_size tree.reserves))) (wanted_to_set bytes tree.root path name n) (length bytes)
