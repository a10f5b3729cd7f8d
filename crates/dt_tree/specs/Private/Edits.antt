-- The changes of one node, and of the node at a path. `Changes` says the same of the path map; `proofs/ChangeLaws.antt` joins the two.
use Rattle.std.specs.Prelude.{◌≡◌, ℕ, ◌+◌, ◌-◌, Bool, true, false, ◌⊎◌, List, [], ◌∷◌, Option, Some, None, if◌then◌else◌, ◌==◌}
use Rattle.std.specs.List.{slice_split}
use Rattle.std.specs.Option.{option_map, option_map_or}
use Rattle.std.specs.Str.{bytes_eq}
use denote.Ref.{Bor}
use Rattle.dt_tree.specs.declared.error.TreeError.{TreeError}
use Rattle.dt_tree.specs.declared.error.TreeError.TheVariants.{NoMemory, DuplicateNode, TooDeep, NoSuchPath}
use Rattle.dt_tree.specs.declared.property.Property.{Property}
use Rattle.dt_tree.specs.declared.node.changing.Edit.{Edit}
use Rattle.dt_tree.specs.declared.node.changing.Edit.TheVariants.{SetProperty, RemoveProperty, AddChild, RemoveChild}
use Rattle.dt_tree.specs.NodeData.{Siblings, none, more, NodeData, node_data, child_names, property_names}
use Rattle.dt_tree.specs.Path.{is_slash}
use Rattle.dt_tree.specs.PathMap.{child_named}
use Rattle.dt_tree.specs.Sound.{is_among}

-- the names between slashes, none of them where there is no text
abbrev pub names_in : Option (Bor (List ℕ)) → List (List ℕ)
names_in None = []
names_in (Some text) = slice_split is_slash text.now

-- the place of the first such name
abbrev pub place_of : List (List ℕ) → List ℕ → Option ℕ
place_of [] k = None
place_of (n ∷ ns) k = if bytes_eq n k then Some 0 else option_map (λ i. i + 1) (place_of ns k)

abbrev pub put_property : Property → List Property → List Property
put_property q [] = q ∷ []
put_property q (p ∷ ps) = if bytes_eq p.name q.name then record { name = p.name; value = q.value } ∷ ps else p ∷ put_property q ps

abbrev pub drop_property : List ℕ → List Property → List Property
drop_property k [] = []
drop_property k (p ∷ ps) = if bytes_eq p.name k then ps else p ∷ drop_property k ps

abbrev pub push_child : List ℕ → Siblings → Siblings
push_child k none = more k [] none none
push_child k (more n p c rest) = more n p c (push_child k rest)

abbrev pub drop_child : List ℕ → Siblings → Siblings
drop_child k none = none
drop_child k (more n p c rest) = if bytes_eq n k then rest else more n p c (drop_child k rest)

-- the child of this name changed
abbrev pub change_child : List ℕ → (NodeData → NodeData) → Siblings → Siblings
change_child k f none = none
change_child k f (more n p c rest) =
    if bytes_eq n k then (let b = f (node_data n p c) in more b.name b.properties b.children rest) else more n p c (change_child k f rest)

-- the node at the path changed
abbrev pub change_at : List (List ℕ) → (NodeData → NodeData) → NodeData → NodeData
change_at [] f b = f b
change_at (k ∷ ks) f b = node_data b.name b.properties (change_child k (change_at ks f) b.children)

-- what an edit makes of a node
abbrev pub edited : Edit → NodeData → NodeData
edited (SetProperty q) b = node_data b.name (put_property q b.properties) b.children
edited (RemoveProperty k) b = node_data b.name (drop_property k.now b.properties) b.children
edited (AddChild a k) b = node_data b.name b.properties (push_child k b.children)
edited (RemoveChild k) b = node_data b.name b.properties (drop_child k.now b.children)

-- whether what it names was there
abbrev pub was_there : Edit → NodeData → Bool
was_there (SetProperty q) b = is_among q.name (property_names b.properties)
was_there (RemoveProperty k) b = is_among k.now (property_names b.properties)
was_there (AddChild a k) b = is_among k (child_names b.children)
was_there (RemoveChild k) b = is_among k.now (child_names b.children)

-- why it is refused, at a node that may have so many levels below it
abbrev pub edit_fault : Edit → ℕ → NodeData → Option TreeError
edit_fault (SetProperty q) room b = None
edit_fault (RemoveProperty k) room b = None
edit_fault (AddChild a k) room b = if is_among k (child_names b.children) then Some DuplicateNode else (if room == 0 then Some TooDeep else None)
edit_fault (RemoveChild k) room b = None

-- whether it may need memory
abbrev pub grows : Edit → Bool
grows (SetProperty q) = true
grows (RemoveProperty k) = false
grows (AddChild a k) = true
grows (RemoveChild k) = false

-- the same at the node at a path
abbrev pub there_at : List (List ℕ) → Edit → NodeData → Bool
there_at [] e b = was_there e b
there_at (k ∷ ks) e b = option_map_or (there_at ks e) (child_named b.children k) false

abbrev pub fault_at : List (List ℕ) → Edit → ℕ → NodeData → Option TreeError
fault_at [] e room b = edit_fault e room b
fault_at (k ∷ ks) e room b = option_map_or (fault_at ks e (room - 1)) (child_named b.children k) (Some NoSuchPath)

-- an error for this fault
abbrev pub IsWhy : Edit → Option TreeError → TreeError → Type 0
IsWhy edit fault e = (fault ≡ Some e) ⊎ ((fault ≡ None) × (grows edit ≡ true) × (e ≡ NoMemory))
