-- Nodes by names that may lack their unit address, and paths that may begin with an alias: Devicetree Specification v0.4, sections
-- 2.2.1, 2.2.3 and 3.3. Of nodes that such a name may mean, the first is taken.
use Rattle.std.specs.Prelude.{◌≡◌, ℕ, ◌==◌, Bool, true, false, if◌then◌else◌, List, [], ◌∷◌, take, drop, length, position, Option, Some, None, Result, Ok, Err, option_and_then}
use Rattle.std.specs.List.{list_any, slice_split}
use Rattle.std.specs.Option.{option_map_or}
use Rattle.std.specs.Str.{bytes_eq}
use Rattle.dt_tree.specs.NodeData.{NodeData, Siblings, none, more}
use Rattle.dt_tree.specs.Path.{is_slash}
use Rattle.dt_patch.specs.declared.view.error.ViewError.{ViewError}
use Rattle.dt_patch.specs.declared.view.error.ViewError.TheVariants.{BadPath}
use Rattle.dt_patch.specs.declared.view.nodes.NodeOffset.{NodeOffset}
use Rattle.dt_patch.specs.declared.view.view.View.{View}
use Rattle.dt_patch.specs.View.Aliases.{alias_in}
use Rattle.dt_patch.specs.View.Places.{TellsPlace}

abbrev pub is_at : ℕ → Bool
is_at b = b == 64

-- what stands before the unit address (section 2.2.1)
abbrev pub base_name : List ℕ → List ℕ
base_name name = option_map_or (λ at. take at name) (position is_at name) name

-- the name is the one that is asked for, or has a unit address where none is asked for
abbrev pub is_like : List ℕ → List ℕ → Bool
is_like name asked = if list_any is_at asked then bytes_eq name asked else bytes_eq (base_name name) asked

-- the first child like a name
abbrev pub child_like : Siblings → List ℕ → Option NodeData
child_like none k = None
child_like (more n p c rest) k = if is_like n k then Some (record { name = n; properties = p; children = c }) else child_like rest k

-- the node that a name leads to from another; an empty one leads nowhere else
abbrev pub down_like : NodeData → List ℕ → Option NodeData
down_like b k = if length k == 0 then Some b else child_like b.children k

-- the node at names behind one another
abbrev pub node_like : NodeData → List (List ℕ) → Option NodeData
node_like b [] = Some b
node_like b (k ∷ ks) = option_and_then (λ c. node_like c ks) (down_like b k)

-- the node at the names between slashes
abbrev pub node_like_at : NodeData → List ℕ → Option NodeData
node_like_at b path = node_like b (slice_split is_slash path)

-- the path begins at the root
abbrev pub is_absolute : List ℕ → Bool
is_absolute [] = false
is_absolute (b ∷ rest) = is_slash b

-- what stands before the first slash, and what from there on
abbrev pub alias_name : List ℕ → List ℕ
alias_name path = option_map_or (λ end. take end path) (position is_slash path) path

abbrev pub behind_alias : List ℕ → List ℕ
behind_alias path = option_map_or (λ end. drop end path) (position is_slash path) []

-- the place of the node at the names behind an alias is told, from the node at its text on
abbrev pub TellsBelow : View → NodeData → List ℕ → List ℕ → Bool → Result (Option NodeOffset) ViewError → Type 0
TellsBelow view root text names true answer = TellsPlace view answer (option_and_then (λ d. node_like_at d names) (node_like_at root text))
TellsBelow view root text names false answer = answer ≡ Err BadPath

abbrev pub TellsAliased : View → NodeData → Option (List ℕ) → List ℕ → Result (Option NodeOffset) ViewError → Type 0
TellsAliased view root None names answer = answer ≡ Err BadPath
TellsAliased view root (Some text) names answer = TellsBelow view root text names (is_absolute text) answer

-- the place of the node at a path is told, from the root or from an alias on
abbrev pub TellsLikeBy : Bool → View → NodeData → List ℕ → Result (Option NodeOffset) ViewError → Type 0
TellsLikeBy true view root path answer = TellsPlace view answer (node_like_at root path)
TellsLikeBy false view root path answer = TellsAliased view root (alias_in root (alias_name path)) (behind_alias path) answer

abbrev pub TellsLike : View → NodeData → List ℕ → Result (Option NodeOffset) ViewError → Type 0
TellsLike view root path answer = TellsLikeBy (is_absolute path) view root path answer
