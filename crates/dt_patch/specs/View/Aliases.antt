-- Nodes by their aliases: Devicetree Specification v0.4, section 3.3.
use Rattle.std.specs.Prelude.{◌≡◌, List, [], ◌∷◌, ℕ, Bool, true, false, Option, Some, None, Result, Ok, Err, codes, option_and_then}
use Rattle.dt_tree.specs.NodeData.{NodeData}
use Rattle.dt_tree.specs.Path.{is_path, path_names}
use Rattle.dt_tree.specs.PathMap.{node_at, value_of}
use Rattle.dt_patch.specs.declared.view.error.ViewError.{ViewError}
use Rattle.dt_patch.specs.declared.view.error.ViewError.TheVariants.{BadPath}
use Rattle.dt_patch.specs.declared.view.nodes.NodeOffset.{NodeOffset}
use Rattle.dt_patch.specs.declared.view.view.View.{View}
use Rattle.dt_patch.specs.View.Cells.{text_in}
use Rattle.dt_patch.specs.View.Places.{TellsPlace}

-- the text that `/aliases` has under a name
abbrev pub alias_in : NodeData → List ℕ → Option (List ℕ)
alias_in root name = option_and_then (λ d. option_and_then text_in (value_of d.properties name)) (node_at root (codes "aliases" ∷ []))

abbrev pub TellsPath : View → NodeData → List ℕ → Bool → Result (Option NodeOffset) ViewError → Type 0
TellsPath view root path true answer = TellsPlace view answer (node_at root (path_names path))
TellsPath view root path false answer = answer ≡ Err BadPath

-- the place of the node at the path that an alias stands for, or that it is no path; none where there is no such alias
abbrev pub TellsAlias : View → NodeData → Option (List ℕ) → Result (Option NodeOffset) ViewError → Type 0
TellsAlias view root None answer = answer ≡ Ok None
TellsAlias view root (Some path) answer = TellsPath view root path (is_path path) answer
