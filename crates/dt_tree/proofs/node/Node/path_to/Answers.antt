use Rattle.std.proofs.Common.{◌≡◌, Some, List, ℕ, ap, ◌∙◌}
use Rattle.std.specs.Option.{option_map}
use Rattle.dt_tree.specs.Path.{behind_slashes, path_names}
use Rattle.dt_tree.specs.Private.PhandleWalk.{path_in_tree}
use Rattle.dt_tree.proofs.Places.{inside}
use Rattle.dt_tree.proofs.ReservedLaws.{text_of_tree_path}
use Rattle.dt_tree.proofs.node.Node.path_to.Goals as goal

pub from_text-requires : goal.from_text-requires
from_text-requires c =
    let is : Some c.in-Some.text.items ≡ option_map behind_slashes (path_in_tree c.args.self.now c.args.phandle) = rw c.in-Some.is at c.in_ok-path_in_tree.ensures in
    (text_of_tree_path c.args.self.now (inside c.args.self.now c.check.ensures) c.args.phandle c.in-Some.text.items is).lawful

pub returns-in_ok-from_text-in-Some : goal.returns-in_ok-from_text-in-Some
returns-in_ok-from_text-in-Some c =
    let is : Some c.in-Some.text.items ≡ option_map behind_slashes (path_in_tree c.args.self.now c.args.phandle) = rw c.in-Some.is at c.in_ok-path_in_tree.ensures in
    ap (λ (t : List ℕ). Some (path_names t)) c.in_ok-from_text-in-Some.ensures ∙ (text_of_tree_path c.args.self.now (inside c.args.self.now c.check.ensures) c.args.phandle c.in-Some.text.items is).names
