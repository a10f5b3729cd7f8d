-- What making a tree needs to know of a draft.
use Rattle.std.specs.Prelude.{◌≡◌, ℕ, true, map, All}
use Rattle.std.specs.Int.{to_be_bytes, w32}
use Rattle.std.specs.List.{list_all, flat_map}
use Rattle.dt_tree.specs.Name.{is_name}
use Rattle.dt_tree.specs.Sound.{are_distinct}
use Rattle.dt_source.specs.TreeMeaning.Paths.{Path, is_listed}
use Rattle.dt_source.specs.TreeMeaning.Fixups.{phandle_of}
use Rattle.dt_source.specs.TreeMeaning.References.{Found, Bytes, Cell, Open, PathText, held, preorder}
use Rattle.dt_source.specs.TreeMeaning.Resolved.{when}
use Rattle.dt_live.specs.Rows.{IsLiveTree, IsNode, is_standing, node_path}
use Rattle.dt_live.specs.Builder.Standing.{AreNodes}
use Rattle.dt_build.specs.Edit.Said.{tree_of}
use Rattle.dt_build.specs.declared.draft.Draft.{Draft}
use Rattle.dt_build.specs.Resolve.NodePhandles.{AreStanding}
use Rattle.dt_build.specs.Resolve.Gathered.{targets_anew}
use Rattle.dt_build.specs.Resolve.Targets.{IsKnown, IsToldApart}
use Rattle.dt_build.specs.Private.FirstPhandle.{IsByPath, number_of}
use Rattle.dt_build.specs.Private.Made.{added_phandles, fixed, founds, own}

-- the label of a node elsewhere is a name
abbrev pub IsNamedFound : Found → Type 0
IsNamedFound (Open l) = is_name l ≡ true
IsNamedFound (Bytes b) = Unit {0}
IsNamedFound (Cell q) = Unit {0}
IsNamedFound (PathText q) = Unit {0}

-- each name of a node's path is a name, and so are those of properties and labels
pub record AreNamed (p : Draft) : Type 0 where
  pub nodes : All (λ q. list_all is_name q ≡ true) (tree_of p.live).nodes
  pub properties : All (λ x. is_name x.name.now ≡ true) p.in_preorder.properties.items
  pub labels : All (λ l. is_name l.label ≡ true) (tree_of p.live).labels
  pub elsewhere : All (λ e. All IsNamedFound e.value) (when p.plugin (fixed p))

pub record IsReady (p : Draft) : Type 0 where
  pub sound : IsLiveTree p.live
  pub nodes : map (node_path p.live) p.in_preorder.nodes.items ≡ preorder (tree_of p.live).nodes
  pub known : All (λ n. IsNode p.live n) p.in_preorder.nodes.items
  pub there : All (λ n. is_standing p.live n ≡ true) p.in_preorder.nodes.items
  pub owners : All (λ x. IsNode p.live x.node) p.in_preorder.properties.items
  pub stand : All (λ x. is_standing p.live x.node ≡ true) p.in_preorder.properties.items
  pub targets_known : All (IsKnown p.live) p.targets.items
  pub told_apart : p.asks ≡ true → All (λ x. All (IsToldApart p.live x.node) (targets_anew p.targets.items p.anew)) p.in_preorder.properties.items
  pub anew_known : All (IsKnown p.live) (targets_anew p.targets.items p.anew)
  pub given_known : All (λ x. IsNode p.live x.node) p.given.items
  pub new_known : All (λ x. IsNode p.live x.node) p.new.items
  pub numbered : All (IsByPath p) p.targets.items
  pub added : AreStanding p.live.nodes.items p.added.items
  pub added_numbers : (k : ℕ) → is_standing p.live k ≡ true → is_listed (node_path p.live k) (map (λ x. x.path) (added_phandles p)) ≡ true
      → to_be_bytes w32 (number_of p k) ≡ to_be_bytes w32 (phandle_of (added_phandles p) (node_path p.live k))
  pub standing : AreNodes (tree_of p.live).nodes
  pub named : AreNamed p
  pub apart : (q : Path) → are_distinct (map (λ e. e.name) (own p q)) ≡ true
  pub labels_apart : are_distinct (map (λ l. l.label) (tree_of p.live).labels) ≡ true
  pub walked : flat_map (held (founds p)) (preorder (tree_of p.live).nodes) ≡ founds p
  pub fixed_walked : flat_map (held (fixed p)) (preorder (tree_of p.live).nodes) ≡ fixed p
