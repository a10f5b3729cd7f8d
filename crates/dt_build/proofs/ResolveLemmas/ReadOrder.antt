-- Reading the values of a tree keeps the order of its properties.
use Rattle.std.proofs.Common.{◌≡◌, List, [], ◌∷◌, ◌++◌, map, refl, sym, ap, ap₂, ◌∙◌}
use Rattle.std.specs.List.{flat_map}
use Rattle.std.proofs.lemmas.List.{map-append}
use Rattle.dt_source.specs.TreeMeaning.Paths.{Path, same_path}
use Rattle.dt_source.specs.TreeMeaning.Edits.{Definition}
use Rattle.dt_source.specs.TreeMeaning.References.{held, preorder, in_order}
use Rattle.dt_live.specs.declared.live_tree.LiveTree.{LiveTree}
use Rattle.dt_live.specs.Rows.{state_of}
use Rattle.dt_live.specs.declared.preorder.properties.NodeProperty.{NodeProperty}
use Rattle.dt_live.specs.Preorder.{definition_of}
use Rattle.dt_build.specs.Edit.Said.{Parts, read_definition, tree_of}
use Rattle.dt_build.proofs.EditLemmas.Reading.{filter-read}
use Rattle.dt_build.specs.Resolve.Private.ReadProperty.{read_property}

held-read : (es : List (Definition Parts)) (ps : List Path) → map read_definition (flat_map (held es) ps) ≡ flat_map (held (map read_definition es)) ps
held-read es [] = refl
held-read es (p ∷ ps) =
    map-append read_definition (held es p) (flat_map (held es) ps)
    ∙ ap₂ (λ a b. a ++ b) (sym (filter-read read_definition (λ e. same_path p e.path) es)) (held-read es ps)

read-each : (d : LiveTree Parts) (xs : List (NodeProperty Parts)) → map (read_property d.nodes.items) xs ≡ map read_definition (map (definition_of d) xs)
read-each d [] = refl
read-each d (x ∷ xs) = ap (λ es. read_property d.nodes.items x ∷ es) (read-each d xs)

-- the preorder is the order of the tree as it is read
pub read-order : (d : LiveTree Parts) (xs : List (NodeProperty Parts)) → map (definition_of d) xs ≡ in_order (state_of d) → map (read_property d.nodes.items) xs ≡ in_order (tree_of d)
read-order d xs e = read-each d xs ∙ ap (map read_definition) e ∙ held-read (state_of d).properties (preorder (state_of d).nodes)
