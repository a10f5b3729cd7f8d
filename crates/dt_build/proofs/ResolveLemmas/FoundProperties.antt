-- What is found in the values of properties, by their targets.
use Rattle.std.proofs.Common.{◌≡◌, ℕ, Bool, List, [], ◌∷◌, map, drop, Option, Result, Ok, refl, sym, ap, ap₂, ◌∙◌}
use Rattle.std.specs.Option.{option_map}
use Rattle.std.specs.List.{flat_map}
use Rattle.dt_tree.specs.Steps.{each}
use Rattle.dt_source.specs.TreeMeaning.Paths.{Path}
use Rattle.dt_source.specs.TreeMeaning.Syntax.{Piece}
use Rattle.dt_source.specs.TreeMeaning.Edits.{Definition, definition, State}
use Rattle.dt_source.specs.TreeMeaning.Statements.{Fault}
use Rattle.dt_source.specs.TreeMeaning.References.{Found, found_in, found_value}
use Rattle.dt_live.specs.declared.live_tree.NodeRow.{NodeRow}
use Rattle.dt_live.specs.Rows.{path_of}
use Rattle.dt_live.specs.declared.preorder.properties.NodeProperty.{NodeProperty}
use Rattle.dt_build.specs.Edit.Said.{Parts, pieces}
use Rattle.dt_build.specs.Resolve.Founds.{all_uses, founds_of, found_property, found_properties}
use Rattle.dt_build.specs.Resolve.Private.ReadProperty.{read_property}
use Rattle.dt_build.specs.Resolve.Targets.{target_path}
use Rattle.dt_build.proofs.ResolveLemmas.ValueFounds.{each-split, value-is, value-found}

abbrev pub targets_in : List (Definition (List Found)) → List (Option Path)
targets_in es = flat_map (λ e. flat_map target_path e.value) es

none-is : (r : Result (List (Definition (List Found))) Fault) (es : List (Definition (List Found))) → r ≡ Ok [] → r ≡ Ok es → es ≡ []
none-is r es none h = cc

module _ (plugin : Bool) (s : State (List Piece)) (nodes : List NodeRow) where
  property-is : (x : NodeProperty Parts) (e : Definition (List Found)) (ts : List (Option ℕ)) → e.path ≡ path_of nodes x.node → e.name ≡ x.name.now → founds_of (path_of nodes) x.value.now.parts.items ts ≡ e.value → e ≡ found_property (path_of nodes) x ts
  property-is x e ts a b c =
      ap₂ (λ p n. definition p n e.value) a b ∙ ap (λ v. definition (path_of nodes x.node) x.name.now v) (sym c)

  pub properties-found : (xs : List (NodeProperty Parts)) (es : List (Definition (List Found))) → each (found_value plugin s) (map (read_property nodes) xs) ≡ Ok es
      → (ts : List (Option ℕ)) → map (option_map (path_of nodes)) ts ≡ targets_in es → es ≡ found_properties (path_of nodes) xs ts
  properties-found [] es h ts at = none-is (each (found_value plugin s) []) es refl h
  properties-found (x ∷ xs) es h ts at =
      let split = each-split (found_value plugin s (read_property nodes x)) (each (found_value plugin s) (map (read_property nodes) xs)) es h in
      let is = value-is (each (found_in plugin s) (pieces x.value)) (path_of nodes x.node) x.name.now split.0 split.2 in
      let value = value-found plugin s (path_of nodes) x.value.now.parts.items split.0.value ts (targets_in split.1) is.0 (at ∙ ap targets_in split.4) in
      split.4
      ∙ ap₂ (λ e ds. e ∷ ds) (property-is x split.0 ts is.1 is.2 value.0) (properties-found xs split.1 split.3 (drop (all_uses x.value.now.parts.items) ts) value.1)
