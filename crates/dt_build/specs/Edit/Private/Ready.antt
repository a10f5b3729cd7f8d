-- The fragments that the extensions which are left may make (dt-object-internal, section 3).
use Rattle.std.specs.Prelude.{◌≡◌, ◌++◌, ℕ, List, length, map, drop}
use Rattle.std.specs.List.{flat_map}
use Rattle.dt_source.specs.Tree.{part_view}
use Rattle.dt_source.specs.TreeMeaning.Syntax.{Edit, Piece}
use Rattle.dt_build.specs.declared.edit.fragments.Fragments.{Fragments}
use Rattle.dt_build.specs.Edit.Fragments.{first_names, target_values}

-- the values of the targets, read
abbrev pub values_of : Fragments → List (List Piece)
values_of f = map (λ v. map part_view v.parts.items) f.targets.items

-- as many names as targets, each the next
abbrev pub IsNamed : Fragments → Type 0
IsNamed f = map (λ v. v.items) f.names.items ≡ first_names (length f.targets.items)

-- these values go last
abbrev pub AddsValues : List (List Piece) → Fragments → Fragments → Type 0
AddsValues values old new = values_of new ≡ values_of old ++ values

-- a name for each extension, and behind those that were met a value for each that is left
pub record IsReady (f : Fragments) (met : ℕ) (left : List Edit) : Type 0 where
  pub names : IsNamed f
  pub targets : drop met (values_of f) ≡ flat_map target_values left
