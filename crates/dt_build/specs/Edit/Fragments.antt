-- What fragments hold that stands nowhere in a plugin's text: their names, and what they extend (dt-object-internal, section 3).
use Rattle.std.specs.Prelude.{◌≡◌, ℕ, zero, suc, List, [], ◌∷◌, ◌++◌, length, map}
use Rattle.std.specs.List.{flat_map}
use Rattle.dt_source.specs.Tree.{part_view}
use Rattle.dt_source.specs.TreeMeaning.Names.{fragment_name}
use Rattle.dt_source.specs.TreeMeaning.Syntax.{Piece, Edit, Rooted, Extends, Deletes, Omits}
use Rattle.dt_source.specs.TreeMeaning.Statements.{target_value}
use Rattle.dt_build.specs.declared.edit.fragments.Fragments.{Fragments}

-- the value for the target of an extension
abbrev pub target_values : Edit → List (List Piece)
target_values (Rooted b) = []
target_values (Deletes t) = []
target_values (Omits t) = []
target_values (Extends ls t b) = target_value t ∷ []

-- the first names of fragments
abbrev pub first_names : ℕ → List (List ℕ)
first_names zero = []
first_names (suc n) = first_names n ++ fragment_name n ∷ []

-- a name and a value for each extension, as each may make a fragment
pub record AreFragments (is : List Edit) (f : Fragments) : Type 0 where
  pub names : map (λ v. v.items) f.names.items ≡ first_names (length (flat_map target_values is))
  pub targets : map (λ v. map part_view v.parts.items) f.targets.items ≡ flat_map target_values is
