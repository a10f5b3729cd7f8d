-- The fragments that a plugin made so far (dt-object-internal, section 3).
use Rattle.std.specs.Prelude.{◌≡◌, ℕ, List}
use Rattle.dt_tree.specs.Private.Seen.{has_name}
use Rattle.dt_source.specs.TreeMeaning.Names.{is_fragment}
use Rattle.dt_build.specs.declared.edit.made.Made.{Made}

-- the set has exactly the names of the fragments that are counted
abbrev pub IsExact : Made → Type 0
IsExact m = (name : List ℕ) → has_name m.names name ≡ is_fragment m.count name
