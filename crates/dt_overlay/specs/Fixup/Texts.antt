-- Texts in the values of an overlay and its base (dt-object-internal, section 2).
use Rattle.std.specs.Prelude.{◌≡◌, ℕ, List, Option, None, Some, MatchOption}
use denote.Ref.{Bor}
use Rattle.dt_tree.specs.Path.{path_names}
use Rattle.dt_source.specs.TreeMeaning.Paths.{Path}

-- the text of a path, none where there is no path
abbrev pub IsPathText : Option Path → Option (Bor (List ℕ)) → Type 0
IsPathText meant found = MatchOption found (meant ≡ None) (λ path. meant ≡ Some (path_names path.now))
