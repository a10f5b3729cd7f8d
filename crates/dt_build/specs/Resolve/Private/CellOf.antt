-- Values that ask for a number (Devicetree Specification v0.4, section 2.3.3; where it is silent, dtc 1.6.1, tried by hand).
use Rattle.std.specs.Prelude.{Bool, false, List, [], ◌∷◌}
use Rattle.dt_source.specs.TreeMeaning.Paths.{Path, same_path}
use Rattle.dt_source.specs.TreeMeaning.References.{Found, Cell}

-- one reference in cells to the node at a path
abbrev pub is_cell_of : Path → List Found → Bool
is_cell_of p (Cell q ∷ []) = same_path p q
is_cell_of p v = false
