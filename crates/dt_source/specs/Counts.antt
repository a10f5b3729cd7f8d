-- How much a source has.
use Rattle.std.specs.Prelude.{ℕ, ◌+◌, List, [], ◌∷◌, length}
use Rattle.dt_source.specs.TreeMeaning.Syntax.{Piece, Entry, Defines, Undefines, Child, Removes, Body, Done, Then, Edit, Rooted, Extends, Deletes, Omits}

-- the statements and labels of a statement with all in it, and of a body
abbrev mutual
  pub entry_count : Entry (List Piece) → ℕ
  entry_count (Defines name value) = 1
  entry_count (Undefines name) = 1
  entry_count (Child omitted labels name body) = length labels + 1 + body_count body
  entry_count (Removes name) = 1

  pub body_count : Body (List Piece) → ℕ
  body_count Done = 0
  body_count (Then first others) = entry_count first + body_count others

abbrev pub edit_count : Edit → ℕ
edit_count (Rooted body) = 1 + body_count body
edit_count (Extends labels target body) = length labels + 1 + body_count body
edit_count (Deletes target) = 1
edit_count (Omits target) = 1

-- the items, statements and labels of a source
abbrev pub how_many : List Edit → ℕ
how_many [] = 0
how_many (e ∷ es) = edit_count e + how_many es
