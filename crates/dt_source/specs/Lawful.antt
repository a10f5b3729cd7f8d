-- What a source names is lawful: names and paths are those of trees, and labels are labels
-- (Devicetree Specification v0.4, sections 2.2.1, 2.2.3, 2.2.4 and 6.2). Each value has as few parts as can be.
use Rattle.std.specs.Prelude.{ℕ, Bool, true, false, not, ◌&&◌, List, [], ◌∷◌, All, IsTrue}
use Rattle.dt_tree.specs.Name.{is_name}
use Rattle.dt_tree.specs.Path.{is_path}
use Rattle.dt_text.specs.Lexeme.Label.{IsLabel}
use Rattle.dt_source.specs.TreeMeaning.Syntax.{Target, OfLabel, OfPath, Piece, Plain, PhandleOf, PathOf, Stored, Entry, Defines, Undefines, Child, Removes, Body, Done, Then, Edit, Rooted, Extends, Deletes, Omits, Meaning}

abbrev pub IsLawfulTarget : Target → Type 0
IsLawfulTarget (OfLabel label) = IsLabel label
IsLawfulTarget (OfPath path) = IsTrue (is_path path)

abbrev pub IsLawfulPiece : Piece → Type 0
IsLawfulPiece (Plain bytes) = Unit {0}
IsLawfulPiece (PhandleOf target) = IsLawfulTarget target
IsLawfulPiece (PathOf target) = IsLawfulTarget target
IsLawfulPiece (Stored at offset length) = Unit {0}

abbrev pub has_bytes : List ℕ → Bool
has_bytes [] = false
has_bytes (b ∷ bs) = true

abbrev pub begins_plain : List Piece → Bool
begins_plain (Plain bytes ∷ ps) = true
begins_plain _ = false

-- no part is empty, and no bytes stand next to bytes
abbrev pub are_joined : List Piece → Bool
are_joined [] = true
are_joined (Plain bytes ∷ ps) = has_bytes bytes && not (begins_plain ps) && are_joined ps
are_joined (p ∷ ps) = are_joined ps

abbrev mutual
  pub IsLawfulEntry : Entry (List Piece) → Type 0
  IsLawfulEntry (Defines name value) = IsTrue (is_name name) × All IsLawfulPiece value × IsTrue (are_joined value)
  IsLawfulEntry (Undefines name) = IsTrue (is_name name)
  IsLawfulEntry (Child omitted labels name body) = All IsLabel labels × IsTrue (is_name name) × IsLawfulBody body
  IsLawfulEntry (Removes name) = IsTrue (is_name name)

  pub IsLawfulBody : Body (List Piece) → Type 0
  IsLawfulBody Done = Unit {0}
  IsLawfulBody (Then first others) = IsLawfulEntry first × IsLawfulBody others

abbrev pub IsLawfulEdit : Edit → Type 0
IsLawfulEdit (Rooted body) = IsLawfulBody body
IsLawfulEdit (Extends labels target body) = All IsLabel labels × IsLawfulTarget target × IsLawfulBody body
IsLawfulEdit (Deletes target) = IsLawfulTarget target
IsLawfulEdit (Omits target) = IsLawfulTarget target

-- All that the source names is lawful.
pub record IsLawful (m : Meaning) : Type 0 where
  pub items : All IsLawfulEdit m.items
