-- What the canonical source of a tree says and means.
use Rattle.std.specs.Prelude.{◌≡◌, false, Ok}
use Rattle.dt_text.specs.declared.lexeme.language.Language.TheVariants.{Profile}
use Rattle.dt_tree.specs.PathMap.{tree_map}
use Rattle.dt_tree.specs.TreeData.{TreeData, IsTree}
use Rattle.dt_source.specs.TreeMeaning.MapOf.{tree_map_of}
use Rattle.dt_source.specs.TreeMeaning.Resolved.{Resolved, resolved}
use Rattle.dt_source.specs.TreeMeaning.Syntax.{Meaning}
use Rattle.dt_source.specs.Parse.{Says}
use Rattle.dt_blob.specs.SourceText.{text_of}
use Rattle.dt_build.specs.Built.{IsTreeOf}
use Rattle.dtman_engine.specs.Canonical.SourceOf.{source_of}

-- the source resolves, to lists whose map is the tree's
abbrev pub IsMeant : TreeData → Type 0
IsMeant t = (r : Resolved) × (resolved false (source_of t) ≡ Ok r) × (tree_map t ≡ tree_map_of (source_of t) r)

-- its text says it, and so says the tree
abbrev pub IsSaid : TreeData → Type 0
IsSaid t = Says Profile (text_of t) (source_of t) × IsTreeOf false (source_of t) t

-- whatever its text says, no other tree is said
abbrev pub SaysNoOther : TreeData → Type 0
SaysNoOther t = (m : Meaning) → Says Profile (text_of t) m → (u : TreeData) → IsTree u → IsTreeOf false m u → u ≡ t
