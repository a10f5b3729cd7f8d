-- What is made of a draft, where its values are short enough.
use Rattle.std.specs.Prelude.{◌≡◌, ◌<◌, ◌≤◌, ◌-◌, ◌^◌, ℕ, Bool, false, List, Option, None, Some, Result, MatchResult}
use Rattle.std.specs.List.{list_any}
use Rattle.dt_tree.specs.PathMap.{tree_map}
use Rattle.dt_tree.specs.TreeData.{TreeData}
use Rattle.dt_source.specs.TreeMeaning.Syntax.{Meaning}
use Rattle.dt_source.specs.TreeMeaning.Edits.{Definition}
use Rattle.dt_source.specs.TreeMeaning.References.{Found}
use Rattle.dt_source.specs.TreeMeaning.MapOf.{tree_map_of}
use Rattle.dt_source.specs.TreeMeaning.Resolved.{is_too_deep, shallow}
use Rattle.dt_live.specs.Builder.Sizes.{size_in}
use Rattle.dt_build.specs.declared.draft.Draft.{Draft}
use Rattle.dt_build.specs.declared.resolve.error.BuildError.{BuildError}
use Rattle.dt_build.specs.declared.resolve.prepared.Prepared.{Prepared}
use Rattle.dt_build.specs.Resolve.BuildFault.{IsFault}
use Rattle.dt_build.specs.Resolve.Prepared.{IsPrepared}
use Rattle.dt_build.specs.BuiltByDtc.{booting}
use Rattle.dt_build.specs.Private.Drafts.{IsDraftOf}
use Rattle.dt_build.specs.Private.Made.{lists}

-- the tree, which is no longer than a limit that numbers can pass
pub record IsFittingTree (symbols : Bool) (m : Meaning) (p : Draft) (limit : ℕ) (t : TreeData) : Type 0 where
  pub map : tree_map t ≡ booting p.processor (tree_map_of m (lists symbols p))
  pub fits : limit < 2 ^ 64 - 1 → size_in (lists symbols p).properties ≤ limit

-- or none, as its values are longer than such a limit
abbrev pub IsFitting : Bool → Meaning → Draft → ℕ → Option TreeData → Type 0
IsFitting symbols m p limit (Some t) = IsFittingTree symbols m p limit t
IsFitting symbols m p limit None = (limit < size_in (lists symbols p).properties) × (limit < 2 ^ 64 - 1)

-- a draft makes this, or it is too deep
abbrev pub MakesTree : Bool → Meaning → Draft → ℕ → Result (Option TreeData) BuildError → Type 0
MakesTree symbols m p limit result = MatchResult result
    (λ tree. (list_any is_too_deep (lists symbols p).nodes ≡ false) × IsFitting symbols m p limit tree)
    (λ e. IsFault e.kind (shallow (lists symbols p)))

-- the source was prepared, whatever its values are
abbrev pub IsPreparedFrom : Bool → Meaning → Draft → Type 0
IsPreparedFrom symbols m p = (es : List (Definition (List Found))) × (from : Prepared) × IsPrepared symbols m es from × IsDraftOf from p
