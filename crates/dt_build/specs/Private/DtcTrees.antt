-- What is gathered of a source in dtc's language, in a tree that can be held (Devicetree Specification v0.4, section 6.3).
use Rattle.std.specs.Prelude.{◌≡◌, ℕ, Bool, true, Ok}
use Rattle.dt_source.specs.TreeMeaning.Syntax.{Meaning}
use Rattle.dt_source.specs.TreeMeaning.Edits.{has_node}
use Rattle.dt_source.specs.TreeMeaning.BootProcessor.{boot_processor}
use Rattle.dt_source.specs.TreeMeaning.DtcEdits.{DtcTree}
use Rattle.dt_source.specs.TreeMeaning.DtcResolved as meaning
use Rattle.dt_source.specs.TreeMeaning.DtcStatements.{dtc_edited}
use Rattle.dt_live.proofs.Each.{Each}
use Rattle.dt_build.specs.declared.edit.standing.Standing.{Standing}
use Rattle.dt_build.specs.Edit.Standing.{IsStandingOf}
use Rattle.dt_live.specs.Builder.Standing.{AreNodes}
use Rattle.dt_build.specs.declared.resolve.gathered.Gathered.{Gathered}
use Rattle.dt_build.specs.Resolve.Gathered.{IsGathered, all_gathered}
use Rattle.dt_build.specs.Private.Named.{IsName, IsNamed, IsNamedValue}

-- The edits made a tree that boots on this processor, and this is gathered of it. What is left has lawful names, no name and no label
-- twice, and each label is at one of its nodes.
pub record IsGatheredOf (symbols : Bool) (m : Meaning) (processor : ℕ) (x : Gathered) : Type 0 where
  pub tree : DtcTree
  pub edited : dtc_edited m ≡ Ok tree
  pub boots : processor ≡ boot_processor tree
  pub meant : meaning.Gathered
  pub all : all_gathered symbols m.plugin tree ≡ Ok meant
  pub is : IsGathered m.plugin tree meant x
  pub named : IsNamed IsName (IsNamedValue IsName) meant.rest
  pub nodes : AreNodes meant.rest.nodes
  pub at_nodes : Each (λ l. has_node l.path meant.rest ≡ true) meant.rest.labels

-- this stands when the source is read
pub record IsReadAs (m : Meaning) (s : Standing) : Type 0 where
  pub tree : DtcTree
  pub edited : dtc_edited m ≡ Ok tree
  pub stands : IsStandingOf s tree
