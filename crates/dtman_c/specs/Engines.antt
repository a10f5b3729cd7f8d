-- The engines' clauses, over what they answer as a caller sees it: bytes or a fault.
use Rattle.std.specs.Prelude.{◌≡◌, ◌↔◌, ◌⊎◌, ℕ, Bool, List, Result, Ok, Err, Some, IfOk, IfErr, IsErrAnd, MatchResult}
use Rattle.dt_text.specs.declared.lexeme.language.Language.TheVariants.{Profile}
use Rattle.dt_tree.specs.TreeData.{TreeData}
use Rattle.dt_source.specs.Parse.{Says}
use Rattle.dt_source.specs.TreeMeaning.Syntax.{Meaning}
use Rattle.dt_blob.specs.declared.error.BlobError.{BlobError}
use Rattle.dt_blob.specs.declared.error.BlobError.TheVariants.{Truncated, BadMagic, BadVersion, BadLayout, TooLarge}
use Rattle.dt_blob.specs.HeaderWords.{header_fault}
use Rattle.dt_blob.specs.Holds.{Holds}
use Rattle.dt_blob.specs.SourceText.{text_of}
use Rattle.dtman_engine.specs.Compile as compile
use Rattle.dtman_engine.specs.Dump as dump
use Rattle.dtman_engine.specs.Fault.{FaultValue, no_memory}
use Rattle.dtman_engine.specs.BlobFaults.{blob_fault}
use Rattle.dtman_engine.specs.Limits.{IsShort}
use Rattle.dtman_engine.specs.Overlay as overlay
use Rattle.dtman_engine.specs.Plan as plan
use Rattle.dtman_engine.specs.Replay as replay

-- what `compile_bytes` may answer
pub record IsCompileAnswer (symbols : Bool) (source : List ℕ) (result : Result (List ℕ) FaultValue) : Type 0 where
  pub answer : IfOk result (λ blob. compile.IsCompiled symbols source blob)
  pub said :
      (m : Meaning)
      → IsShort source
      → Says Profile source m
      → MatchResult result (λ blob. compile.IsBlobOf symbols m blob) (λ fault. compile.CannotBuild symbols m fault)
  pub refused : IfErr result (λ fault. compile.IsCompileRefusal symbols source fault)

-- what `overlay_bytes` may answer
pub record IsOverlayAnswer (base over : List ℕ) (result : Result (List ℕ) FaultValue) : Type 0 where
  pub answer : IfOk result (λ blob. overlay.IsOverlaid base over blob)
  pub held :
      (b o : TreeData)
      → Holds base b
      → Holds over o
      → MatchResult result (λ blob. overlay.IsBlobOfApplied b o blob) (λ fault. overlay.CannotApply b o fault)
  pub refused : IfErr result (λ fault. overlay.IsOverlayRefusal base over fault)
  pub header : (e : BlobError) → header_fault base ≡ Some e → IsErrAnd result (λ fault. fault ≡ blob_fault e)
  pub overlay_header : (e : BlobError) → overlay.IsBadOver base over e → IsErrAnd result (λ fault. overlay.TellsOver e fault)

-- what `dump_bytes` may answer
pub record IsDumpAnswer (blob : List ℕ) (result : Result (List ℕ) FaultValue) : Type 0 where
  pub answer : IfOk result (λ text. dump.IsDump blob text)
  pub held : (tree : TreeData) → Holds blob tree → MatchResult result (λ text. text ≡ text_of tree) (λ fault. dump.CannotPrint tree fault)
  pub refused : IfErr result (λ fault. dump.IsRefusal blob fault)
  pub truncated : IsErrAnd result (λ fault. fault ≡ blob_fault Truncated) ↔ (header_fault blob ≡ Some Truncated)
  pub bad_magic : IsErrAnd result (λ fault. fault ≡ blob_fault BadMagic) ↔ (header_fault blob ≡ Some BadMagic)
  pub bad_version : IsErrAnd result (λ fault. fault ≡ blob_fault BadVersion) ↔ (header_fault blob ≡ Some BadVersion)
  pub bad_layout : header_fault blob ≡ Some BadLayout → IsErrAnd result (λ fault. fault ≡ blob_fault BadLayout)
  pub too_large : header_fault blob ≡ Some TooLarge → IsErrAnd result (λ fault. fault ≡ blob_fault TooLarge)
  pub too_long : IfErr result (λ fault. fault ≡ blob_fault TooLarge → dump.TooLong blob)

-- what `plan_bytes` may answer
pub record IsPlanAnswer (blob drivers : List ℕ) (result : Result (List ℕ) FaultValue) : Type 0 where
  pub answer : IfOk result (λ text. plan.IsPlanText blob drivers text)
  pub held :
      (tree : TreeData)
      → Holds blob tree
      → MatchResult result (λ text. plan.printed (plan.planning tree drivers) ≡ Ok text) (λ fault. plan.CannotPlan tree drivers fault)
  pub refused : IfErr result (λ fault. plan.IsPlanRefusal blob drivers fault)
  pub header : (e : BlobError) → header_fault blob ≡ Some e → IsErrAnd result (λ fault. fault ≡ blob_fault e)

-- what `replay_bytes` may answer
pub record IsReplayAnswer (plan_file schedule : List ℕ) (result : Result (List ℕ) FaultValue) : Type 0 where
  pub answer :
      MatchResult
      result
      (λ report. replay.replay_answer plan_file schedule ≡ Ok report)
      (λ fault. (fault ≡ no_memory) ⊎ (replay.replay_answer plan_file schedule ≡ Err fault))
  pub history : IfOk result (λ report. replay.ReportsHistory plan_file schedule report)
