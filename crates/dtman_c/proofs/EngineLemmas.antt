-- What an engine's clauses say of its result, they say of the bytes or the fault that it shows.
use Rattle.std.proofs.Common.{◌≡◌, ◌↔◌, ◌⊎◌, inr, ap, ℕ, Bool, List, Result, Ok, Err, Some, IfOk, IfErr, IsErrAnd, MatchResult}
use Rattle.dt_text.specs.declared.lexeme.binary.Binary.{Binary}
use Rattle.dt_text.specs.declared.lexeme.language.Language.TheVariants.{Dtc, Profile}
use Rattle.dt_text.specs.declared.lexeme.lexeme.Refusal.{Refusal}
use Rattle.dt_tree.specs.TreeData.{TreeData}
use Rattle.dt_source.specs.Filled.{filled}
use Rattle.dt_source.specs.Parse.{Says}
use Rattle.dt_source.specs.TreeMeaning.Syntax.{Meaning}
use Rattle.dt_blob.specs.declared.error.BlobError.{BlobError}
use Rattle.dt_blob.specs.declared.error.BlobError.TheVariants.{Truncated, BadMagic, BadVersion, BadLayout, TooLarge}
use Rattle.dt_blob.specs.HeaderWords.{header_fault}
use Rattle.dt_blob.specs.Holds.{Holds}
use Rattle.dt_blob.specs.SourceText.{text_of}
use Rattle.dtman_engine.specs.declared.fault.Fault.{Fault}
use Rattle.dtman_engine.specs.Compile as compile
use Rattle.dtman_engine.specs.CompileDtc as engine_dtc
use Rattle.dtman_engine.specs.declared.compiling_dtc.Compiled.{Compiled}
use Rattle.dtman_engine.specs.declared.compiling_dtc.DtcOptions.{DtcOptions}
use Rattle.dtman_engine.specs.Fault as engine
use Rattle.dtman_engine.specs.Dump as dump
use Rattle.dtman_engine.specs.Fault.{Tells, FaultValue, fault_value, no_memory}
use Rattle.dtman_engine.specs.BlobFaults.{blob_fault}
use Rattle.dtman_engine.specs.Limits.{IsShort}
use Rattle.dtman_engine.specs.Overlay as overlay
use Rattle.dtman_engine.specs.Plan as plan
use Rattle.dtman_engine.specs.Replay as replay
use Rattle.dtman_c.specs.declared.answer.Answer.{Answer}
use Rattle.dtman_c.specs.declared.dtc.IncludedFile.{IncludedFile}
use Rattle.dtman_c.specs.Dtc as dtc
use Rattle.dtman_c.specs.Crossing.{Crosses, IsGiven, OrNoMemory}
use Rattle.dtman_c.specs.Engines.{IsCompileAnswer, IsDumpAnswer, IsOverlayAnswer, IsPlanAnswer, IsReplayAnswer}

-- the bytes or the fault
abbrev pub shown : {V : Type 0} → (V → List ℕ) → Result V Fault → Result (List ℕ) FaultValue
shown items (Ok v) = Ok (items v)
shown items (Err fault) = Err (fault_value fault)

-- what crosses of a result, crosses of what it shows
abbrev pub AreCrossed : {V : Type 0} → (V → List ℕ) → Result V Fault → List ℕ → List ℕ → Answer → Type 0
AreCrossed items r before after told =
    MatchResult r (λ v. Crosses (Ok (items v)) before after told) (λ fault. Crosses (Err (fault_value fault)) before after told)

pub crossed : {V : Type 0} (items : V → List ℕ) (r : Result V Fault) (before after : List ℕ) (told : Answer)
    → AreCrossed items r before after told → Crosses (shown items r) before after told
crossed items (Ok v) before after told h = h
crossed items (Err fault) before after told h = h

-- a result that may be is given
pub handed : {V : Type 0} (items : V → List ℕ) (r : Result V Fault) (MayBe : Result (List ℕ) FaultValue → Type 0) (before after : List ℕ) (told : Answer)
    → MayBe (shown items r) → AreCrossed items r before after told → IsGiven MayBe before after told
handed items r MayBe before after told may h = record { given = shown items r; may_be = may; crosses = crossed items r before after told h }

-- so is want of memory before the engine begins
pub wanting : (fault : Fault) (MayBe : Result (List ℕ) FaultValue → Type 0) (before after : List ℕ) (told : Answer)
    → fault_value fault ≡ no_memory → Crosses (Err (fault_value fault)) before after told → IsGiven (OrNoMemory MayBe) before after told
wanting fault MayBe before after told is h = record { given = Err (fault_value fault); may_be = inr (ap Err is); crosses = h }

-- ---- the engines
pub compiled : {V : Type 0} (items : V → List ℕ) (r : Result V Fault) (symbols : Bool) (source : List ℕ)
    → IfOk r (λ blob. compile.IsCompiled symbols source (items blob))
    → ((m : Meaning) → IsShort source → Says Profile source m → MatchResult r (λ blob. compile.IsBlobOf symbols m (items blob)) (λ fault. compile.CannotBuild symbols m (fault_value fault)))
    → IfErr r (λ fault. compile.IsCompileRefusal symbols source (fault_value fault))
    → IsCompileAnswer symbols source (shown items r)
compiled items (Ok v) symbols source a s r = record { answer = a; said = s; refused = r }
compiled items (Err fault) symbols source a s r = record { answer = a; said = s; refused = r }

pub overlaid : {V : Type 0} (items : V → List ℕ) (r : Result V Fault) (base over : List ℕ)
    → IfOk r (λ blob. overlay.IsOverlaid base over (items blob))
    → ((b o : TreeData) → Holds base b → Holds over o → MatchResult r (λ blob. overlay.IsBlobOfApplied b o (items blob)) (λ fault. overlay.CannotApply b o (fault_value fault)))
    → IfErr r (λ fault. overlay.IsOverlayRefusal base over (fault_value fault))
    → ((e : BlobError) → header_fault base ≡ Some e → Tells r (blob_fault e))
    → ((e : BlobError) → overlay.IsBadOver base over e → IsErrAnd r (λ fault. overlay.TellsOver e (fault_value fault)))
    → IsOverlayAnswer base over (shown items r)
overlaid items (Ok v) base over a h r hd oh = record { answer = a; held = h; refused = r; header = hd; overlay_header = oh }
overlaid items (Err fault) base over a h r hd oh = record { answer = a; held = h; refused = r; header = hd; overlay_header = oh }

pub dumped : {V : Type 0} (items : V → List ℕ) (r : Result V Fault) (blob : List ℕ)
    → IfOk r (λ text. dump.IsDump blob (items text))
    → ((tree : TreeData) → Holds blob tree → MatchResult r (λ text. items text ≡ text_of tree) (λ fault. dump.CannotPrint tree (fault_value fault)))
    → IfErr r (λ fault. dump.IsRefusal blob (fault_value fault))
    → (Tells r (blob_fault Truncated) ↔ (header_fault blob ≡ Some Truncated))
    → (Tells r (blob_fault BadMagic) ↔ (header_fault blob ≡ Some BadMagic))
    → (Tells r (blob_fault BadVersion) ↔ (header_fault blob ≡ Some BadVersion))
    → (header_fault blob ≡ Some BadLayout → Tells r (blob_fault BadLayout))
    → (header_fault blob ≡ Some TooLarge → Tells r (blob_fault TooLarge))
    → IfErr r (λ fault. fault_value fault ≡ blob_fault TooLarge → dump.TooLong blob)
    → IsDumpAnswer blob (shown items r)
dumped items (Ok v) blob a h r cut magic version layout large long =
    record { answer = a; held = h; refused = r; truncated = cut; bad_magic = magic; bad_version = version; bad_layout = layout; too_large = large; too_long = long }
dumped items (Err fault) blob a h r cut magic version layout large long =
    record { answer = a; held = h; refused = r; truncated = cut; bad_magic = magic; bad_version = version; bad_layout = layout; too_large = large; too_long = long }

pub planned : {V : Type 0} (items : V → List ℕ) (r : Result V Fault) (blob drivers : List ℕ)
    → IfOk r (λ text. plan.IsPlanText blob drivers (items text))
    → ((tree : TreeData) → Holds blob tree → MatchResult r (λ text. plan.printed (plan.planning tree drivers) ≡ Ok (items text)) (λ fault. plan.CannotPlan tree drivers (fault_value fault)))
    → IfErr r (λ fault. plan.IsPlanRefusal blob drivers (fault_value fault))
    → ((e : BlobError) → header_fault blob ≡ Some e → Tells r (blob_fault e))
    → IsPlanAnswer blob drivers (shown items r)
planned items (Ok v) blob drivers a h r hd = record { answer = a; held = h; refused = r; header = hd }
planned items (Err fault) blob drivers a h r hd = record { answer = a; held = h; refused = r; header = hd }

pub replayed : {V : Type 0} (items : V → List ℕ) (r : Result V Fault) (plan_file schedule : List ℕ)
    → MatchResult r (λ report. replay.replay_answer plan_file schedule ≡ Ok (items report)) (λ fault. (fault_value fault ≡ no_memory) ⊎ (replay.replay_answer plan_file schedule ≡ Err (fault_value fault)))
    → IfOk r (λ report. replay.ReportsHistory plan_file schedule (items report))
    → IsReplayAnswer plan_file schedule (shown items r)
replayed items (Ok v) plan_file schedule a h = record { answer = a; history = h }
replayed items (Err fault) plan_file schedule a h = record { answer = a; history = h }

-- ---- dtc's language
-- the blob of what was compiled
abbrev pub blob_in : Result Compiled Fault → engine.Answer
blob_in (Ok made) = Ok made.blob
blob_in (Err fault) = Err fault

pub answered_dtc : (options : DtcOptions) (source : List ℕ) (what : Result Meaning Refusal) (r : Result Compiled Fault)
    → engine_dtc.AnswersFilled options source what r → dtc.AnswersFilled options source what (dtc.shown (blob_in r))
answered_dtc options source (Ok m) (Ok v) h = h
answered_dtc options source (Ok m) (Err fault) h = h
answered_dtc options source (Err refusal) (Ok v) h = h
answered_dtc options source (Err refusal) (Err fault) h = h

pub compiled_dtc : (options : DtcOptions) (source : List ℕ) (files : List IncludedFile) (binaries : List Binary) (r : Result Compiled Fault)
    → dtc.AreFiles files binaries
    → IfOk r (λ made. engine_dtc.IsDtcCompiled options source binaries made.blob.items)
    → ((m : Meaning) → IsShort source → Says Dtc source m → engine_dtc.AnswersFilled options source (filled binaries m) r)
    → IfErr r (λ fault. engine_dtc.IsDtcRefusal options source binaries (fault_value fault))
    → dtc.IsDtcAnswer options source files (dtc.shown (blob_in r))
compiled_dtc options source files binaries (Ok v) are a s r =
    record { binaries = binaries; are_files = are; answer = a; said = λ m short says. answered_dtc options source (filled binaries m) (Ok v) (s m short says); refused = r }
compiled_dtc options source files binaries (Err fault) are a s r =
    record { binaries = binaries; are_files = are; answer = a; said = λ m short says. answered_dtc options source (filled binaries m) (Err fault) (s m short says); refused = r }

pub handed_dtc : (r : engine.Answer) (MayBe : Result (List ℕ) FaultValue → Type 0) (before after : List ℕ) (told : Answer)
    → MayBe (dtc.shown r) → AreCrossed (λ bytes. bytes.items) r before after told → IsGiven MayBe before after told
handed_dtc (Ok v) MayBe before after told may h = record { given = Ok v.items; may_be = may; crosses = h }
handed_dtc (Err fault) MayBe before after told may h = record { given = Err (fault_value fault); may_be = may; crosses = h }
