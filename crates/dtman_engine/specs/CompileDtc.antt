-- What `compile_dtc` answers: the blob of the tree that the source in a text in dtc's language means, with the files that its
-- `/incbin/` name, or why there is none (Devicetree Specification v0.4, chapters 5 and 6; where it is silent, dtc 1.6.1).
use Rattle.std.specs.Prelude.{◌≡◌, ◌⊎◌, ℕ, List, Option, Some, None, Result, Ok, Err, IsErrAnd, MatchResult}
use Rattle.dt_text.specs.declared.lexeme.language.Language.TheVariants.{Dtc}
use Rattle.dt_text.specs.declared.lexeme.lexeme.Refusal.{Refusal}
use Rattle.dt_source.specs.Places.{place_at}
use Rattle.dt_tree.specs.Steps.{then_do}
use Rattle.dt_text.specs.declared.lexeme.binary.Binary.{Binary}
use Rattle.dt_source.specs.declared.error.SourceErrorKind.TheVariants.{Syntax}
use Rattle.dt_source.specs.Filled.{filled}
use Rattle.dt_source.specs.Parse.{Refuses, Says}
use Rattle.dt_source.specs.TreeMeaning.Syntax.{Meaning}
use Rattle.dt_source.specs.TreeMeaning.BootProcessor.{dtc_boot_processor}
use Rattle.dt_source.specs.TreeMeaning.DtcResolved.{dtc_resolved}
use Rattle.dt_source.specs.TreeMeaning.MapOf.{tree_map_of}
use Rattle.dt_source.specs.TreeMeaning.Statements.{Fault}
use Rattle.dt_build.specs.BuiltByDtc.{booting}
use Rattle.dtman_engine.specs.declared.compiling_dtc.Compiled.{Compiled}
use Rattle.dtman_engine.specs.declared.compiling_dtc.DtcOptions.{DtcOptions}
use Rattle.dtman_engine.specs.declared.fault.Fault.{Fault as Refused}
use Rattle.dtman_engine.specs.Fault.{FaultValue, fault_value, no_memory}
use Rattle.dtman_engine.specs.Limits.{IsShort}
use Rattle.dtman_engine.specs.Meant as meant
use Rattle.dtman_engine.specs.SourceFaults.{source_fault}

-- the processor on which the system boots: the one that is named, or else the source's own
abbrev pub processor_of : Option ℕ → Meaning → Result ℕ Fault
processor_of (Some n) m = Ok n
processor_of None m = dtc_boot_processor m

-- what a source means: its resolved tree, with that processor
abbrev pub dtc_meant : DtcOptions → Meaning → meant.Meant
dtc_meant options m =
    then_do (dtc_resolved options.symbols m) (λ lists.
    then_do (processor_of options.boot_processor m) (λ n. Ok (booting n (tree_map_of m lists))))

-- ---- files
-- the text says this once its files are filled in
pub record SaysWith (text : List ℕ) (files : List Binary) (m : Meaning) : Type 0 where
  pub said : Meaning
  pub says : Says Dtc text said
  pub fills : filled files said ≡ Ok m

-- 10 at the `/incbin/` whose file isn't there
abbrev pub lacking : List ℕ → Refusal → FaultValue
lacking text refusal = source_fault Syntax (place_at text refusal.place)

-- a file isn't there that the text names
pub record LacksFile (text : List ℕ) (files : List Binary) (fault : FaultValue) : Type 0 where
  pub said : Meaning
  pub short : IsShort text
  pub says : Says Dtc text said
  pub refusal : Refusal
  pub lacks : filled files said ≡ Err refusal
  pub told : fault ≡ lacking text refusal

-- ---- answers
-- the answer to what is meant: its blob, or why there is none
abbrev pub BuildsDtc : meant.Meant → Result Compiled Refused → Type 0
BuildsDtc means given = MatchResult given (λ made. meant.IsBlobOf means made.blob.items) (λ fault. meant.CannotBuild means (fault_value fault))

-- the answer to what a text says with its files: its blob, or why there is none; or the file that isn't there, unless memory is wanted
abbrev pub AnswersFilled : DtcOptions → List ℕ → Result Meaning Refusal → Result Compiled Refused → Type 0
AnswersFilled options text (Ok m) given = BuildsDtc (dtc_meant options m) given
AnswersFilled options text (Err refusal) given =
    IsErrAnd given (λ fault. (fault_value fault ≡ no_memory) ⊎ (fault_value fault ≡ lacking text refusal))

-- the text says something with these files, and this is its blob
abbrev pub IsDtcCompiled : DtcOptions → List ℕ → List Binary → List ℕ → Type 0
IsDtcCompiled options text files blob = meant.IsBlobOfText (SaysWith text files) (dtc_meant options) text blob

-- the text says nothing, a file isn't there that it names, or what it says makes no blob
abbrev pub IsDtcRefusal : DtcOptions → List ℕ → List Binary → FaultValue → Type 0
IsDtcRefusal options text files fault =
    meant.SaysNone (Refuses Dtc text) fault ⊎ LacksFile text files fault ⊎ meant.SaysInVain (SaysWith text files) (dtc_meant options) text fault
