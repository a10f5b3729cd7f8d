-- The clauses of `compile_dtc`, over files and an answer as a caller sees them.
use Rattle.std.specs.Prelude.{◌≡◌, ◌⊎◌, ℕ, List, map, if◌then◌else◌, Some, None, Result, Ok, Err, IfOk, IfErr, IsErrAnd, MatchResult}
use Rattle.dt_text.specs.declared.lexeme.binary.Binary.{Binary}
use Rattle.dt_text.specs.declared.lexeme.language.Language.TheVariants.{Dtc}
use Rattle.dt_text.specs.declared.lexeme.lexeme.Refusal.{Refusal}
use Rattle.dt_source.specs.Filled.{filled}
use Rattle.dt_source.specs.Parse.{Says}
use Rattle.dt_source.specs.TreeMeaning.Syntax.{Meaning}
use Rattle.dtman_engine.specs.CompileDtc.{IsDtcCompiled, IsDtcRefusal, dtc_meant, lacking}
use Rattle.dtman_engine.specs.Fault as engine
use Rattle.dtman_engine.specs.Fault.{FaultValue, fault_value, no_memory}
use Rattle.dtman_engine.specs.Limits.{IsShort}
use Rattle.dtman_engine.specs.Meant as meant
use Rattle.dtman_engine.specs.declared.compiling_dtc.DtcOptions.{DtcOptions}
use Rattle.dtman_c.specs.declared.dtc.DtcChoice.{DtcChoice}
use Rattle.dtman_c.specs.declared.dtc.IncludedFile.{IncludedFile}

abbrev pub options_of : DtcChoice → DtcOptions
options_of choice =
    record { symbols = choice.symbols; boot_processor = if choice.names_processor then Some choice.boot_processor else None }

-- where a file's word stands, and the file
abbrev pub place_of : Binary → ℕ × List ℕ
place_of binary = (binary.at, binary.bytes.items)

abbrev pub given_place : IncludedFile → ℕ × List ℕ
given_place file = (file.at, file.bytes.now)

-- these are the files, each at its place
abbrev pub AreFiles : List IncludedFile → List Binary → Type 0
AreFiles files binaries =
    map place_of binaries ≡ map given_place files

-- an engine's answer as a caller sees it: bytes or a fault
abbrev pub shown : engine.Answer → Result (List ℕ) FaultValue
shown (Ok bytes) = Ok bytes.items
shown (Err fault) = Err (fault_value fault)

-- the answer to what a source says with its files; or the file that isn't there is told, unless memory is wanted
abbrev pub AnswersFilled : DtcOptions → List ℕ → Result Meaning Refusal → Result (List ℕ) FaultValue → Type 0
AnswersFilled options source (Ok m) result =
    MatchResult result (λ blob. meant.IsBlobOf (dtc_meant options m) blob) (λ fault. meant.CannotBuild (dtc_meant options m) fault)
AnswersFilled options source (Err refusal) result = IsErrAnd result (λ fault. (fault ≡ no_memory) ⊎ (fault ≡ lacking source refusal))

-- what `compile_dtc` may answer
pub record IsDtcAnswer (options : DtcOptions) (source : List ℕ) (files : List IncludedFile) (result : Result (List ℕ) FaultValue) : Type 0 where
  pub binaries : List Binary
  pub are_files : AreFiles files binaries
  pub answer : IfOk result (λ blob. IsDtcCompiled options source binaries blob)
  pub said : (m : Meaning) → IsShort source → Says Dtc source m → AnswersFilled options source (filled binaries m) result
  pub refused : IfErr result (λ fault. IsDtcRefusal options source binaries fault)
