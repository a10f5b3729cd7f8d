-- What `compile --dtc` answers of a source: what dtc's language makes of it with all that it takes in, or why that isn't whole
-- (dtc 1.6, Documentation/manual.txt, section 4.1, and Documentation/dts-format.txt).
use Rattle.std.specs.Prelude.{◌≡◌, ℕ, List, IfErr, IfOk, Result}
use Rattle.dt_text.specs.Include.Inclusion.{IsIncluded}
use Rattle.dt_text.specs.Include.Shortfall.{Stops}
use Rattle.dt_text.specs.declared.include.inclusion.Found.{Found}
use Rattle.dt_text.specs.declared.include.inclusion.Whole.{Whole}
use Rattle.dt_text.specs.declared.lexeme.language.Language.TheVariants.{Dtc}
use Rattle.dt_source.specs.Filled.{filled}
use Rattle.dt_source.specs.Parse.{Says}
use Rattle.dt_source.specs.TreeMeaning.Syntax.{Meaning}
use Rattle.dtman_engine.specs.CompileDtc.{AnswersFilled, IsDtcCompiled, IsDtcRefusal}
use Rattle.dtman_engine.specs.Fault.{fault_value}
use Rattle.dtman_engine.specs.declared.compiling_dtc.Compiled.{Compiled}
use Rattle.dtman_engine.specs.declared.compiling_dtc.DtcOptions.{DtcOptions}
use Rattle.dtman_engine.specs.declared.fault.Fault.{Fault}
use Rattle.dtman_host.specs.declared.outcome.Outcome.{Outcome}
use Rattle.dtman_host.specs.declared.outcome.Outcome.TheVariants.{Answered, Short}

-- Which files have a name beside a path.
abbrev pub Finding : Type 1
Finding = List ℕ → List ℕ → Found → Type 0

-- That no file has a name beside a path.
abbrev pub Lacking : Type 1
Lacking = List ℕ → List ℕ → Type 0

-- The compiler's answer of a source of a name, with all that it takes in: of the whole text and the files that it names, the blob of
-- what these say in dtc's language, or why there is none.
pub record IsAnswer (Finds : Finding) (name source : List ℕ) (options : DtcOptions) (text : List ℕ) (given : Result Compiled Fault) : Type 0 where
  pub whole : Whole
  pub included : IsIncluded Finds name source whole
  pub text_is : text ≡ whole.text.items
  pub answer : IfOk given (λ made. IsDtcCompiled options text whole.binaries.items made.blob.items)
  pub said : (m : Meaning) → Says Dtc text m → AnswersFilled options text (filled whole.binaries.items m) given
  pub refused : IfErr given (λ fault. IsDtcRefusal options text whole.binaries.items (fault_value fault))

-- the answer of the whole text, or why it isn't whole
abbrev pub IsOutcome : Finding → Lacking → List ℕ → List ℕ → DtcOptions → Outcome → Type 0
IsOutcome Finds Lacks name source options (Answered text answer) = IsAnswer Finds name source options text.items answer
IsOutcome Finds Lacks name source options (Short shortfall) = Stops Finds Lacks name source shortfall.reason
