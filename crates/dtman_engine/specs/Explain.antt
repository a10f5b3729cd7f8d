-- The names that refusals have by their numbers, as those give them that refuse, and a refusal's entry as it is printed.
use Rattle.std.specs.Prelude.{ℕ, List, [], ◌∷◌, ◌==◌, if◌then◌else◌, Option, Some, None, map, flat_map, codes}
use Rattle.std.specs.List.{concat}
use Rattle.std.specs.Fmt.{decimal}
use Rattle.dt_source.specs.declared.error.SourceErrorKind.TheVariants as source
use Rattle.dt_build.specs.declared.resolve.error.BuildErrorKind.TheVariants as build
use Rattle.dt_blob.specs.declared.error.BlobError.TheVariants as blob
use Rattle.dt_source.specs.OverlayMeaning.Fault as overlay
use Rattle.bus_plan.specs.declared.error.PlanError.TheVariants as text
use Rattle.bus_core.specs.declared.refusal.Refusal.TheVariants as event
use Rattle.bus_manager.specs.declared.run_error.RunError.TheVariants as run
use Rattle.dt_preprocess.specs.declared.refusal.Reason.TheVariants as header
use Rattle.dt_source.specs.Places.{beginning}
use Rattle.dtman_engine.specs.declared.explaining.Explanation.{Explanation}
use Rattle.dtman_engine.specs.Fault.{FaultValue, no_memory, cannot_read, cannot_write, file_too_long}
use Rattle.dtman_engine.specs.BlobFaults.{blob_fault}
use Rattle.dtman_engine.specs.EventFaults.{event_fault}
use Rattle.dtman_engine.specs.OverlayFaults.{meant_fault}
use Rattle.dtman_engine.specs.PreprocessFaults.{preprocess_fault}
use Rattle.dtman_engine.specs.RunFaults.{run_fault}
use Rattle.dtman_engine.specs.SourceFaults.{source_fault, build_fault}
use Rattle.dtman_engine.specs.TextFaults.{text_fault}

-- the name of the first fault that has the number
abbrev pub name_in : List FaultValue → ℕ → Option (List ℕ)
name_in [] number = None
name_in (fault ∷ faults) number = if number == fault.number then Some fault.name else name_in faults number

-- Those that each crate and the commands tell, each of a line or an event where it has one.
abbrev pub memory_faults : List FaultValue
memory_faults = no_memory ∷ []

abbrev pub source_faults : List FaultValue
source_faults =
    map (λ kind. source_fault kind beginning) (source.Syntax ∷ source.ElementRange ∷ source.DivideByZero ∷ source.BadBits ∷ source.LiteralRange ∷ source.BadEscape ∷ source.TooDeep ∷ source.TooLong ∷ [])

abbrev pub build_faults : List FaultValue
build_faults =
    map build_fault (build.UnknownLabel ∷ build.DuplicateLabel ∷ build.UnknownPath ∷ build.BadPhandle ∷ build.DuplicatePhandle ∷ build.DuplicateInBody ∷ build.PathInPlugin ∷ build.ReservedName ∷ build.TooDeep ∷ [])

abbrev pub blob_faults : List FaultValue
blob_faults =
    map blob_fault (blob.Truncated ∷ blob.BadMagic ∷ blob.BadVersion ∷ blob.BadLayout ∷ blob.BadToken ∷ blob.BadString ∷ blob.PropertyAfterNode ∷ blob.BadTree ∷ blob.TooLarge ∷ [])

abbrev pub overlay_faults : List FaultValue
overlay_faults =
    map meant_fault (overlay.NotOverlay ∷ overlay.NoTarget ∷ overlay.UnknownSymbol ∷ overlay.BadFixup ∷ overlay.PhandleOverflow ∷ overlay.PhandleClash ∷ overlay.TooDeep ∷ [])

abbrev pub text_faults : List FaultValue
text_faults =
    map text_fault (text.BadLine 1 ∷ text.DuplicateDriver 1 ∷ text.DuplicateDevice 1 ∷ text.UnknownPath 1 ∷ text.DanglingPhandle ∷ text.BadSpecifier ∷ text.TooManyDevices ∷ [])

abbrev pub event_faults : List FaultValue
event_faults =
    map (event_fault 1) (event.NotIdle ∷ event.Unmatched ∷ event.StaleTicket ∷ event.NotReady ∷ event.WasBound ∷ event.TooManyEvents ∷ event.NotInFlight ∷ event.KnownDriver ∷ [])

abbrev pub run_faults : List FaultValue
run_faults = run_fault run.TooManyWorkers ∷ []

abbrev pub file_faults : List FaultValue
file_faults = cannot_read ∷ cannot_write ∷ file_too_long ∷ []

abbrev pub preprocess_faults : List FaultValue
preprocess_faults =
    map preprocess_fault (header.NoFile ∷ header.TooDeep ∷ header.TooManyTokens ∷ header.TooLong ∷ header.OpenComment ∷ header.Unserved ∷ header.Directive ∷ header.Condition ∷ header.Call ∷ header.Conditional ∷ header.Error ∷ [])

-- the name of the refusal that has the number
abbrev pub name_for : ℕ → Option (List ℕ)
name_for number =
    name_in (flat_map (λ (faults : List FaultValue). faults) (memory_faults ∷ source_faults ∷ build_faults ∷ blob_faults ∷ overlay_faults ∷ text_faults ∷ event_faults ∷ run_faults ∷ file_faults ∷ preprocess_faults ∷ [])) number

-- an entry as it is printed
abbrev pub entry_text : Explanation → List ℕ
entry_text e = concat (codes "## " ∷ decimal e.number ∷ codes " " ∷ e.name.now ∷ codes "\n" ∷ e.meaning.now ∷ codes "\n\n- Such an input: " ∷ e.input.now ∷ codes "\n- What to do: " ∷ e.remedy.now ∷ codes "\n" ∷ [])
