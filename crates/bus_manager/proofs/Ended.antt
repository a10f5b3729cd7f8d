-- What a quiet keeper says at the end.
use Rattle.std.proofs.Common.{◌≡◌, ℕ, ◌<◌, Bool, true, List, Option, length, refl, ap, ◌∙◌}
use Rattle.bus_plan.specs.Plan.{PlannedDevice}
use Rattle.bus_core.specs.declared.event.Report.{Report}
use Rattle.bus_core.specs.CoreState.{CoreState}
use Rattle.bus_core.specs.Due.{is_quiet}
use Rattle.bus_core.specs.History.{bound_in, IsBusHistory}
use Rattle.bus_core.specs.Report.{status_of, end_status, end_text, report_text, IsEndReport}
use Rattle.bus_core.proofs.LeastLemmas.{quiet-least, quiet-status, quiet-text, end-one}
use Rattle.bus_board.specs.Ends.{EndsAs}
use Rattle.bus_board.specs.declared.view.View.{View}
use Rattle.bus_board.specs.declared.words.Word.{Word}
use Rattle.bus_manager.specs.Private.BoardEnd.{bound_by_words}
use Rattle.bus_manager.specs.Notes.{leaves_note, has_note}
use Rattle.bus_manager.specs.Private.Notes.{AreNotes}
use Rattle.bus_manager.specs.Run.{IsRunAfter}
use Rattle.bus_manager.proofs.Shown.{probed}

pub run-ended : {N : Type 0} (attests : ℕ → (ℕ → Bool) → Report → N → Type 0) (before : ℕ → Bool) (plan : List PlannedDevice) (s : CoreState) (report : List ℕ) (notes : List (Option N))
    → IsBusHistory plan s.history → is_quiet plan s ≡ true → report ≡ report_text plan s → AreNotes attests plan notes
    → ((d : ℕ) → d < length plan → has_note notes d ≡ leaves_note (before d) (status_of plan s d)) → IsRunAfter attests before plan report notes
run-ended attests before plan s report notes steps quiet text are noted =
    let ends : IsEndReport plan report = record { bound = bound_in s.history; least = quiet-least plan s steps quiet; text_is = text ∙ quiet-text plan s steps quiet }
    in record {
      ends = ends;
      one = λ other said. end-one plan other report said ends;
      places = are.places;
      noted = λ d within. noted d within ∙ ap (leaves_note (before d)) (quiet-status plan s steps quiet d within);
      attested = λ d note at. probed (attests d) plan ends.bound d note ends.least (are.attested d note at);
    }

-- what a quiet board says at the end
pub quiet-run : {N : Type 0} (attests : ℕ → (ℕ → Bool) → Report → N → Type 0) (before : ℕ → Bool) (plan : List PlannedDevice) (words : List Word) (report : List ℕ) (notes : List (Option N)) (v : View)
    → EndsAs plan v words true → report ≡ end_text plan (bound_by_words words) → AreNotes attests plan notes
    → ((d : ℕ) → d < length plan → has_note notes d ≡ leaves_note (before d) (end_status plan (bound_by_words words) d)) → IsRunAfter attests before plan report notes
quiet-run attests before plan words report notes v e text are noted =
    let ends : IsEndReport plan report = record { bound = bound_by_words words; least = e.least refl; text_is = text }
    in record {
      ends = ends;
      one = λ other said. end-one plan other report said ends;
      places = are.places;
      noted = noted;
      attested = λ d note at. probed (attests d) plan ends.bound d note ends.least (are.attested d note at);
    }
