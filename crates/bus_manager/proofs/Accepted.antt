-- A lawful report of a flight that was just taken is accepted.
use Rattle.std.proofs.Common.{◌≡◌, ℕ, ◌+◌, Bool, true, false, not, ◌&&◌, ◌||◌, List, Some, None, length, cond, take, sym, ap, ◌∙◌, eq-eqb, arith, take_all}
use Rattle.std.specs.List.{list_all}
use Rattle.std.proofs.lemmas.Bool.{and_parts, and_from}
use Rattle.std.proofs.lemmas.List.{get_or-set_same}
use mathlib.Core.Path.{fun_ext}
use Rattle.bus_plan.specs.Plan.{PlannedDevice, is_matched, suppliers_of}
use Rattle.bus_core.specs.declared.event.Report.{Report}
use Rattle.bus_core.specs.declared.event.Report.TheVariants.{Settled, Missing}
use Rattle.bus_core.specs.declared.event.Ticket.{Ticket}
use Rattle.bus_core.specs.declared.refusal.Refusal.TheVariants.{StaleTicket, NotReady, WasBound}
use Rattle.bus_core.specs.CoreState.{CoreState, Flight, flight_of, was_begun}
use Rattle.bus_core.specs.Due.{is_due, is_idle}
use Rattle.bus_core.specs.History.{bound_in}
use Rattle.bus_core.specs.Ready.{is_ready}
use Rattle.bus_core.specs.Step.{begin_state, finish_refusal, report_refusal, is_attempt, bound_at_begin, settled_at_begin}
use Rattle.bus_core.proofs.HistoryLemmas.{matched-below}
use Rattle.bus_manager.specs.Keeper.{KeeperValue, IsTaken}
use Rattle.bus_manager.specs.Prober.{IsLawfulReport}
use Rattle.bus_manager.specs.Seen.{sees}

report-allowed : (plan : List PlannedDevice) (s : CoreState) (d : ℕ) (report : Report)
    → flight_of (begin_state s d) d ≡ Some (record { attempt = s.begins + 1; settled = length s.history }) → is_matched plan d ≡ true
    → IsLawfulReport plan (bound_in s.history) d report → report_refusal plan (begin_state s d) d report ≡ None
report-allowed plan s d Settled flight matched lawful =
    ap (λ b. cond (not b) (Some NotReady) None) (and_from (is_matched plan d) (list_all (bound_in s.history) (suppliers_of plan d)) matched lawful)
report-allowed plan s d (Missing supplier) flight matched lawful =
    let unbound : bound_at_begin (begin_state s d) d supplier ≡ false =
    ap (λ f. bound_in (take (settled_at_begin f) s.history) supplier) flight ∙ ap (λ h. bound_in h supplier) (take_all (length s.history) s.history (omega arith)) ∙ lawful.1
    in ap (λ b. cond (not b) (Some WasBound) (cond (bound_at_begin (begin_state s d) d supplier) (Some WasBound) None)) lawful.0
    ∙ ap (λ b. cond b (Some WasBound) None) unbound

abbrev flight_begun : CoreState → Flight
flight_begun s = record { attempt = s.begins + 1; settled = length s.history }

by-state : (plan : List PlannedDevice) (s : CoreState) (ticket : Ticket) (seen : List ℕ) (report : Report)
    → length s.flights ≡ length plan → is_due plan s ticket.device ≡ true → ticket.attempt ≡ s.begins + 1 → ((d : ℕ) → sees seen d ≡ bound_in s.history d)
    → IsLawfulReport plan (sees seen) ticket.device report → finish_refusal plan (begin_state s ticket.device) ticket report ≡ None
by-state plan s ticket seen report long due attempt seen-is lawful =
    let d = ticket.device
    in let matched = (and_parts (is_matched plan d) (is_idle s d && (not (was_begun s d) || is_ready plan (bound_in s.history) d)) due).0
    in let within = matched-below plan d matched
    in let flight : flight_of (begin_state s d) d ≡ Some (flight_begun s) = get_or-set_same s.flights d (Some (flight_begun s)) None (omega (arith, long, within))
    in let tried : is_attempt (flight_of (begin_state s d) d) ticket.attempt ≡ true = ap (λ f. is_attempt f ticket.attempt) flight ∙ eq-eqb (s.begins + 1) ticket.attempt (sym attempt)
    in let P : (ℕ → Bool) → Type 0 = λ seen. IsLawfulReport plan seen d report
    in ap (λ b. cond (not b) (Some StaleTicket) (report_refusal plan (begin_state s d) d report)) tried
    ∙ report-allowed plan s d report flight matched (coe 0 1 (i. P (fun_ext seen-is i)) lawful)

pub lawful-accepted : (old new : KeeperValue) (ticket : Ticket) (seen : List ℕ) (report : Report)
    → length old.state.flights ≡ length old.plan → IsTaken old new ticket seen → IsLawfulReport old.plan (sees seen) ticket.device report
    → finish_refusal new.plan new.state ticket report ≡ None
lawful-accepted old new ticket seen report long taken lawful =
    ap (λ k. finish_refusal k.plan k.state ticket report) taken.begun ∙ by-state old.plan old.state ticket seen report long taken.due taken.attempt taken.seen_is lawful
