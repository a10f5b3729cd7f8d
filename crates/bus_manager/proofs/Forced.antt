-- What a flight saw bound is in every closed set.
use Rattle.std.proofs.Common.{◌≡◌, inl, inr, ℕ, ◌<◌, Bool, true, false, not, ◌&&◌, ◌||◌, List, length, sym, ap, ◌∙◌, subst, true≢false}
use Rattle.std.proofs.lemmas.Bool.{and_parts, cases_eq}
use Rattle.bus_plan.specs.Plan.{PlannedDevice, is_matched}
use Rattle.bus_core.specs.declared.event.Ticket.{Ticket}
use Rattle.bus_core.specs.declared.settle.Settle.{Settle}
use Rattle.bus_core.specs.CoreState.{was_begun}
use Rattle.bus_core.specs.Due.{is_idle}
use Rattle.bus_core.specs.History.{IsBusHistory, bound_in}
use Rattle.bus_core.specs.Least.{IsLeast}
use Rattle.bus_core.specs.Ready.{is_ready}
use Rattle.bus_core.proofs.HistoryLemmas.{matched-below}
use Rattle.bus_core.proofs.LeastLemmas.{bound-closed}
use Rattle.bus_core.proofs.ReplayLaws.{replay-history}
use Rattle.bus_board.specs.Learns.{LookedAt}
use Rattle.bus_board.specs.declared.view.View.{View}
use Rattle.bus_manager.specs.Keeper.{KeeperValue, IsKept, IsTaken, core_of}
use Rattle.bus_manager.specs.Private.Notes.{AreForced}
use Rattle.bus_manager.specs.Private.Seen.{IsPut}
use Rattle.bus_manager.specs.Seen.{sees}

pub history-forced : (plan : List PlannedDevice) (h : List Settle) (seen : List ℕ) → IsBusHistory plan h → ((d : ℕ) → sees seen d ≡ bound_in h d) → AreForced plan (sees seen)
history-forced plan h seen lawful is s saw set closed = bound-closed plan h lawful set closed s (sym (is s) ∙ saw)

pub least-forced : (plan : List PlannedDevice) (bound : ℕ → Bool) (seen : List ℕ) → IsLeast plan bound → ((d : ℕ) → sees seen d ≡ bound d) → AreForced plan (sees seen)
least-forced plan bound seen least is s saw = (least s).0 (sym (is s) ∙ saw)

pub none-forced : (plan : List PlannedDevice) (seen : List ℕ) → ((d : ℕ) → sees seen d ≡ false) → AreForced plan (sees seen)
none-forced plan seen none s saw set closed = absurd (true≢false (sym saw ∙ none s))

-- a keeper's history is the bus's
pub kept-history : (k : KeeperValue) → IsKept k → IsBusHistory k.plan k.state.history
kept-history k kept = replay-history kept.first k.events (core_of k) kept.replayed

pub taken-forced : (old new : KeeperValue) (plan : List PlannedDevice) → IsKept old → old.plan ≡ plan → (t : Ticket) (seen : List ℕ) → IsTaken old new t seen → AreForced plan (sees seen)
taken-forced old new plan kept same t seen taken =
    history-forced plan old.state.history seen (subst (λ (p : List PlannedDevice). IsBusHistory p old.state.history) same (kept-history old kept)) taken.seen_is

pub taken-within : (old new : KeeperValue) (plan : List PlannedDevice) → old.plan ≡ plan → (t : Ticket) (seen : List ℕ) → IsTaken old new t seen → t.device < length plan
taken-within old new plan same t seen taken =
    subst (λ (p : List PlannedDevice). t.device < length p) same
    (matched-below old.plan t.device (and_parts (is_matched old.plan t.device) (is_idle old.state t.device && (not (was_begun old.state t.device) || is_ready old.plan (bound_in old.state.history) t.device)) taken.due).0)

-- one look more
pub look-forced : (v w : View) (plan : List PlannedDevice) (s : ℕ) (b : Bool) (old new : List ℕ)
    → v.plan ≡ plan → LookedAt v w s b → IsPut old new s b → AreForced plan (sees old) → AreForced plan (sees new)
look-forced v w plan s b old new same l put forced d saw set closed = elim (cases_eq d s) [
  | inl is ↦
      let found : b ≡ true = sym put.here ∙ (ap (sees new) (sym is) ∙ saw)
      in let bound : bound_in l.log s ≡ true = sym (ap (λ (x : View). bound_in x.seen s) l.view) ∙ l.bound found
      in let lawful : IsBusHistory plan l.log = subst (λ (p : List PlannedDevice). IsBusHistory p l.log) same l.lawful
      in ap set is ∙ bound-closed plan l.log lawful set closed s bound
  | inr other ↦ forced d (sym (put.others d other) ∙ saw) set closed
]
