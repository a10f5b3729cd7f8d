-- Each step is allowed.
use Rattle.std.proofs.Common.{◌≡◌, ℕ, ◌<◌, true, false, List, [], ◌∷◌, length, set, get_or, Some, None, refl, sym, ap, ◌∙◌, subst, eqb}
use mathlib.Core.Logic.{dite}
use native.Mathlib.Decide.{ℕ_discrete}
use mathlib.Core.Option.{none}
use prog.Atomic.{either}
use Rattle.atomic_table.proofs.Lists.{exchanged, set_again}
use Rattle.atomic_table.specs.Table.{Act, Allows, Me, State, Valid, carried_after, keeps, step, stepped}
use Rattle.bus_plan.specs.Plan.{PlannedDevice, suppliers_of, verdict_of}
use Rattle.bus_core.specs.History.{outcome_by}
use Rattle.bus_core.specs.declared.settle.Outcome.TheVariants.{Bound}
use Rattle.bus_board.proofs.Histories.{front_outcome}
use Rattle.bus_board.proofs.Landings.{check_bound, check_dropped, defer_kept, settle_kept, wake_lost, wake_won}
use Rattle.bus_board.proofs.Moves.{Kind, claim_lost, claim_won, look_kept, sees_all, settled_as-bound, unclaimed, unread}
use Rattle.bus_board.proofs.Sole.{lost_past}
use Rattle.bus_board.specs.Lists.{Has}
use Rattle.bus_board.specs.Outcomes.{outcome_of}
use Rattle.bus_board.specs.Rule.{Fits, Holds, Kept}
use Rattle.bus_board.specs.Steps.{Checks, Claims, Defers, Looks, Notes, Settles, Wakes}
use Rattle.bus_board.specs.Views.{caught_up, claimed_by, deferred, last_look, looked, passed_all, relieved, settled_by}
use Rattle.bus_board.specs.Words.{end_word, settled_as}
use Rattle.bus_board.specs.declared.view.Flight.{Flight}
use Rattle.bus_board.specs.declared.view.View.{View}

abbrev M : Type 0
M = Me (Unit {0}) View

abbrev St : Type 0
St = State (Unit {0}) View

abbrev Goes : List PlannedDevice → St → ℕ → ℕ → M → (ℕ → M → Type 0) → ℕ → Type 0
Goes p s i id m then n = (w : View) × (a : Act (Unit {0})) × Valid s.homes m.1 a × Holds p (stepped s i n id m.1 w a) × then (get_or s.words i 0) (w, carried_after m.1 a)

pub claim_allowed : (p : List PlannedDevice) (slots id : ℕ) (m : M) (d old new : ℕ) → Kind old new → d < length p → m.0.live ≡ true → m.0.flight ≡ None
    → Allows (Holds p) slots id m d (λ n. either (eqb n old) new n) (Claims (step slots d old new none) m)
claim_allowed p slots id m d old new kind inside live idle s k _ me _ =
    let x : ℕ = get_or s.words d 0 in
    let fit : Fits p k.log s.words m.0 = k.fits id m.0 me in
    let sees = sees_all p s.words s.views k id m.0 me live in
    exchanged x old new (Goes p s d id m (Claims (step slots d old new none) m))
    (λ hit. (
      claimed_by m.0 k.log d old,
      keeps,
      tt,
      claim_won p s.words s.views k id m.0 d old new kind inside live idle me hit,
      record { log = k.log; sees = sees; slots = refl; new = λ _. unclaimed p k.log s.words m.0 d old new kind fit hit; won = λ _. refl; lost = λ miss. absurd (miss hit); past = λ miss. absurd (miss hit) },
    ))
    (λ miss. (
      passed_all m.0 k.log ((d, old) ∷ []),
      keeps,
      tt,
      unread p s.words _ d (claim_lost p s.words s.views k id m.0 d old live me miss),
      record { log = k.log; sees = sees; slots = refl; new = λ hit. absurd (miss hit); won = λ hit. absurd (miss hit); lost = λ _. refl; past = λ _ whole owed. lost_past p s.words s.views k id m.0 d old me live idle inside miss whole owed },
    ))

pub look_allowed : (p : List PlannedDevice) (slots id : ℕ) (m : M) (d : ℕ) → d < length p → m.0.live ≡ true
    → Allows (Holds p) slots id m d (λ n. n) (Looks (step slots d 0 0 none) m)
look_allowed p slots id m d inside live s k _ me _ =
    let x : ℕ = get_or s.words d 0 in
    let fit : Fits p k.log s.words m.0 = k.fits id m.0 me in
    let tells = k.words_tell d inside in (
      looked m.0 k.log d (eqb x 5),
      keeps,
      tt,
      unread p s.words _ d (look_kept p s.words s.views k id m.0 d inside live me),
      record {
        log = k.log;
        sees = sees_all p s.words s.views k id m.0 me live;
        slots = refl;
        view = refl;
        bound = λ five. tells.settled ∙ ap settled_as five;
        not_bound = λ other. λ was. other (settled_as-bound x (sym tells.settled ∙ front_outcome m.0.seen k.log d Bound fit.seen was));
      },
    )

pub settle_allowed : (p : List PlannedDevice) (slots id : ℕ) (m : M) (f : Flight) (new : ℕ) → new ≡ end_word (outcome_by (verdict_of m.0.plan f.device)) → m.0.live ≡ true
    → m.0.flight ≡ Some f → ((s : ℕ) → Has (suppliers_of p f.device) s → last_look f.looks s ≡ Some true)
    → Allows (Holds p) slots id m f.device (λ _. new) (λ _. Settles (step slots f.device new 0 none) m new)
settle_allowed p slots id m f new word live flight seen s k _ me _ =
    let fit : Fits p k.log s.words m.0 = k.fits id m.0 me in
    let t = settle_kept p s.words s.views k id m.0 f live flight seen me in (
      settled_by m.0 k.log f.device,
      keeps,
      tt,
      subst (λ (n : ℕ). Kept p (set s.words f.device n) (set s.views id (settled_by m.0 k.log f.device))) (sym word) t.kept,
      record { log = k.log; sees = sees_all p s.words s.views k id m.0 me live; slots = refl; view = refl; follows = t.follows },
    )

pub defer_allowed : (p : List PlannedDevice) (slots id : ℕ) (m : M) (f : Flight) (t : ℕ) → m.0.live ≡ true
    → m.0.flight ≡ Some f → Has (suppliers_of p f.device) t → last_look f.looks t ≡ Some false
    → Allows (Holds p) slots id m f.device (λ _. 2) (λ _. Defers (step slots f.device 2 0 none) m 2)
defer_allowed p slots id m f t live flight there missed s k _ me _ =
    let fit : Fits p k.log s.words m.0 = k.fits id m.0 me in (
      deferred m.0 k.log f.device,
      keeps,
      tt,
      defer_kept p s.words s.views k id m.0 f t live flight there missed me,
      record { log = k.log; sees = sees_all p s.words s.views k id m.0 me live; slots = refl; view = refl },
    )

pub note_allowed : (p : List PlannedDevice) (slots id : ℕ) (m : M) (i : ℕ) → m.0.live ≡ true → Allows (Holds p) slots id m i (λ n. n) (Notes (step slots i 0 0 none) m)
note_allowed p slots id m i live s k _ me _ =
    let fit : Fits p k.log s.words m.0 = k.fits id m.0 me in (
      m.0,
      keeps,
      tt,
      unread p s.words _ i (subst (λ (vs : List View). Kept p s.words vs) (sym (set_again s.views id m.0 me)) k),
      record { log = k.log; sees = sees_all p s.words s.views k id m.0 me live; slots = refl; view = refl },
    )

pub check_allowed : (p : List PlannedDevice) (slots id : ℕ) (m : M) (h s' : ℕ) (more : List ℕ) → m.0.live ≡ true → m.0.owed ≡ h ∷ more → s' < length p → Has (suppliers_of p h) s'
    → Allows (Holds p) slots id m s' (λ n. n) (Checks (step slots s' 0 0 none) m)
check_allowed p slots id m h s' more live owed inside there s k _ me _ =
    let x : ℕ = get_or s.words s' 0 in
    let fit : Fits p k.log s.words m.0 = k.fits id m.0 me in
    let sees = sees_all p s.words s.views k id m.0 me live in
    let tells = k.words_tell s' inside in
    dite (ℕ_discrete x 5)
    (λ five. (
      caught_up m.0 k.log,
      keeps,
      tt,
      unread p s.words _ s' (check_bound p s.words s.views k id m.0 live me),
      record { log = k.log; sees = sees; slots = refl; bound = λ _. (refl, tells.settled ∙ ap settled_as five); dropped = λ n. absurd (n five) },
    ))
    (λ other. (
      relieved m.0 k.log,
      keeps,
      tt,
      unread p s.words _ s' (check_dropped p s.words s.views k id m.0 h s' more live me owed inside there other),
      record { log = k.log; sees = sees; slots = refl; bound = λ five. absurd (other five); dropped = λ _. refl },
    ))

pub wake_allowed : (p : List PlannedDevice) (slots id : ℕ) (m : M) (h : ℕ) (more : List ℕ) → m.0.live ≡ true → m.0.owed ≡ h ∷ more → h < length p
    → ((s : ℕ) → Has (suppliers_of p h) s → outcome_of m.0.seen s ≡ Some Bound)
    → Allows (Holds p) slots id m h (λ n. either (eqb n 2) 3 n) (Wakes (step slots h 2 3 none) m)
wake_allowed p slots id m h more live owed inside seen s k _ me _ =
    let x : ℕ = get_or s.words h 0 in
    let fit : Fits p k.log s.words m.0 = k.fits id m.0 me in
    let sees = sees_all p s.words s.views k id m.0 me live in
    exchanged x 2 3 (Goes p s h id m (Wakes (step slots h 2 3 none) m))
    (λ hit. (relieved m.0 k.log, keeps, tt, wake_won p s.words s.views k id m.0 h more live me owed inside seen hit, record { log = k.log; sees = sees; slots = refl; view = refl }))
    (λ miss. (relieved m.0 k.log, keeps, tt, unread p s.words _ h (wake_lost p s.words s.views k id m.0 h more live me owed miss), record { log = k.log; sees = sees; slots = refl; view = refl }))
