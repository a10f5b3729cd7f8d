-- A replay goes on by an event, or stops at it; a schedule's lines are read one after another.
use Rattle.std.proofs.Common.{◌≡◌, ◌∙◌, ℕ, ◌+◌, ◌<◌, ◌≤◌, true, List, [], ◌∷◌, ◌++◌, Option, Some, None, Result, Ok, Err, length, get_or, drop, refl, sym, ap, true≢false, append-nil, append_assoc, arith}
use Rattle.std.specs.Prelude.{is_ok, IfSome, All, option_to_list}
use Rattle.std.proofs.lemmas.List.Elements.{All-nil, All-cons, All-append, All-same}
use Rattle.std.proofs.lemmas.List.{drop_more, drop_all}
use Rattle.bus_plan.specs.declared.error.PlanError.{PlanError}
use Rattle.bus_plan.specs.Plan.{PlannedDevice}
use Rattle.bus_core.specs.declared.event.Event.{Event}
use Rattle.bus_core.specs.declared.event.Event.TheVariants.{Begin, Finish, Abandon, Register}
use Rattle.bus_core.specs.declared.refusal.Refusal.{Refusal}
use Rattle.bus_core.specs.CoreState.{CoreValue}
use Rattle.bus_core.specs.Replay.{event_refusal, event_core, IsEventOf, or_refused, replay_from}
use Rattle.bus_core.proofs.LateLemmas.{late-long}
use Rattle.bus_core.specs.Schedule.{line_meaning, behind, with_line, events_on, schedule_behind}

-- what is left begins with this event
pub replay-at : (events : List Event) (i : ℕ) (e : Event) (s : CoreValue) → i < length events → e ≡ get_or events i e
    → replay_from i s (drop i events) ≡ or_refused (event_refusal s e) (i + 1) (replay_from (i + 1) (event_core s e) (drop (i + 1) events))
replay-at events i e s within is =
    ap (replay_from i s) (drop_more events i e within ∙ ap (λ x. x ∷ drop (i + 1) events) (sym is))

pub replay-more : (events : List Event) (i : ℕ) (e : Event) (s : CoreValue) → i < length events → e ≡ get_or events i e → event_refusal s e ≡ None
    → replay_from i s (drop i events) ≡ replay_from (i + 1) (event_core s e) (drop (i + 1) events)
replay-more events i e s within is passed =
    replay-at events i e s within is ∙ ap (λ r. or_refused r (i + 1) (replay_from (i + 1) (event_core s e) (drop (i + 1) events))) passed

pub replay-stops : (events : List Event) (i : ℕ) (e : Event) (s : CoreValue) (r : Refusal) → i < length events → e ≡ get_or events i e → event_refusal s e ≡ Some r
    → replay_from i s (drop i events) ≡ Err (i + 1, r)
replay-stops events i e s r within is refused =
    replay-at events i e s within is ∙ ap (λ r. or_refused r (i + 1) (replay_from (i + 1) (event_core s e) (drop (i + 1) events))) refused

pub replay-ends : (events : List Event) (i : ℕ) (s : CoreValue) → length events ≤ i → replay_from i s (drop i events) ≡ Ok s
replay-ends events i s past = ap (replay_from i s) (drop_all i events past)

-- ---- the plan of a core keeps its length, and its events stay the plan's
pub event-long : (core : CoreValue) (e : Event) → length (event_core core e).plan ≡ length core.plan
event-long core (Begin d) = refl
event-long core (Finish d report) = refl
event-long core (Abandon d) = refl
event-long core (Register name strings) = late-long core.plan name strings

pub event-same : (plan new : List PlannedDevice) (e : Event) → length new ≡ length plan → IsEventOf plan e → IsEventOf new e
event-same plan new (Begin d) long within = omega (arith, long, within)
event-same plan new (Finish d report) long within = omega (arith, long, within)
event-same plan new (Abandon d) long within = omega (arith, long, within)
event-same plan new (Register name strings) long named = named

-- ---- a schedule
behind-behind : (xs ys : List Event) (rest : Result (List Event) PlanError) → behind xs (behind ys rest) ≡ behind (xs ++ ys) rest
behind-behind xs ys (Err e) = refl
behind-behind xs ys (Ok more) = ap Ok (sym (append_assoc xs ys more))

-- a lawful line's events go behind those before it
with-line : (xs : List Event) (said : Result (Option Event) PlanError) (rest : Result (List Event) PlanError) → is_ok said ≡ true → behind xs (with_line said rest) ≡ behind (xs ++ events_on said) rest
with-line xs (Err e) rest ok = absurd (true≢false (sym ok))
with-line xs (Ok None) rest ok = ap (λ x. behind x rest) (sym (append-nil xs))
with-line xs (Ok (Some event)) rest ok = behind-behind xs (event ∷ []) rest

-- the lines that are left begin with this one
pub schedule-more : (plan : List PlannedDevice) (number : ℕ) (line : List ℕ) (rest left : List (List ℕ)) (xs new : List Event)
    → left ≡ line ∷ rest → is_ok (line_meaning plan (number + 1) line) ≡ true → new ≡ xs ++ events_on (line_meaning plan (number + 1) line)
    → behind xs (schedule_behind plan number left) ≡ behind new (schedule_behind plan (number + 1) rest)
schedule-more plan number line rest left xs new is ok taken =
    ap (λ x. behind xs (schedule_behind plan number x)) is
    ∙ with-line xs (line_meaning plan (number + 1) line) (schedule_behind plan (number + 1) rest) ok
    ∙ ap (λ x. behind x (schedule_behind plan (number + 1) rest)) (sym taken)

pub schedule-stops : (plan : List PlannedDevice) (number : ℕ) (line : List ℕ) (rest left : List (List ℕ)) (xs : List Event) (e : PlanError)
    → left ≡ line ∷ rest → line_meaning plan (number + 1) line ≡ Err e → behind xs (schedule_behind plan number left) ≡ Err e
schedule-stops plan number line rest left xs e is bad =
    ap (λ x. behind xs (schedule_behind plan number x)) is ∙ ap (λ m. behind xs (with_line m (schedule_behind plan (number + 1) rest))) bad

pub schedule-ends : (plan : List PlannedDevice) (number : ℕ) (left : List (List ℕ)) (xs : List Event) → left ≡ [] → behind xs (schedule_behind plan number left) ≡ Ok xs
schedule-ends plan number left xs none = ap (λ x. behind xs (schedule_behind plan number x)) none ∙ ap Ok (append-nil xs)

events-on_option : (o : Option Event) → events_on (Ok o) ≡ option_to_list o
events-on_option None = refl
events-on_option (Some event) = refl

-- a line is read, and its event appended
pub schedule-read : (plan : List PlannedDevice) (number : ℕ) (line : List ℕ) (rest left : List (List ℕ)) (xs new : List Event) (o : Option Event)
    → left ≡ line ∷ rest → line_meaning plan (number + 1) line ≡ Ok o → new ≡ xs ++ option_to_list o
    → behind xs (schedule_behind plan number left) ≡ behind new (schedule_behind plan (number + 1) rest)
schedule-read plan number line rest left xs new o is says added =
    schedule-more plan number line rest left xs new is (ap is_ok says) (added ∙ ap (λ x. xs ++ x) (sym (ap events_on says ∙ events-on_option o)))

option-all : (P : Event → Type 0) (o : Option Event) → IfSome o P → All P (option_to_list o)
option-all P None held = All-nil P
option-all P (Some event) held = All-cons P event [] held (All-nil P)

pub all-appended : (P : Event → Type 0) (xs new : List Event) (o : Option Event) → All P xs → IfSome o P → new ≡ xs ++ option_to_list o → All P new
all-appended P xs new o before held added = All-same P new (xs ++ option_to_list o) added (All-append P xs (option_to_list o) before (option-all P o held))
