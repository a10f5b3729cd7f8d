-- What the board's calls do to a seat's view, by what they answer: the board's own clauses.
use Rattle.std.specs.Prelude.{◌≡◌, ℕ, Bool, Option, None, Result, IfOk, IfErr, IfSome, IfNone, OnOk}
use Rattle.bus_core.specs.declared.event.Reply.{Reply}
use Rattle.bus_core.specs.declared.refusal.Refusal.{Refusal}
use Rattle.bus_board.specs.Learns.{Claimed, NotTaken, Passed, LookedAt, NotLooked, SettledBy, NotSettled, DeferredOn, NotDeferred}
use Rattle.bus_board.specs.declared.view.View.{View}

abbrev pub HasTaken : View → View → Result (Option ℕ) Refusal → Type 0
HasTaken v w r =
    IfOk r (λ _. v.flight ≡ None)
    × IfOk r (λ found. IfSome found (λ d. Claimed v w d))
    × IfOk r (λ found. IfNone found (Passed v w))
    × IfErr r (λ refusal. (w ≡ v) × NotTaken v refusal)

abbrev pub HasLooked : ℕ → View → View → Result Bool Refusal → Type 0
HasLooked supplier v w r =
    IfOk r (λ bound. LookedAt v w supplier bound)
    × IfErr r (λ refusal. (w ≡ v) × NotLooked v supplier refusal)

abbrev pub HasSettled : View → View → Result Reply Refusal → Type 0
HasSettled v w r = IfOk r (λ reply. SettledBy v w reply) × IfErr r (λ refusal. (w ≡ v) × NotSettled v refusal)

abbrev pub HasDeferred : ℕ → View → View → Result (Unit {0}) Refusal → Type 0
HasDeferred supplier v w r = OnOk r (DeferredOn v w supplier) × IfErr r (λ refusal. (w ≡ v) × NotDeferred v supplier refusal)
