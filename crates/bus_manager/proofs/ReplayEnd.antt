-- A replay goes on by one event at its end.
use Rattle.std.proofs.Common.{◌≡◌, ℕ, ◌+◌, true, List, [], ◌∷◌, ◌++◌, Option, Some, None, Result, Ok, refl, ap, ◌∙◌}
use Rattle.std.proofs.lemmas.Bool.{and_parts, and_from}
use Rattle.bus_core.specs.declared.event.Event.{Event}
use Rattle.bus_core.specs.declared.refusal.Refusal.{Refusal}
use Rattle.bus_core.specs.CoreState.{CoreValue}
use Rattle.bus_core.specs.Replay.{event_refusal, event_core, or_refused, replay_from}
use Rattle.bus_manager.specs.Events.{is_of_due, are_of_due}

not-refused : (o : Option Refusal) (n : ℕ) (r : Result CoreValue (ℕ × Refusal)) (t : CoreValue) → or_refused o n r ≡ Ok t → (o ≡ None) × (r ≡ Ok t)
not-refused None n r t e = (refl, e)
not-refused (Some refusal) n r t e = let no : ⊥ = cc in absurd no

pub replay-push : (n : ℕ) (s t : CoreValue) (events : List Event) (e : Event)
    → replay_from n s events ≡ Ok t → event_refusal t e ≡ None → replay_from n s (events ++ e ∷ []) ≡ Ok (event_core t e)
replay-push n s t [] e at allowed =
    let same : s ≡ t = cc
    in (λ i. or_refused (event_refusal (same i) e) (n + 1) (Ok (event_core (same i) e)))
    ∙ ap (λ o. or_refused o (n + 1) (Ok (event_core t e))) allowed
replay-push n s t (x ∷ events) e at allowed =
    let parts = not-refused (event_refusal s x) (n + 1) (replay_from (n + 1) (event_core s x) events) t at
    in ap (λ o. or_refused o (n + 1) (replay_from (n + 1) (event_core s x) (events ++ e ∷ []))) parts.0
    ∙ replay-push (n + 1) (event_core s x) t events e parts.1 allowed

pub due-push : (n : ℕ) (s t : CoreValue) (events : List Event) (e : Event)
    → replay_from n s events ≡ Ok t → are_of_due s events ≡ true → is_of_due t e ≡ true → are_of_due s (events ++ e ∷ []) ≡ true
due-push n s t [] e at before due =
    let same : s ≡ t = cc
    in and_from (is_of_due s e) true (ap (λ x. is_of_due x e) same ∙ due) refl
due-push n s t (x ∷ events) e at before due =
    let parts = not-refused (event_refusal s x) (n + 1) (replay_from (n + 1) (event_core s x) events) t at
    in let tests = and_parts (is_of_due s x) (are_of_due (event_core s x) events) before
    in and_from (is_of_due s x) (are_of_due (event_core s x) (events ++ e ∷ [])) tests.0
    (due-push (n + 1) (event_core s x) t events e parts.1 tests.1 due)
