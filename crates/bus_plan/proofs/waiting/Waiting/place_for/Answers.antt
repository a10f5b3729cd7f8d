-- A new string has an empty list, at the end.
use Rattle.std.proofs.Common.{◌≡◌, ◌∙◌, ap, sym, [], ◌∷◌, ◌++◌, length, get_or, map}
use Rattle.std.proofs.lemmas.List.{length-map, map-append}
use Rattle.bus_plan.specs.PlanPaths.{is_among, place_of}
use Rattle.bus_plan.specs.Private.Waiting.{WaitingDevices, listed_by}
use Rattle.bus_plan.proofs.PathLemmas.{position-known, position-unknown}
use Rattle.bus_plan.proofs.WaitingLemmas.{place-last, last-there, listed-new}
use Rattle.bus_plan.proofs.waiting.Waiting.place_for.Goals as goal

pub returns-in-Some-clause-there : goal.returns-in-Some-clause-there
returns-in-Some-clause-there c =
    ap (λ (w : WaitingDevices). is_among c.args.string.now w.strings) (sym c.self.view_is)
    ∙ (position-known c.args.string.now c.self.inside.strings c.in-Some.place (sym c.position.ensures ∙ c.in-Some.is)).0

pub push-requires-2 : goal.push-requires-2
push-requires-2 c = position-unknown c.args.string.now c.self.inside.strings (sym c.position.ensures ∙ c.in_default.is)

pub returns-in-Ok-clause-there : goal.returns-in-Ok-clause-there
returns-in-Ok-clause-there c = ap (is_among c.args.string.now) c.in-Ok.ensures.ok ∙ last-there c.self.inside.strings c.args.string.now

pub returns-in-Ok-clause-place : goal.returns-in-Ok-clause-place
returns-in-Ok-clause-place c =
    let strings = c.self.inside.strings in
    let string = c.args.string.now in
    let gone = position-unknown string strings (sym c.position.ensures ∙ c.in_default.is) in
    c.len-place.ensures ∙ c.self.inside.lists.ok.0 ∙ c.self.invariant
    ∙ sym (ap (λ ss. place_of ss string) c.in-Ok.ensures.ok ∙ place-last strings string gone)

pub returns-in-Ok-clause-same : goal.returns-in-Ok-clause-same
returns-in-Ok-clause-same c s =
    let strings = c.self.inside.strings in
    let vs = c.self.inside.lists.items in
    let lists = map (λ list. list.items) vs in
    let even : length lists ≡ length strings = length-map vs (λ list. list.items) ∙ c.self.invariant in
    let lists_are : map (λ list. list.items) c.push.new.self.items ≡ lists ++ [] ∷ [] =
    ap (map (λ list. list.items)) c.in_ok-push.ensures.items ∙ map-append (λ list. list.items) vs _ ∙ ap (λ l. lists ++ l ∷ []) c.in_ok-list.ensures.items in
    ap (λ ls. get_or ls (place_of c.push-2.new.self s) []) lists_are
    ∙ ap (λ ss. get_or (lists ++ [] ∷ []) (place_of ss s) []) c.in-Ok.ensures.ok
    ∙ listed-new strings lists even c.args.string.now s ∙ ap (λ (w : WaitingDevices). listed_by w s) c.self.view_is
