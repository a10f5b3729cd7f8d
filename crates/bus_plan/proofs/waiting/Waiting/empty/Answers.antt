-- The string's list is put in the place of its own.
use Rattle.std.proofs.Common.{◌≡◌, ◌∙◌, ap, sym, subst, [], length, get_or, set, map}
use Rattle.std.specs.Prelude.{if◌then◌else◌}
use Rattle.std.specs.Str.{bytes_eq}
use Rattle.std.proofs.lemmas.List.{map-set, length-map}
use Rattle.bus_plan.specs.PlanPaths.{place_of}
use Rattle.bus_plan.specs.Private.Waiting.{WaitingDevices, listed_by}
use Rattle.bus_plan.proofs.PathLemmas.{position-known, position-unknown}
use Rattle.bus_plan.proofs.WaitingLemmas.{listed-set, listed-absent}
use Rattle.bus_plan.proofs.waiting.Waiting.empty.Goals as goal

pub returns-in-Some : goal.returns-in-Some
returns-in-Some c s =
    let strings = c.self.inside.strings in
    let vs = c.self.inside.lists.items in
    let lists = map (λ list. list.items) vs in
    let string = c.args.string.now in
    let even : length lists ≡ length strings = length-map vs (λ list. list.items) ∙ c.self.invariant in
    let known = position-known string strings c.in-Some.place (sym c.position.ensures ∙ c.in-Some.is) in
    ap (λ ls. get_or ls (place_of strings s) [])
    (map-set (λ list. list.items) vs c.in-Some.place c.clear.new.self ∙ ap (set lists c.in-Some.place) c.clear.ensures.items ∙ ap (λ i. set lists i []) (sym known.1))
    ∙ listed-set strings lists even string s [] known.0
    ∙ ap (λ (w : WaitingDevices). if bytes_eq s string then [] else listed_by w s) c.self.view_is

pub returns-in_default : goal.returns-in_default
returns-in_default c s =
    let strings = c.self.inside.strings in
    let vs = c.self.inside.lists.items in
    let string = c.args.string.now in
    let even = length-map vs (λ list. list.items) ∙ c.self.invariant in
    subst (λ (w : WaitingDevices). listed_by w s ≡ (if bytes_eq s string then [] else listed_by w s)) c.self.view_is
    (listed-absent strings (map (λ list. list.items) vs) even string s (position-unknown string strings (sym c.position.ensures ∙ c.in_default.is)))
