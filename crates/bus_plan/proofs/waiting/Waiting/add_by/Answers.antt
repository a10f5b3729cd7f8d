-- The device stands in the list of the string, and in no list more.
use Rattle.std.proofs.Common.{◌≡◌, ◌∙◌, ap, sym, ◌<◌, true, ◌&&◌, ◌||◌, [], length, get_or, set, map, arith}
use Rattle.std.specs.Prelude.{◌==◌}
use Rattle.std.specs.Str.{bytes_eq}
use Rattle.std.proofs.lemmas.List.{map-set, get_or-map, length-map}
use Rattle.bus_plan.specs.PlanPaths.{is_among, place_of}
use Rattle.bus_plan.specs.Private.Places.{is_in}
use Rattle.bus_plan.specs.Private.Waiting.{WaitingDevices, listed_by}
use Rattle.bus_plan.proofs.DistinctLemmas.{place-within}
use Rattle.bus_plan.proofs.WaitingLemmas.{table, listed-set, listed-more}
use Rattle.bus_plan.proofs.waiting.Waiting.add_by.Goals as goal

pub index_mut-requires : goal.index_mut-requires
index_mut-requires c =
    let strings = c.self.inside.strings in
    let string = c.args.string.now in
    let there : is_among string strings ≡ true = ap (λ (w : WaitingDevices). is_among string w.strings) c.self.view_is ∙ c.in_ok-place.ensures.there in
    let place : c.in_ok-place.place ≡ place_of strings string =
    c.in_ok-place.ensures.place ∙ sym (ap (λ (w : WaitingDevices). place_of w.strings string) c.self.view_is) in
    omega (arith, place, place-within strings string there, c.self.invariant, c.self.inside.lists.ok.0)

pub returns : goal.returns
returns c d s =
    let strings = c.self.inside.strings in
    let vs = c.self.inside.lists.items in
    let lists = map (λ list. list.items) vs in
    let string = c.args.string.now in
    let even : length lists ≡ length strings = length-map vs (λ list. list.items) ∙ c.self.invariant in
    let there : is_among string strings ≡ true = ap (λ (w : WaitingDevices). is_among string w.strings) c.self.view_is ∙ c.in_ok-place.ensures.there in
    let place : c.in_ok-place.place ≡ place_of strings string =
    c.in_ok-place.ensures.place ∙ sym (ap (λ (w : WaitingDevices). place_of w.strings string) c.self.view_is) in
    let below = place-within strings string there in
    let within : c.in_ok-place.place < length vs = omega (arith, place, below, c.self.invariant) in
    let before : c.index_mut.result.now.items ≡ listed_by (table strings lists) string =
    ap (λ list. list.items) c.index_mut.ensures.value ∙ sym (get_or-map (λ list. list.items) vs c.in_ok-place.place _ [] within)
    ∙ ap (λ i. get_or lists i []) place in
    listed-more (table strings lists) string s c.put.new.list.items _ c.args.device
    (λ e. c.in_ok-put.ensures e ∙ ap (λ l. is_in e l || (e == c.args.device)) before)
    (ap (λ ls. get_or ls (place_of strings s) []) (map-set (λ list. list.items) vs c.in_ok-place.place c.put.new.list ∙ ap (λ i. set lists i c.put.new.list.items) place)
    ∙ listed-set strings lists even string s c.put.new.list.items there)
    d
    ∙ ap (λ l. is_in d l || (bytes_eq s string && (d == c.args.device))) (ap (λ (w : WaitingDevices). listed_by w s) c.self.view_is ∙ c.in_ok-place.ensures.same s)
