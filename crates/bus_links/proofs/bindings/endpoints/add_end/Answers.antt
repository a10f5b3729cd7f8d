-- The list of the endpoint's device gets its place.
use Rattle.std.proofs.Common.{◌≡◌, ◌∙◌, ap, sym, ◌<◌, [], ◌∷◌, ◌++◌, length, get_or, set, map, arith}
use Rattle.std.proofs.lemmas.List.{map-set, get_or-map, length-map}
use Rattle.bus_links.proofs.BindingsLemmas.EndsLemmas.{gains-none, gains-past, gains-one}
use Rattle.bus_links.proofs.bindings.endpoints.add_end.Goals as goal

pub returns-in_default : goal.returns-in_default
returns-in_default c =
    gains-none c.args.nodes.now c.args.place c.args.node.now (map (λ list. list.items) c.args.lists.now.items) (sym c.end_device.ensures ∙ c.in_default.is)

pub returns-then-device-len : goal.returns-then-device-len
returns-then-device-len c =
    let lists = c.args.lists.now.items in
    gains-past c.args.nodes.now c.args.place c.args.node.now (map (λ list. list.items) lists) c.in-Some.device (sym c.end_device.ensures ∙ c.in-Some.is)
    (omega (arith, c.if-device-len.true, length-map lists (λ list. list.items)))

pub returns : goal.returns
returns c =
    let lists = c.args.lists.now.items in
    let kept = map (λ list. list.items) lists in
    let device = c.in-Some.device in
    let here : device < length lists = omega (arith, c.if-device-len.false) in
    let known : device < length kept = omega (arith, here, length-map lists (λ list. list.items)) in
    let before : c.index_mut.result.now.items ≡ get_or kept device [] =
    ap (λ list. list.items) c.index_mut.ensures.value ∙ sym (get_or-map (λ list. list.items) lists device _ [] here) in
    let list_is : c.push.new.self.items ≡ get_or kept device [] ++ c.args.place ∷ [] = c.in_ok-push.ensures.items ∙ ap (λ l. l ++ c.args.place ∷ []) before in
    gains-one c.args.nodes.now c.args.place c.args.node.now kept _ device (sym c.end_device.ensures ∙ c.in-Some.is) known
    (map-set (λ list. list.items) lists device c.push.new.self ∙ ap (set kept device) list_is)
