use Rattle.std.proofs.Common.{◌≡◌, ◌<◌, true, false, length, ap, sym, ◌∙◌, arith, get_or, set}
use Rattle.std.specs.Prelude.{is_some}
use Rattle.std.proofs.lemmas.List.{length-map}
use Rattle.bus_core.specs.RefinementSet.{place_of}
use Rattle.bus_core.proofs.SetLemmas.{insert-placed, insert-view, insert-room, view-at, set-said}
use Rattle.bus_core.proofs.device_set.DeviceSet.insert.Goals as goal

pub returns-then-contains : goal.returns-then-contains
returns-then-contains c = set-said c.args.self.now c.args.device true (sym c.contains.ensures ∙ c.if-contains.true)

pub push_in_room-requires : goal.push_in_room-requires
push_in_room-requires c =
    let within : c.args.device < length c.self.inside.places.items = omega (arith, c.requires, ap length c.self.view_is, length-map c.self.inside.places.items is_some)
    in let fresh : is_some (place_of c.self.inside.places.items c.args.device) ≡ false =
    sym (view-at c.self.inside.places.items c.args.device) ∙ ap (λ x. get_or x c.args.device false) c.self.view_is ∙ sym c.contains.ensures ∙ c.if-contains.false
    in omega (arith, insert-room c.self.inside.members.items c.self.inside.places.items c.args.device _ within fresh c.self.invariant, c.self.inside.members.ok.0)

pub invariant_of-self : goal.invariant_of-self
invariant_of-self c =
    let within : c.args.device < length c.self.inside.places.items = omega (arith, c.requires, ap length c.self.view_is, length-map c.self.inside.places.items is_some)
    in let fresh : is_some (place_of c.self.inside.places.items c.args.device) ≡ false =
    sym (view-at c.self.inside.places.items c.args.device) ∙ ap (λ x. get_or x c.args.device false) c.self.view_is ∙ sym c.contains.ensures ∙ c.if-contains.false
    in insert-placed c.self.inside.members.items c.push_in_room.new.list.items c.self.inside.places.items c.args.device c.index.result c.len.result _ _
    c.index.ensures (c.len.ensures ∙ c.self.inside.members.ok.0) c.push_in_room.ensures.items within fresh c.push_in_room.ensures.room c.self.invariant

pub returns : goal.returns
returns c =
    insert-view c.self.inside.places.items c.args.device c.index.result c.len.result c.index.ensures ∙ ap (λ x. set x c.args.device true) c.self.view_is
