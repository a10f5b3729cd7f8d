use Rattle.std.proofs.Common.{◌≡◌, ◌∙◌, ◌++◌, append-nil, get_or, sym, ap}
use Rattle.std.specs.List.{flat_map}
use Rattle.std.proofs.lemmas.List.{get_or_read, take_all}
use Rattle.dt_live.specs.Rows.{no_property, property_at}
use Rattle.dt_live.specs.Private.Walks.{node_property_at, node_property_of}
use Rattle.dt_live.proofs.KidSteps.{flat-more, node_property-none}
use Rattle.dt_live.proofs.preorder.properties.put_node_properties.Goals as goal
use Rattle.dt_live.proofs.preorder.properties.put_node_properties.Goals.{in-Some+in_ok-push, in_default}

pub bounds-rows-place : goal.bounds-rows-place
bounds-rows-place g c = c.requires c.loop-place.place-index 0 c.loop-place-test.true

pub loop-place-preserved : goal.loop-place-preserved
loop-place-preserved g c =
    let rows = c.args.rows.now in
    let i = c.loop-place.place-index in
    let place = get_or c.args.places.now i 0 in
    let row = c.index-rows-place.result in
    let before = c.loop-place.node_properties.items in
    let is : row ≡ property_at rows place = get_or_read rows place row (c.requires i 0 c.loop-place-test.true) c.index-rows-place.is no_property in
    let node_properties : node_property_of row.node row.name row.value ≡ node_property_at rows place = ap (λ x. node_property_of x.node x.name x.value) is in
    let more : before ++ node_property_at rows place ≡ c.args.node_properties.now.items ++ flat_map (node_property_at rows) _ = flat-more (node_property_at rows) c.args.places.now i c.loop-place-test.true c.args.node_properties.now.items before c.loop-place.invariant in
    elim c.match-row.branch [
      | in-Some+in_ok-push w ↦
          ap (λ l. l.items) w.node_properties-is ∙ w.in_ok-push.ensures.items
          ∙ ap (λ ys. before ++ ys) (sym (ap (node_property_of row.node row.name) w.in-Some.is) ∙ node_properties) ∙ more
      | in_default w ↦
          ap (λ l. l.items) w.node_properties-is ∙ sym (append-nil before)
          ∙ ap (λ ys. before ++ ys) (sym (node_property-none row.node row.name row.value w.in_default.not-Some) ∙ node_properties) ∙ more
    ]

pub returns : goal.returns
returns g c = c.loop-place.invariant ∙ ap (λ ns. c.args.node_properties.now.items ++ flat_map (node_property_at c.args.rows.now) ns) (take_all c.loop-place.place-index c.args.places.now c.loop-place-test.false)
