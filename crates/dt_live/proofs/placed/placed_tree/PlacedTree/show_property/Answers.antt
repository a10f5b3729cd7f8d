use Rattle.std.proofs.Common.{◌≡◌, Some, None, refl, sym, ap, ◌∙◌, arith}
use Rattle.std.proofs.lemmas.List.{get_or_default}
use Rattle.dt_source.specs.TreeMeaning.Edits.{with_property}
use Rattle.dt_live.specs.Rows.{state_of}
use Rattle.dt_live.specs.Rows as live
use Rattle.dt_live.specs.Placed.Rows.{no_place, place_at}
use Rattle.dt_live.specs.Placed.Shown.{number_at}
use Rattle.dt_live.specs.Placed.Tables.{rows_in}
use Rattle.dt_live.proofs.PlacedLemmas.NodesMarked.{known-number}
use Rattle.dt_live.proofs.PlacedLemmas.PropertiesShown.{owner-away, property-put, property-skipped, row-there, value-away, value-some}
use Rattle.dt_live.proofs.placed.placed_tree.PlacedTree.show_property.Goals as goal

pub index-requires-in-Some : goal.index-requires-in-Some
index-requires-in-Some g c =
    let d = c.args.self.now in
    let rows = rows_in d.properties in
    let was : c.index.result.now ≡ place_at rows c.args.row = c.index.ensures ∙ get_or_default rows c.args.row c.index.result.now no_place c.requires.known in
    omega (arith, ap (λ x. x.owner) was, known-number d c.requires.sound c.args.shown.now c.requires.shown.shown (place_at rows c.args.row).owner (c.requires.sound.tables.property_owners c.args.row), c.args.shown.now.numbers.ok)

pub set_property-requires-clause-known : goal.set_property-requires-clause-known
set_property-requires-clause-known g c =
    let d = c.args.self.now in
    let rows = rows_in d.properties in
    let numbers = c.args.shown.now.numbers.items in
    let was : c.index.result.now ≡ place_at rows c.args.row = c.index.ensures ∙ get_or_default rows c.args.row c.index.result.now no_place c.requires.known in
    let owner = (place_at rows c.args.row).owner in
    let within = known-number d c.requires.sound c.args.shown.now c.requires.shown.shown owner (c.requires.sound.tables.property_owners c.args.row) in
    let at : number_at numbers owner ≡ Some c.in-Some-index.node =
    ap (λ k. number_at numbers k) (sym (ap (λ x. x.owner) was)) ∙ sym (c.index-in-Some.ensures ∙ get_or_default numbers c.index.result.now.owner c.index-in-Some.result.now None (omega (arith, within, ap (λ x. x.owner) was))) ∙ c.in-Some-index.is in
    (c.requires.shown.shown.numbered.here owner c.in-Some-index.node at).node

pub set_property-requires-clause-stands : goal.set_property-requires-clause-stands
set_property-requires-clause-stands g c =
    let d = c.args.self.now in
    let rows = rows_in d.properties in
    let numbers = c.args.shown.now.numbers.items in
    let was : c.index.result.now ≡ place_at rows c.args.row = c.index.ensures ∙ get_or_default rows c.args.row c.index.result.now no_place c.requires.known in
    let owner = (place_at rows c.args.row).owner in
    let within = known-number d c.requires.sound c.args.shown.now c.requires.shown.shown owner (c.requires.sound.tables.property_owners c.args.row) in
    let at : number_at numbers owner ≡ Some c.in-Some-index.node =
    ap (λ k. number_at numbers k) (sym (ap (λ x. x.owner) was)) ∙ sym (c.index-in-Some.ensures ∙ get_or_default numbers c.index.result.now.owner c.index-in-Some.result.now None (omega (arith, within, ap (λ x. x.owner) was))) ∙ c.in-Some-index.is in
    (c.requires.shown.shown.numbered.here owner c.in-Some-index.node at).there

pub returns-in_ok-set_property-in-Some-index : goal.returns-in_ok-set_property-in-Some-index
returns-in_ok-set_property-in-Some-index g c =
    let d = c.args.self.now in
    let rows = rows_in d.properties in
    let old = c.args.shown.now in
    let numbers = old.numbers.items in
    let was : c.index.result.now ≡ place_at rows c.args.row = c.index.ensures ∙ get_or_default rows c.args.row c.index.result.now no_place c.requires.known in
    let was2 : c.index-2.result.now ≡ place_at rows c.args.row = c.index-2.ensures ∙ get_or_default rows c.args.row c.index-2.result.now no_place c.requires.known in
    let owner = (place_at rows c.args.row).owner in
    let within = known-number d c.requires.sound old c.requires.shown.shown owner (c.requires.sound.tables.property_owners c.args.row) in
    let m = c.in-Some-index.node in
    let at : number_at numbers owner ≡ Some m =
    ap (λ k. number_at numbers k) (sym (ap (λ x. x.owner) was)) ∙ sym (c.index-in-Some.ensures ∙ get_or_default numbers c.index.result.now.owner c.index-in-Some.result.now None (omega (arith, within, ap (λ x. x.owner) was))) ∙ c.in-Some-index.is in
    let h = c.requires.shown.shown.numbered.here owner m at in
    let v = value-some d c.requires.sound c.args.row c.requires.known c.in-Some.value (sym c.value_at.ensures ∙ c.in-Some.is) in
    let e = c.in_ok-set_property-in-Some-index.ensures in
    property-put d c.requires.sound c.args.row c.requires.known (row-there d c.requires.sound c.args.row c.requires.known v.0 h.stands)
    old (record { live = c.set_property.new.self; numbers = old.numbers }) m c.in-Some.value c.requires.shown v.1 h e.sound e.kept refl
    (e.state ∙ ap (λ k. with_property (live.node_path old.live m) k c.in-Some.value (state_of old.live)) (ap (λ x. x.name.now) was2))

pub returns-in-None-index : goal.returns-in-None-index
returns-in-None-index g c =
    let d = c.args.self.now in
    let rows = rows_in d.properties in
    let old = c.args.shown.now in
    let numbers = old.numbers.items in
    let was : c.index.result.now ≡ place_at rows c.args.row = c.index.ensures ∙ get_or_default rows c.args.row c.index.result.now no_place c.requires.known in
    let owner = (place_at rows c.args.row).owner in
    let within = known-number d c.requires.sound old c.requires.shown.shown owner (c.requires.sound.tables.property_owners c.args.row) in
    let at : number_at numbers owner ≡ None =
    ap (λ k. number_at numbers k) (sym (ap (λ x. x.owner) was)) ∙ sym (c.index-in-Some.ensures ∙ get_or_default numbers c.index.result.now.owner c.index-in-Some.result.now None (omega (arith, within, ap (λ x. x.owner) was))) ∙ c.in-None-index.is in
    property-skipped d c.requires.sound c.args.row c.requires.known old c.requires.shown
    (owner-away d c.requires.sound c.args.row c.requires.known (c.requires.shown.shown.numbered.gone owner (omega (arith, within, c.requires.shown.shown.numbered.count)) at))

pub returns-in-None : goal.returns-in-None
returns-in-None g c =
    property-skipped c.args.self.now c.requires.sound c.args.row c.requires.known c.args.shown.now c.requires.shown
    (value-away c.args.self.now c.requires.sound c.args.row c.requires.known (sym c.value_at.ensures ∙ c.in-None.is))
