use Rattle.std.proofs.Common.{◌≡◌, true, false, length, Some, None, refl, sym, ap, ◌∙◌, arith}
use Rattle.std.proofs.lemmas.List.{get_or_default}
use Rattle.dt_source.specs.TreeMeaning.Edits.{with_property}
use Rattle.dt_live.specs.Rows.{state_of}
use Rattle.dt_live.specs.Rows as live
use Rattle.dt_live.specs.Placed.Rows.{is_made, no_place, place_at}
use Rattle.dt_live.specs.Placed.Shown.{number_at}
use Rattle.dt_live.specs.Placed.Tables.{rows_in}
use Rattle.dt_live.proofs.PlacedLemmas.NodesMarked.{known-number}
use Rattle.dt_live.proofs.PlacedLemmas.LabelsShown.{label-put, label-skipped, not-made, owner-away, row-there}
use Rattle.dt_live.proofs.placed.placed_tree.PlacedTree.show_label.Goals as goal

pub is_made-requires : goal.is_made-requires
is_made-requires g c =
    let d = c.args.self.now in
    let rows = rows_in d.labels in
    let was : c.index.result.now ≡ place_at rows c.args.row = c.index.ensures ∙ get_or_default rows c.args.row c.index.result.now no_place c.requires.known in
    omega (arith, ap (λ x. x.owner) was, known-number d c.requires.sound c.args.shown.now c.requires.shown.shown (place_at rows c.args.row).owner (c.requires.sound.tables.label_owners c.args.row), c.requires.shown.shown.numbered.count, ap length c.as_slice.ensures.value)

pub returns-then-not-is_made : goal.returns-then-not-is_made
returns-then-not-is_made g c =
    let d = c.args.self.now in
    let rows = rows_in d.labels in
    let was : c.index.result.now ≡ place_at rows c.args.row = c.index.ensures ∙ get_or_default rows c.args.row c.index.result.now no_place c.requires.known in
    let gone : is_made (rows_in d.nodes) (place_at rows c.args.row) ≡ false = ap (λ x. is_made (rows_in d.nodes) x) (sym was) ∙ ap (λ ns. is_made ns c.index.result.now) (sym c.as_slice.ensures.value) ∙ sym c.is_made.ensures ∙ c.if-not-is_made.true in
    label-skipped d c.requires.sound c.args.row c.requires.known c.args.shown.now c.requires.shown (not-made d c.requires.sound c.args.row c.requires.known gone)

pub index-requires-2 : goal.index-requires-2
index-requires-2 g c =
    let d = c.args.self.now in
    let rows = rows_in d.labels in
    let was : c.index.result.now ≡ place_at rows c.args.row = c.index.ensures ∙ get_or_default rows c.args.row c.index.result.now no_place c.requires.known in
    omega (arith, ap (λ x. x.owner) was, known-number d c.requires.sound c.args.shown.now c.requires.shown.shown (place_at rows c.args.row).owner (c.requires.sound.tables.label_owners c.args.row), c.args.shown.now.numbers.ok)

pub set_property-requires-clause-known : goal.set_property-requires-clause-known
set_property-requires-clause-known g c =
    let d = c.args.self.now in
    let rows = rows_in d.labels in
    let numbers = c.args.shown.now.numbers.items in
    let was : c.index.result.now ≡ place_at rows c.args.row = c.index.ensures ∙ get_or_default rows c.args.row c.index.result.now no_place c.requires.known in
    let owner = (place_at rows c.args.row).owner in
    let within = known-number d c.requires.sound c.args.shown.now c.requires.shown.shown owner (c.requires.sound.tables.label_owners c.args.row) in
    let at : number_at numbers owner ≡ Some c.in-Some.node =
    ap (λ k. number_at numbers k) (sym (ap (λ x. x.owner) was)) ∙ sym (c.index-2.ensures ∙ get_or_default numbers c.index.result.now.owner c.index-2.result.now None (omega (arith, within, ap (λ x. x.owner) was))) ∙ c.in-Some.is in
    (c.requires.shown.shown.numbered.here owner c.in-Some.node at).node

pub set_property-requires-clause-stands : goal.set_property-requires-clause-stands
set_property-requires-clause-stands g c =
    let d = c.args.self.now in
    let rows = rows_in d.labels in
    let numbers = c.args.shown.now.numbers.items in
    let was : c.index.result.now ≡ place_at rows c.args.row = c.index.ensures ∙ get_or_default rows c.args.row c.index.result.now no_place c.requires.known in
    let owner = (place_at rows c.args.row).owner in
    let within = known-number d c.requires.sound c.args.shown.now c.requires.shown.shown owner (c.requires.sound.tables.label_owners c.args.row) in
    let at : number_at numbers owner ≡ Some c.in-Some.node =
    ap (λ k. number_at numbers k) (sym (ap (λ x. x.owner) was)) ∙ sym (c.index-2.ensures ∙ get_or_default numbers c.index.result.now.owner c.index-2.result.now None (omega (arith, within, ap (λ x. x.owner) was))) ∙ c.in-Some.is in
    (c.requires.shown.shown.numbered.here owner c.in-Some.node at).there

pub returns-in_ok-set_property-in-Some : goal.returns-in_ok-set_property-in-Some
returns-in_ok-set_property-in-Some g c =
    let d = c.args.self.now in
    let rows = rows_in d.labels in
    let old = c.args.shown.now in
    let numbers = old.numbers.items in
    let was : c.index.result.now ≡ place_at rows c.args.row = c.index.ensures ∙ get_or_default rows c.args.row c.index.result.now no_place c.requires.known in
    let owner = (place_at rows c.args.row).owner in
    let within = known-number d c.requires.sound old c.requires.shown.shown owner (c.requires.sound.tables.label_owners c.args.row) in
    let m = c.in-Some.node in
    let at : number_at numbers owner ≡ Some m =
    ap (λ k. number_at numbers k) (sym (ap (λ x. x.owner) was)) ∙ sym (c.index-2.ensures ∙ get_or_default numbers c.index.result.now.owner c.index-2.result.now None (omega (arith, within, ap (λ x. x.owner) was))) ∙ c.in-Some.is in
    let h = c.requires.shown.shown.numbered.here owner m at in
    let made : is_made (rows_in d.nodes) (place_at rows c.args.row) ≡ true = ap (λ x. is_made (rows_in d.nodes) x) (sym was) ∙ ap (λ ns. is_made ns c.index.result.now) (sym c.as_slice.ensures.value) ∙ sym c.is_made.ensures ∙ c.if-not-is_made.false in
    let e = c.in_ok-set_property-in-Some.ensures in
    label-put d c.requires.sound c.args.row c.requires.known (row-there d c.requires.sound c.args.row c.requires.known made h.stands)
    old (record { live = c.set_property.new.self; numbers = old.numbers }) m c.requires.shown h e.sound e.kept refl
    (e.state ∙ ap (λ k. with_property (live.node_path old.live m) k c.args.row (state_of old.live)) (ap (λ x. x.name.now) was))

pub returns-in-None : goal.returns-in-None
returns-in-None g c =
    let d = c.args.self.now in
    let rows = rows_in d.labels in
    let old = c.args.shown.now in
    let numbers = old.numbers.items in
    let was : c.index.result.now ≡ place_at rows c.args.row = c.index.ensures ∙ get_or_default rows c.args.row c.index.result.now no_place c.requires.known in
    let owner = (place_at rows c.args.row).owner in
    let within = known-number d c.requires.sound old c.requires.shown.shown owner (c.requires.sound.tables.label_owners c.args.row) in
    let at : number_at numbers owner ≡ None =
    ap (λ k. number_at numbers k) (sym (ap (λ x. x.owner) was)) ∙ sym (c.index-2.ensures ∙ get_or_default numbers c.index.result.now.owner c.index-2.result.now None (omega (arith, within, ap (λ x. x.owner) was))) ∙ c.in-None.is in
    label-skipped d c.requires.sound c.args.row c.requires.known old c.requires.shown
    (owner-away d c.requires.sound c.args.row c.requires.known (c.requires.shown.shown.numbered.gone owner (omega (arith, within, c.requires.shown.shown.numbered.count)) at))
