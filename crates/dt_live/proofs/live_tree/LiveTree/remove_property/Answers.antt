use Rattle.std.proofs.Common.{None, if◌then◌else◌, refl, sym, ap, ap₂, ◌∙◌, subst, arith}
use Rattle.std.proofs.lemmas.List.{get_or_default}
use Rattle.dt_live.specs.declared.live_tree.PropertyRow.{PropertyRow}
use Rattle.dt_live.specs.Index.{row_of, is_key}
use Rattle.dt_live.specs.Rows.{Found, AreTables, no_property}
use Rattle.dt_live.proofs.Tables.{forgotten, tables-emptied, state-emptied, state-absent}
use Rattle.dt_live.proofs.live_tree.LiveTree.remove_property.Goals as goal

pub index_mut-requires : goal.index_mut-requires
index_mut-requires g c = omega (arith, (c.requires.sound.properties.right c.args.node c.args.name.now c.in-Some.row (sym c.in-Some.ensures.was)).0)

pub returns-in-Some-clause-sound : goal.returns-in-Some-clause-sound
returns-in-Some-clause-sound g c =
    let d = c.args.self.now in
    let ps = d.properties.items in
    let i = c.in-Some.row in
    let found = row_of d.property_rows in
    let f = c.requires.sound.properties.right c.args.node c.args.name.now i (sym c.in-Some.ensures.was) in
    let r : PropertyRow _ = record { node = c.index_mut.result.now.node; name = c.index_mut.result.now.name; value = None } in
    let was = c.index_mut.ensures.value ∙ get_or_default ps i c.index_mut.result.now no_property f.0 in
    tables-emptied d.nodes.items ps d.labels.items (row_of d.node_rows) found (row_of d.label_rows) c.requires.sound i r (row_of c.forget.new.self) f.0
    (ap (λ x. x.node) was) (ap (λ x. x.name.now) was) f.3 refl
    (λ n k. c.in-Some.ensures.rows n k ∙ ap₂ (λ a b. if is_key a b n k then None else found n k) (sym f.1) (sym f.2))

pub returns-in-Some-clause-state : goal.returns-in-Some-clause-state
returns-in-Some-clause-state g c =
    let d = c.args.self.now in
    let r : PropertyRow _ = record { node = c.index_mut.result.now.node; name = c.index_mut.result.now.name; value = None } in
    state-emptied d.nodes.items d.properties.items d.labels.items (row_of d.node_rows) (row_of d.property_rows) (row_of d.label_rows) c.requires.sound c.in-Some.row r
    c.args.node c.args.name.now c.requires.stands (sym c.in-Some.ensures.was) refl

pub returns-in_default-clause-sound : goal.returns-in_default-clause-sound
returns-in_default-clause-sound g c =
    let d = c.args.self.now in
    let same = forgotten (row_of d.property_rows) (row_of c.forget.new.self) c.args.node c.args.name.now (sym c.in_default.ensures.was) c.in_default.ensures.rows in
    subst (λ (f : Found). AreTables d.nodes.items d.properties.items d.labels.items (row_of d.node_rows) f (row_of d.label_rows)) (sym same) c.requires.sound

pub returns-in_default-clause-state : goal.returns-in_default-clause-state
returns-in_default-clause-state g c =
    let d = c.args.self.now in
    state-absent d.nodes.items d.properties.items d.labels.items (row_of d.node_rows) (row_of d.property_rows) (row_of d.label_rows) c.requires.sound
    c.args.node c.args.name.now c.requires.stands (sym c.in_default.ensures.was)
