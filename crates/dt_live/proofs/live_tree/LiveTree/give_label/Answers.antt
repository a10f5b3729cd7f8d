use Rattle.std.proofs.Common.{◌≡◌, ◌++◌, ◌∷◌, [], List, Ok, Some, length, sym, ap, ◌∙◌, subst, if◌then◌else◌, arith}
use Rattle.dt_live.specs.declared.live_tree.LabelRow.{LabelRow}
use Rattle.dt_live.specs.Index.{row_of, is_key}
use Rattle.dt_live.specs.Rows.{AreTables, state_in}
use Rattle.dt_live.proofs.LabelRows.{label-refused, label-there, label-given, tables-labelled}
use Rattle.dt_live.proofs.live_tree.LiveTree.give_label.Goals as goal

pub returns-then-other-node-clause-refused : goal.returns-then-other-node-clause-refused
returns-then-other-node-clause-refused g c =
    let d = c.args.self.now in
    λ _. label-refused d.nodes.items d.properties.items d.labels.items (row_of d.node_rows) (row_of d.property_rows) (row_of d.label_rows) c.requires.sound
    c.args.label.now c.args.node c.in-Some.other c.requires.stands c.in-Some.ensures.there (λ e. c.if-other-node.true (sym e)) c.in-Some.ensures.path

pub returns-else-other-node-clause-given : goal.returns-else-other-node-clause-given
returns-else-other-node-clause-given g c =
    let d = c.args.self.now in
    label-there d.nodes.items d.properties.items d.labels.items (row_of d.node_rows) (row_of d.property_rows) (row_of d.label_rows) c.requires.sound
    c.args.label.now c.args.node c.in-Some.other (sym c.if-other-node.false) c.in-Some.ensures.path

pub returns-in_ok-insert-in-None-clause-sound : goal.returns-in_ok-insert-in-None-clause-sound
returns-in_ok-insert-in-None-clause-sound g c =
    let d = c.args.self.now in
    let ls = d.labels.items in
    let r : LabelRow = record { label = c.args.label; node = c.args.node } in
    let e : c.push.new.self.items ≡ ls ++ r ∷ [] = c.in_ok-push-in-None.ensures.items in
    let at : c.len-row.result ≡ length ls = omega (arith, c.len-row.ensures) in
    subst (λ (xs : List LabelRow). AreTables d.nodes.items d.properties.items xs (row_of d.node_rows) (row_of d.property_rows) (row_of c.insert.new.self)) (sym e)
    (tables-labelled d.nodes.items d.properties.items ls (row_of d.node_rows) (row_of d.property_rows) (row_of d.label_rows) c.requires.sound r (row_of c.insert.new.self) c.requires.known
    c.in-None.ensures.path
    (λ n k. c.in_ok-insert-in-None.ensures.rows n k ∙ ap (λ m. if is_key 0 c.args.label.now n k then Some m else row_of d.label_rows n k) at))

pub returns-in_ok-insert-in-None-clause-given : goal.returns-in_ok-insert-in-None-clause-given
returns-in_ok-insert-in-None-clause-given g c =
    let d = c.args.self.now in
    let r : LabelRow = record { label = c.args.label; node = c.args.node } in
    label-given d.nodes.items d.properties.items d.labels.items (row_of d.node_rows) (row_of d.property_rows) (row_of d.label_rows) c.requires.sound r c.requires.stands c.in-None.ensures.path
    ∙ ap (λ (xs : List LabelRow). Ok (state_in d.nodes.items d.properties.items xs)) (sym c.in_ok-push-in-None.ensures.items)
