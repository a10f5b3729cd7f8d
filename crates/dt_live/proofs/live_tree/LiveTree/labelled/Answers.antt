use Rattle.std.proofs.Common.{◌≡◌, Some, sym, ap, ◌∙◌}
use Rattle.std.proofs.lemmas.List.{get_or_default}
use Rattle.dt_live.specs.Index.{row_of}
use Rattle.dt_live.specs.Rows.{path_of, stands, label_at, no_label}
use Rattle.dt_live.proofs.LabelRows.{nobody, lost, kept}
use Rattle.dt_live.proofs.live_tree.LiveTree.labelled.Goals as goal

pub returns-in-None-clause-path : goal.returns-in-None-clause-path
returns-in-None-clause-path g c =
    let d = c.args.self.now in
    nobody (path_of d.nodes.items) (stands d.nodes.items) d.labels.items (row_of d.label_rows) c.requires.sound.labels c.args.label.now (sym c.in-None.ensures)

pub returns-then-is_in_tree-clause-path : goal.returns-then-is_in_tree-clause-path
returns-then-is_in_tree-clause-path g c =
    let d = c.args.self.now in
    let rows = d.labels.items in
    let i = c.in-Some.row in
    let f = c.requires.sound.labels.right c.args.label.now i (sym c.in-Some.ensures) in
    let was : c.index.result.now ≡ label_at rows i = c.index.ensures ∙ get_or_default rows i c.index.result.now no_label f.0 in
    kept (path_of d.nodes.items) (stands d.nodes.items) rows (row_of d.label_rows) c.requires.sound.labels c.args.label.now i (sym c.in-Some.ensures)
    (ap (λ x. stands d.nodes.items x.node) (sym was) ∙ sym c.is_in_tree.ensures ∙ c.if-is_in_tree.true)
    ∙ ap (λ x. Some (path_of d.nodes.items x.node)) (sym was)

pub returns-then-is_in_tree-clause-there : goal.returns-then-is_in_tree-clause-there
returns-then-is_in_tree-clause-there g c = sym c.is_in_tree.ensures ∙ c.if-is_in_tree.true

pub returns-else-is_in_tree-clause-path : goal.returns-else-is_in_tree-clause-path
returns-else-is_in_tree-clause-path g c =
    let d = c.args.self.now in
    let rows = d.labels.items in
    let i = c.in-Some.row in
    let f = c.requires.sound.labels.right c.args.label.now i (sym c.in-Some.ensures) in
    let was : c.index.result.now ≡ label_at rows i = c.index.ensures ∙ get_or_default rows i c.index.result.now no_label f.0 in
    lost (path_of d.nodes.items) (stands d.nodes.items) rows (row_of d.label_rows) c.requires.sound.labels c.args.label.now i (sym c.in-Some.ensures)
    (ap (λ x. stands d.nodes.items x.node) (sym was) ∙ sym c.is_in_tree.ensures ∙ c.if-is_in_tree.false)
