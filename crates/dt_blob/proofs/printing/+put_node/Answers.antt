use Rattle.std.proofs.Common.{rules, ◌+◌, ◌++◌, ℕ, List, drop, ap, sym, subst, ◌∙◌, append_assoc}
use Rattle.std.proofs.lemmas.List.{drop_all}
use Rattle.dt_tree.specs.NodeData.{siblings}
use Rattle.dt_tree.specs.declared.property.Property.{Property}
use Rattle.dt_blob.specs.Steps.Printed.{Prints}
use Rattle.dt_blob.specs.SourceText.{begin_line, property_lines, sibling_lines, end_line, node_lines}
use Rattle.dt_blob.proofs.Lines.{part-over, both-parts, next-lines}
use Rattle.dt_blob.proofs.printing.+put_node.Goals as goal

pub returns-in_err-put_begin : goal.returns-in_err-put_begin
returns-in_err-put_begin t c =
    let node = c.args.node.now in
    let rest = property_lines (c.args.depth + 1) node.properties ++ (sibling_lines (c.args.depth + 1) node.children ++ end_line c.args.depth) in
    part-over c.from_residual.result _ _ (c.args.out.now.items ++ begin_line c.args.depth c.args.name.now) rest (c.args.out.now.items ++ node_lines c.args.depth c.args.name.now node)
    c.from_residual.ensures.1 c.in_err-put_begin.ensures (append_assoc c.args.out.now.items (begin_line c.args.depth c.args.name.now) rest)

pub returns-in_err-put_properties : goal.returns-in_err-put_properties
returns-in_err-put_properties t c =
    let node = c.args.node.now in
    let begun = begin_line c.args.depth c.args.name.now in
    let rest = sibling_lines (c.args.depth + 1) node.children ++ end_line c.args.depth in
    part-over c.from_residual-in_err-put_properties.result _ _ (c.put_begin.new.out.items ++ property_lines (c.args.depth + 1) c.properties.result.now) rest (c.args.out.now.items ++ node_lines c.args.depth c.args.name.now node)
    c.from_residual-in_err-put_properties.ensures.1 c.in_err-put_properties.ensures
    (both-parts c.args.out.now.items c.put_begin.new.out.items begun (property_lines (c.args.depth + 1) c.properties.result.now) rest c.in_ok-put_begin.ensures.0
    ∙ ap (λ (ps : List Property). c.args.out.now.items ++ (begun ++ (property_lines (c.args.depth + 1) ps ++ rest))) c.properties.ensures)

pub loop-child-init : goal.loop-child-init
loop-child-init t c =
    let node = c.args.node.now in
    let depth = c.args.depth in
    record {
      left = ap (λ (x : List ℕ). x ++ (sibling_lines (depth + 1) (siblings c.children-child-items.result.now) ++ end_line depth)) c.in_ok-put_properties.ensures.0
          ∙ both-parts c.args.out.now.items c.put_begin.new.out.items (begin_line depth c.args.name.now) (property_lines (depth + 1) c.properties.result.now) (sibling_lines (depth + 1) (siblings c.children-child-items.result.now) ++ end_line depth) c.in_ok-put_begin.ensures.0
          ∙ ap (λ (ps : List Property). c.args.out.now.items ++ (begin_line depth c.args.name.now ++ (property_lines (depth + 1) ps ++ (sibling_lines (depth + 1) (siblings c.children-child-items.result.now) ++ end_line depth)))) c.properties.ensures
          ∙ ap (λ f. c.args.out.now.items ++ (begin_line depth c.args.name.now ++ (property_lines (depth + 1) node.properties ++ (sibling_lines (depth + 1) f ++ end_line depth)))) c.children-child-items.ensures.nodes;
      fits = rw c.in_ok-put_properties.ensures.0 c.in_ok-put_properties.ensures.1;
    }

pub returns-in_err-put_node : goal.returns-in_err-put_node
returns-in_err-put_node t c =
    part-over c.from_residual-in_err-put_node.result _ _ (c.loop-child.out.items ++ node_lines (c.args.depth + 1) c.name_bytes.result.now c.child-item.result) (sibling_lines (c.args.depth + 1) (siblings (drop (c.loop-child.child-index + 1) c.children-child-items.result.now)) ++ end_line c.args.depth) (c.args.out.now.items ++ node_lines c.args.depth c.args.name.now c.args.node.now)
    c.from_residual-in_err-put_node.ensures.1 c.in_err-put_node.ensures
    (next-lines c.loop-child.out.items c.name_bytes.result.now _ (end_line c.args.depth) (c.args.depth + 1) c.children-child-items.result.now c.loop-child.child-index c.child-item.result c.loop-child-test.true c.child-item.is c.name_bytes.ensures c.loop-child.invariant.left)

pub loop-child-preserved : goal.loop-child-preserved
loop-child-preserved t c = record {
  left = ap (λ xs. xs ++ (sibling_lines (c.args.depth + 1) (siblings (drop (c.loop-child.child-index + 1) c.children-child-items.result.now)) ++ end_line c.args.depth)) c.in_ok-put_node.ensures.0
      ∙ next-lines c.loop-child.out.items c.name_bytes.result.now _ (end_line c.args.depth) (c.args.depth + 1) c.children-child-items.result.now c.loop-child.child-index c.child-item.result c.loop-child-test.true c.child-item.is c.name_bytes.ensures c.loop-child.invariant.left;
  fits = rw c.in_ok-put_node.ensures.0 c.in_ok-put_node.ensures.1;
}

pub returns : goal.returns
returns t c =
    let none = ap (λ bs. c.loop-child.out.items ++ (sibling_lines (c.args.depth + 1) (siblings bs) ++ end_line c.args.depth)) (drop_all c.loop-child.child-index c.children-child-items.result.now c.loop-child-test.false) in
    subst (λ (whole : List ℕ). Prints c.put_end.result c.put_end.new.out.items whole) (sym none ∙ c.loop-child.invariant.left) c.put_end.ensures

pub put_properties-requires : goal.put_properties-requires
put_properties-requires t c = rw c.in_ok-put_begin.ensures.0 c.in_ok-put_begin.ensures.1

pub put_node-requires : goal.put_node-requires
put_node-requires t c = (search rules, c.loop-child.invariant.fits)

pub put_end-requires : goal.put_end-requires
put_end-requires t c = c.loop-child.invariant.fits
