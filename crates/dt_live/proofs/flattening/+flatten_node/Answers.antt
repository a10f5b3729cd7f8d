use Rattle.std.proofs.Common.{◌≡◌, ◌+◌, ◌++◌, ◌∷◌, [], drop, sym, ap, ◌∙◌}
use Rattle.dt_tree.specs.NodeData.{siblings}
use Rattle.dt_source.specs.TreeMeaning.Edits.{with_node}
use Rattle.dt_live.specs.Rows.{node_path, state_of}
use Rattle.dt_live.specs.Flattened.{lists}
use Rattle.dt_live.specs.Private.Flattening.{with_values, with_siblings, with_tree}
use Rattle.dt_live.proofs.Steps.{all-kept, all-then, node-more, siblings-left, same-path-of, still-known, still-there}
use Rattle.dt_live.proofs.flattening.+flatten_node.Goals as goal

pub loop-child-init : goal.loop-child-init
loop-child-init t c =
    let e = c.in_ok-flatten_properties.ensures in
    let p = node_path c.args.live.now c.args.number in
    record {
      sound = e.sound;
      kept = all-kept c.args.live.now c.flatten_properties.new.live e.kept;
      rows = e.rows;
      labels = e.labels;
      rest =
          ap (λ f. with_siblings p f (lists c.flatten_properties.new.live)) c.children-child-items.ensures.nodes
          ∙ ap (with_siblings p c.args.node.now.children) (e.lists ∙ ap (λ ps. with_values p ps (lists c.args.live.now)) c.properties.ensures);
    }

pub define_child-requires-clause-known : goal.define_child-requires-clause-known
define_child-requires-clause-known t c =
    still-known c.args.live.now c.loop-child.live c.loop-child.invariant.kept c.args.number c.requires.known

pub define_child-requires-clause-stands : goal.define_child-requires-clause-stands
define_child-requires-clause-stands t c =
    still-there c.args.live.now c.loop-child.live c.loop-child.invariant.kept c.args.number c.requires.known c.requires.stands

pub loop-child-preserved : goal.loop-child-preserved
loop-child-preserved t c =
    let i = c.loop-child.invariant in
    let old = c.args.live.now in
    let before = c.loop-child.live in
    let one = c.define_child.new.self in
    let d = c.in_ok-below.ensures in
    let e = c.in_ok-flatten_node.ensures in
    let b = c.child-item.result in
    let items = c.children-child-items.result.now in
    let at = c.loop-child.child-index in
    let p = node_path old c.args.number in
    let same = same-path-of old before i.kept c.args.number c.requires.known in
    let q = p ++ b.name ∷ [] in
    let path : node_path before c.args.number ++ c.name_bytes.result.now ∷ [] ≡ q =
    ap (λ r. r ++ c.name_bytes.result.now ∷ []) same ∙ ap (λ n. p ++ n ∷ []) c.name_bytes.ensures in
    record {
      sound = e.sound;
      kept = all-then old before c.flatten_node.new.live i.kept (all-then before one c.flatten_node.new.live d.kept e.kept);
      rows = λ all. e.rows (d.rows (i.rows all));
      labels = e.labels ∙ ap (λ s. s.labels) d.state ∙ i.labels;
      rest =
          ap (with_siblings p (siblings (drop (at + 1) items)))
          (e.lists ∙ ap (λ r. with_tree r b (lists one)) (d.made ∙ path)
          ∙ ap (with_tree q b) (node-more before one q (d.state ∙ ap (λ r. with_node r (state_of before)) path)))
          ∙ sym (siblings-left p items at b (lists before) c.loop-child-test.true c.child-item.is)
          ∙ i.rest;
    }
