use Rattle.std.proofs.Common.{◌≡◌, ◌<◌, ◌≤◌, ◌-◌, ◌+◌, ◌||◌, ℕ, suc, List, is_some, length, get_or, slice_index_or, map, refl, sym, ap, ◌∙◌, arith}
use Rattle.std.specs.Prelude.{nat_lt}
use Rattle.std.specs.List.{list_any}
use Rattle.dt_live.specs.declared.live_tree.NodeRow.{NodeRow}
use Rattle.dt_live.specs.Rows.{IsGrown, node_path}
use Rattle.dt_live.proofs.Keeping.{kept-itself, kept-then}
use Rattle.dt_source.specs.TreeMeaning.Resolved.{is_too_deep}
use Rattle.std.proofs.lemmas.List.{length-set}
use Rattle.dt_live.specs.Flattened.{lists, plain}
use Rattle.dt_source.specs.OverlayMeaning.Applied.{moved, with_nodes}
use Rattle.dt_overlay.specs.Private.Merging.{IsInside, IsPart}
use Rattle.dt_overlay.proofs.PartLists.{nodes-start, nodes-end}
use Rattle.dt_live.proofs.BlankRows.{blank_row}
use Rattle.dt_overlay.proofs.PartSteps.{deep-more, first-base_nodes, inside-more, more-base_nodes, new-base_node, or-false, parent-base_node, rest-more, row-is}
use Rattle.dt_overlay.proofs.part.define_nodes.Goals as goal

-- what was noted up to a row whose parent stands before the body is the part
ended : (rows given : List NodeRow) (b n : ℕ) → given ≡ rows → b < n → n ≤ suc (length rows) → IsInside rows b n
    → (get_or given (n - 1) blank_row).parent < b → IsPart rows b n
ended rows given b n same more known inside before = record {
  more = more;
  known = known;
  inside = inside;
  behind = λ k at lt. omega (arith, before, ap (λ x. x.parent) (row-is given rows n k blank_row same at lt));
}

-- a row behind the body has its parent among the rows
parent-known : (rows given : List NodeRow) (b n : ℕ) → given ≡ rows → IsGrown rows → b < n → n < length given + 1
    → (get_or given (n - 1) blank_row).parent < length rows
parent-known rows given b n same grown low within =
    let at : n ≡ suc (n - 1) = omega (arith, low) in
    let lt : n - 1 < length rows = omega (arith, at, within, ap length same) in
    omega (arith, lt, ap (λ x. x.parent) (row-is given rows n (n - 1) blank_row same at lt), grown (n - 1))

pub loop-node-init : goal.loop-node-init
loop-node-init c =
    let over = c.args.patched.now.live in
    let d = c.args.live.now in
    let b = c.args.body in
    let t = node_path d (slice_index_or c.args.base_nodes.now b 0) in
    let start = nodes-start over c.check.ensures.whole c.check.ensures.ordered b c.requires.body c.requires.top t in
    record {
      low = omega arith;
      high = let h = c.requires.body in omega (arith, h, ap length c.nodes-nodes.ensures);
      sound = c.requires.sound;
      kept = λ p. kept-itself p d.nodes.items;
      rows = λ all. all;
      labels = refl;
      room = refl;
      inside = λ k from lt. absurd (omega (arith, from, lt));
      base_nodes = first-base_nodes over d b c.args.base_nodes.now c.requires.top c.requires.target c.requires.stands;
      rest = ap (λ ps. with_nodes ps (lists d).nodes) (sym start);
      properties = refl;
      deep = ap (list_any is_too_deep) (sym start);
    }

pub returns-then-row-body-clause-nodes : goal.returns-then-row-body-clause-nodes
returns-then-row-body-clause-nodes c =
    let i = c.loop-node.invariant in
    let over = c.args.patched.now.live in
    let b = c.args.body in
    let n = c.loop-node.node in
    let t = node_path c.args.live.now (slice_index_or c.args.base_nodes.now b 0) in
    let same = c.nodes-nodes.ensures in
    let known : n ≤ suc (length over.nodes.items) = omega (arith, c.loop-node-test.true, ap length same) in
    let part = ended over.nodes.items c.nodes-nodes.result.now b n same i.low known i.inside c.if-row-body.true in
    ap (λ ps. with_nodes ps (lists c.loop-node.live).nodes) (sym (nodes-end over c.check.ensures.whole c.check.ensures.ordered b c.requires.body c.requires.top t n part)) ∙ i.rest

pub returns-then-row-body-clause-deep : goal.returns-then-row-body-clause-deep
returns-then-row-body-clause-deep c =
    let i = c.loop-node.invariant in
    let over = c.args.patched.now.live in
    let b = c.args.body in
    let n = c.loop-node.node in
    let t = node_path c.args.live.now (slice_index_or c.args.base_nodes.now b 0) in
    let same = c.nodes-nodes.ensures in
    let known : n ≤ suc (length over.nodes.items) = omega (arith, c.loop-node-test.true, ap length same) in
    let part = ended over.nodes.items c.nodes-nodes.result.now b n same i.low known i.inside c.if-row-body.true in
    or-false (is_some c.loop-node.deep)
    ∙ ap (λ ps. is_some c.loop-node.deep || list_any is_too_deep ps) (sym (nodes-end over c.check.ensures.whole c.check.ensures.ordered b c.requires.body c.requires.top t n part)) ∙ i.deep

pub returns-then-row-body-clause-part : goal.returns-then-row-body-clause-part
returns-then-row-body-clause-part c =
    let i = c.loop-node.invariant in
    let rows = c.args.patched.now.live.nodes.items in
    let n = c.loop-node.node in
    let same = c.nodes-nodes.ensures in
    let known : n ≤ suc (length rows) = omega (arith, c.loop-node-test.true, ap length same) in
    ended rows c.nodes-nodes.result.now c.args.body n same i.low known i.inside c.if-row-body.true

pub returns-clause-part : goal.returns-clause-part
returns-clause-part c =
    let i = c.loop-node.invariant in
    record {
      more = omega (arith, c.requires.body, ap length c.nodes-nodes.ensures);
      known = omega (arith, ap length c.nodes-nodes.ensures);
      inside = λ k from lt. i.inside k from (omega (arith, lt, c.loop-node-test.false));
      behind = λ k at lt. absurd (omega (arith, at, lt, ap length c.nodes-nodes.ensures));
    }

pub bounds-base_nodes-row : goal.bounds-base_nodes-row
bounds-base_nodes-row c =
    let i = c.loop-node.invariant in
    let known = parent-known c.args.patched.now.live.nodes.items c.nodes-nodes.result.now c.args.body c.loop-node.node
    c.nodes-nodes.ensures c.check.ensures.whole.sound.grown i.low c.loop-node-test.true in
    omega (arith, known, i.room, c.requires.room)

pub offset_bounds-base_nodes-row : goal.offset_bounds-base_nodes-row
offset_bounds-base_nodes-row c =
    let i = c.loop-node.invariant in
    let known = parent-known c.args.patched.now.live.nodes.items c.nodes-nodes.result.now c.args.body c.loop-node.node
    c.nodes-nodes.ensures c.check.ensures.whole.sound.grown i.low c.loop-node-test.true in
    omega (arith, known, i.room, c.requires.room)

pub define_child-requires-clause-known : goal.define_child-requires-clause-known
define_child-requires-clause-known c =
    let i = c.loop-node.invariant in
    let over = c.args.patched.now.live in
    let n = c.loop-node.node in
    let k = n - 1 in
    let at : n ≡ suc k = omega (arith, i.low) in
    let lt : k < length over.nodes.items = omega (arith, at, c.loop-node-test.true, ap length c.nodes-nodes.ensures) in
    let row = row-is c.nodes-nodes.result.now over.nodes.items n k blank_row c.nodes-nodes.ensures at lt in
    (parent-base_node over c.check.ensures.whole c.check.ensures.ordered c.args.body c.requires.body c.requires.top _ c.loop-node.live c.loop-node.base_nodes n k at (get_or c.nodes-nodes.result.now (n - 1) blank_row) row i.low lt i.inside i.base_nodes (omega (arith, c.if-row-body.false))).known

pub define_child-requires-clause-stands : goal.define_child-requires-clause-stands
define_child-requires-clause-stands c =
    let i = c.loop-node.invariant in
    let over = c.args.patched.now.live in
    let n = c.loop-node.node in
    let k = n - 1 in
    let at : n ≡ suc k = omega (arith, i.low) in
    let lt : k < length over.nodes.items = omega (arith, at, c.loop-node-test.true, ap length c.nodes-nodes.ensures) in
    let row = row-is c.nodes-nodes.result.now over.nodes.items n k blank_row c.nodes-nodes.ensures at lt in
    (parent-base_node over c.check.ensures.whole c.check.ensures.ordered c.args.body c.requires.body c.requires.top _ c.loop-node.live c.loop-node.base_nodes n k at (get_or c.nodes-nodes.result.now (n - 1) blank_row) row i.low lt i.inside i.base_nodes (omega (arith, c.if-row-body.false))).stands

pub loop-node-preserved : goal.loop-node-preserved
loop-node-preserved c =
    let i = c.loop-node.invariant in
    let over = c.args.patched.now.live in
    let b = c.args.body in
    let n = c.loop-node.node in
    let k = n - 1 in
    let t = node_path c.args.live.now (slice_index_or c.args.base_nodes.now b 0) in
    let at : n ≡ suc k = omega (arith, i.low) in
    let lt : k < length over.nodes.items = omega (arith, at, c.loop-node-test.true, ap length c.nodes-nodes.ensures) in
    let row = row-is c.nodes-nodes.result.now over.nodes.items n k blank_row c.nodes-nodes.ensures at lt in
    let low : b ≤ (get_or c.nodes-nodes.result.now (n - 1) blank_row).parent = omega (arith, c.if-row-body.false) in
    let old = c.args.live.now in
    let d = c.loop-node.live in
    let new = c.define_child.new.self in
    let e = c.in_ok-base_node.ensures in
    let base_node = c.in_ok-base_node.base_node in
    let whole = c.check.ensures.whole in
    let ordered = c.check.ensures.ordered in
    let known = c.requires.body in
    let top = c.requires.top in
    let base_nodes = c.loop-node.base_nodes in
    let here = new-base_node over whole ordered b known top t d base_nodes n k at (get_or c.nodes-nodes.result.now (n - 1) blank_row) row i.low lt i.inside i.base_nodes low new base_node e.known e.there e.made in
    let length-here : c.depth.result ≡ length (moved t (node_path over n)) = c.depth.ensures ∙ ap length here.path in
    let noted : is_some c.first_deep-deep.result ≡ (is_some c.loop-node.deep || is_too_deep (moved t (node_path over n))) = c.first_deep-deep.ensures ∙ ap (λ m. is_some c.loop-node.deep || nat_lt 64 m) length-here in
    record {
      low = omega (arith, i.low);
      high = omega (arith, c.loop-node-test.true);
      sound = e.sound;
      kept = λ p. kept-then p old.nodes.items d.nodes.items new.nodes.items (i.kept p) (e.kept p);
      rows = λ all. e.rows (i.rows all);
      labels = ap (λ s. s.labels) e.state ∙ i.labels;
      room = length-set base_nodes n base_node ∙ i.room;
      inside = inside-more over whole ordered b known top t d base_nodes n k at (get_or c.nodes-nodes.result.now (n - 1) blank_row) row i.low lt i.inside i.base_nodes low;
      base_nodes = more-base_nodes over d new t b n base_nodes base_node e.kept i.base_nodes (omega (arith, i.room, c.requires.room, c.loop-node-test.true, ap length c.nodes-nodes.ensures)) here;
      rest = rest-more over whole ordered b known top t d base_nodes n k at (get_or c.nodes-nodes.result.now (n - 1) blank_row) row i.low lt i.inside i.base_nodes low new e.state ∙ i.rest;
      properties = ap (λ s. map plain s.properties) e.state ∙ i.properties;
      deep = deep-more over whole ordered b known top t d base_nodes n k at (get_or c.nodes-nodes.result.now (n - 1) blank_row) row i.low lt i.inside i.base_nodes low (is_some c.loop-node.deep) (is_some c.first_deep-deep.result) noted ∙ i.deep;
    }
