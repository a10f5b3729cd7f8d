use Rattle.std.proofs.Common.{◌≡◌, ◌+◌, ◌-◌, [], ◌<◌, length, None, sym, ap, ◌∙◌, subst, length-append, arith}
use Rattle.dt_live.specs.Rows.{node_path}
use Rattle.dt_live.specs.declared.live_tree.LiveTree.{LiveTree}
use Rattle.dt_live.specs.Flattened.{Lent, lists}
use Rattle.dt_source.specs.OverlayMeaning.Shifted.{fragment_at}
use Rattle.dt_overlay.specs.Private.Fragments.{IsBodyAt}
use Rattle.dt_overlay.specs.Private.SymbolTargets.{IsRowTarget}
use Rattle.dt_overlay.proofs.SymbolRows.{AreLeft, first-more, found-body_node, left-none, left-some, missed-body_node, row-none, target-some}
use Rattle.dt_overlay.proofs.symbol_target.row_targets.Goals as goal
use Rattle.dt_overlay.proofs.symbol_target.row_targets.Goals.{then-is_some+in_ok-push, else-is_some+in_ok-push-2}

pub fragment_body-requires-clause-known : goal.fragment_body-requires-clause-known
fragment_body-requires-clause-known c =
    omega (arith, c.loop-row-test.true, ap length c.nodes-count.ensures, ap (λ (d : LiveTree Lent). length d.nodes.items) c.live.ensures.tree)

pub loop-row-preserved : goal.loop-row-preserved
loop-row-preserved c =
    let s = c.args.patched.now in
    let k = c.loop-row.row in
    let list = c.args.list.now in
    let inv = c.loop-row.invariant in
    let old = c.loop-row.targets.items in
    let new = c.if-is_some.targets.items in
    let lt : k < length s.live.nodes.items = omega (arith, c.loop-row-test.true, ap length c.nodes-count.ensures) in
    let more : (k + 1) + (length s.live.nodes.items - (k + 1)) ≡ length s.live.nodes.items = omega (arith, lt) in
    let body = subst (λ (d : LiveTree Lent). IsBodyAt d k c.fragment_body.result) c.live.ensures.tree c.fragment_body.ensures in
    elim c.if-is_some.branch [
      | then-is_some+in_ok-push w ↦
          let b = found-body_node s.live k (fragment_at (node_path s.live (k + 1)) (lists s.live).nodes ≡ []) c.fragment_body.result (sym c.is_some.ensures ∙ w.if-is_some.true) body in
          let made = ap (λ v. v.items) w.targets-is ∙ w.in_ok-push.ensures.items in
          record {
            count = ap length made ∙ length-append old _ ∙ omega (arith, inv.count);
            few = omega (arith, inv.few, w.used-is);
            left = λ base are. subst (AreLeft base s list (k + 1)) (sym w.used-is) (left-some base s k list c.loop-row.used b.0 b.1 (inv.left base are));
            first = λ base are. first-more base s old new k w.target_of.result inv.count made
                (subst (IsRowTarget base s (k + 1)) (sym w.target_of.ensures) (target-some base s k list c.loop-row.used b.0 b.1 (inv.left base are) (length s.live.nodes.items - (k + 1)) more)) (inv.first base are);
          }
      | else-is_some+in_ok-push-2 w ↦
          let none = missed-body_node s.live k (fragment_at (node_path s.live (k + 1)) (lists s.live).nodes ≡ []) c.fragment_body.result (sym c.is_some.ensures ∙ w.if-is_some.false) body in
          let made = ap (λ v. v.items) w.targets-is ∙ w.in_ok-push-2.ensures.items in
          record {
            count = ap length made ∙ length-append old _ ∙ omega (arith, inv.count);
            few = omega (arith, inv.few, w.used-is);
            left = λ base are. subst (AreLeft base s list (k + 1)) (sym w.used-is) (left-none base s k list c.loop-row.used none (inv.left base are));
            first = λ base are. first-more base s old new k None inv.count made (row-none base s k none) (inv.first base are);
          }
    ]

pub returns : goal.returns
returns c base are =
    let inv = c.loop-row.invariant in
    let all : length c.loop-row.targets.items ≡ length c.args.patched.now.live.nodes.items =
    omega (arith, inv.count, c.loop-row-test.false, c.loop-row.auto.row-end, ap length c.nodes-count.ensures) in
    record {
      count = all;
      each = λ k lt. inv.first base are k (omega (arith, lt, inv.count));
    }
