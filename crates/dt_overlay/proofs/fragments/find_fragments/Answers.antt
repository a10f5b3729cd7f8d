use Rattle.std.proofs.Common.{◌≡◌, List, [], suc, ◌+◌, ◌<◌, length, refl, sym, ap, ◌∙◌, subst, arith}
use Rattle.std.specs.Prelude.{codes}
use Rattle.dt_source.specs.TreeMeaning.MapOf.{value_in}
use Rattle.dt_source.specs.TreeMeaning.Paths.{Path}
use Rattle.dt_live.specs.declared.live_tree.LiveTree.{LiveTree}
use Rattle.dt_live.specs.Rows.{node_path}
use Rattle.dt_live.specs.Flattened.{Lent, lists}
use Rattle.dt_overlay.specs.Fixup.PatchedOverlay.{patched_lists}
use Rattle.dt_source.specs.OverlayMeaning.Applied.{target_by}
use Rattle.dt_source.specs.OverlayMeaning.Shifted.{fragment_at}
use Rattle.dt_overlay.specs.declared.fragments.Fragment.{Fragment}
use Rattle.dt_overlay.specs.Private.Fragments.{IsBody, IsFragment}
use Rattle.dt_overlay.proofs.FragmentRows.{AreSoFar, all-found, row-found, row-skipped}
use Rattle.dt_overlay.proofs.fragments.find_fragments.Goals as goal
use Rattle.dt_overlay.proofs.fragments.find_fragments.Goals.{in-Some+in_ok-push, in_default}

pub fragment_body-requires-clause-known : goal.fragment_body-requires-clause-known
fragment_body-requires-clause-known c =
    omega (arith, c.loop-row-test.true, ap length c.nodes-row-end.ensures, ap (λ (d : LiveTree Lent). length d.nodes.items) c.live.ensures.tree)

pub loop-row-preserved : goal.loop-row-preserved
loop-row-preserved c =
    let base = c.args.base.now in
    let s = c.args.patched.now in
    let over = s.live in
    let k = c.loop-row.row in
    let lt : k < length over.nodes.items = omega (arith, c.loop-row-test.true, ap length c.nodes-row-end.ensures) in
    elim c.match-fragment_body.branch [
      | in-Some+in_ok-push w ↦
          let b = subst (λ (d : LiveTree Lent). IsBody d k w.in-Some.body) c.live.ensures.tree w.in-Some.ensures in
          let t = w.find_target-target in
          let f : Fragment = record { node = k + 1; body = w.in-Some.body; target = t.result } in
          let is : IsFragment base s b.name f = record {
            node = b.path;
            node_known = omega (arith, lt);
            body = b.body_path;
            body_known = b.body_known;
            target = t.ensures.target
                ∙ ap (λ (p : Path). target_by (lists base) (value_in (patched_lists s).properties p (codes "target")) (value_in (patched_lists s).properties p (codes "target-path"))) b.path;
            target_known = t.ensures.known;
          } in
          record {
            so_far = λ m e. subst (λ (l : List Fragment). AreSoFar base s l (k + 1) m) (sym (ap (λ v. v.items) w.list-is ∙ w.in_ok-push.ensures.items))
                (row-found base s c.loop-row.list.items k m f w.in-Some.body b is (c.loop-row.invariant.so_far (suc m) (omega (arith, e))));
          }
      | in_default w ↦
          record {
            so_far = λ m e. subst (λ (l : List Fragment). AreSoFar base s l (k + 1) m) (sym (ap (λ v. v.items) w.list-is))
                (row-skipped base s c.loop-row.list.items k m (subst (λ (d : LiveTree Lent). fragment_at (node_path d (k + 1)) (lists d).nodes ≡ []) c.live.ensures.tree w.in_default.ensures) (c.loop-row.invariant.so_far (suc m) (omega (arith, e))));
          }
    ]

pub returns : goal.returns
returns c =
    let s = c.args.patched.now in
    all-found c.args.base.now s c.loop-row.list.items c.loop-row.row 0 refl (c.loop-row.invariant.so_far 0 (omega (arith, c.loop-row-test.false, c.loop-row.auto.row-end, ap length c.nodes-row-end.ensures)))
