use Rattle.std.proofs.Common.{◌≡◌, ◌+◌, ◌++◌, ◌∷◌, drop, refl, Bor, Option, Some, None, option_copied, ap, sym, ◌∙◌}
use Rattle.dt_tree.specs.NodeData.{siblings}
use Rattle.dt_tree.specs.PathMap.{child_named}
use Rattle.dtman_blobs.specs.Difference.Named.{named_by}
use Rattle.dtman_blobs.specs.Difference.Private.Differences.{shared_differences}
use Rattle.dtman_blobs.proofs.DifferenceLemmas.NamingLemmas.{next-node}
use Rattle.dtman_blobs.proofs.DifferenceLemmas.SharedLemmas.{next-found, next-missing}
use Rattle.dtman_blobs.proofs.difference.comparing.+add_node.Goals as goal
use Rattle.dtman_blobs.proofs.difference.comparing.+add_node.Goals.{in-Some+in_ok-below+in_ok-add_node, in_default}

no-some : {A : Type 0} (o : Option (Bor A)) → ((x : Bor A) → o ≡ Some x → ⊥) → option_copied o ≡ None
no-some None h = refl
no-some (Some x) h = absurd (h x refl)

pub loop-child-preserved : goal.loop-child-preserved
loop-child-preserved t c =
    let first = named_by c.args.first.now.naming.now in
    let second = named_by c.args.second.now.naming.now in
    let path = c.args.path.now in
    let g = c.args.second.now.node.now.children in
    let items = c.children-child-items.result.now in
    let i = c.loop-child.child-index in
    let b = c.child-item.result in
    let k = c.name_bytes.result.now in
    let before = c.loop-child.differences.items in
    let next = next-node items i b c.loop-child-test.true c.child-item.is in
    let found : option_copied (option_copied c.get.result) ≡ child_named g b.name =
    ap option_copied c.get.ensures.value ∙ c.in_ok-others.ensures k ∙ ap (λ f. child_named f k) c.children.ensures.nodes ∙ ap (child_named g) c.name_bytes.ensures in
    elim c.match-get.branch [
      | in-Some+in_ok-below+in_ok-add_node w ↦
          ap (λ v. v.items ++ shared_differences first second path (siblings (drop (i + 1) items)) g) w.differences-is
          ∙ next-found first second path g before w.add_node.new.differences.items _ w.as_slice.result.now (siblings (drop i items)) (siblings (drop (i + 1) items)) b w.in-Some.other.now.now next
          (sym found ∙ ap (λ o. option_copied (option_copied o)) w.in-Some.is)
          (w.as_slice.ensures.value ∙ w.in_ok-below.ensures ∙ ap (λ n. path ++ 47 ∷ n) w.name_bytes-in-Some.ensures)
          w.in_ok-add_node.ensures c.loop-child.invariant
      | in_default w ↦
          ap (λ v. v.items ++ shared_differences first second path (siblings (drop (i + 1) items)) g) w.differences-is
          ∙ next-missing first second path g before _ (siblings (drop i items)) (siblings (drop (i + 1) items)) b next
          (sym found ∙ ap option_copied (no-some c.get.result w.in_default.not-Some)) c.loop-child.invariant
    ]
