use Rattle.std.proofs.Common.{◌≡◌, ◌==◌, ◌+◌, ◌++◌, ◌<◌, Bool, List, ℕ, true, false, length, get_or, drop, sym, ap, ap₂, ◌∙◌, arith}
use Rattle.std.proofs.lemmas.List.{get_or_default, length-set}
use Rattle.std.specs.List.{list_any}
use Rattle.dt_build.specs.Resolve.Private.Wanted.{new_rows}
use Rattle.dt_build.proofs.ResolveLemmas.WantedSteps.{want-known, want-more}
use Rattle.dt_build.proofs.resolve.wanted.wanting.Goals as goal
use Rattle.dt_build.proofs.resolve.wanted.wanting.Goals.{then-not-index+in_ok-push, else-not-index}

pub loop-node-preserved : goal.loop-node-preserved
loop-node-preserved c =
    let named = c.args.named.now in
    let k = c.loop-node.node-index in
    let node = get_or named k 0 in
    let known = c.loop-node.known.items in
    let whole = new_rows (λ n. list_any (λ x. x.node == n) c.args.given.now) named in
    let within : node < length known = omega (arith, c.requires.named k 0 c.loop-node-test.true, c.loop-node.invariant.count) in
    let was : c.index.result.now ≡ get_or known node false = c.index.ensures ∙ get_or_default known node c.index.result.now false within in
    elim c.if-not-index.branch [
      | then-not-index+in_ok-push w ↦ record {
        count = ap (λ v. length v.items) w.known-is ∙ length-set known node true ∙ c.loop-node.invariant.count;
        rest = ap₂ (λ (ns : List ℕ) (ks : List Bool). ns ++ new_rows (λ n. get_or ks n false) (drop (k + 1) named)) (ap (λ v. v.items) w.nodes-is ∙ w.in_ok-push.ensures.items) (ap (λ v. v.items) w.known-is)
            ∙ want-more known c.loop-node.nodes.items named k whole c.loop-node-test.true c.loop-node.invariant.rest within (sym was ∙ w.if-not-index.true);
      }
      | else-not-index w ↦ record {
        count = ap (λ v. length v.items) w.known-is ∙ c.loop-node.invariant.count;
        rest = ap₂ (λ (ns : List ℕ) (ks : List Bool). ns ++ new_rows (λ n. get_or ks n false) (drop (k + 1) named)) (ap (λ v. v.items) w.nodes-is) (ap (λ v. v.items) w.known-is)
            ∙ want-known known c.loop-node.nodes.items named k whole c.loop-node-test.true c.loop-node.invariant.rest (sym was ∙ w.if-not-index.false);
      }
    ]
