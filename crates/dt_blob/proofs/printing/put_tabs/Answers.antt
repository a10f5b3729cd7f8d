use Rattle.std.proofs.Common.{◌≡◌, ◌+◌, ◌-◌, ◌++◌, ◌∷◌, [], ap, sym, ◌∙◌, arith, append_assoc}
use Rattle.dt_blob.specs.SourceText.{tabs}
use Rattle.dt_blob.proofs.Lines.{tabs-next, tabs-end}
use Rattle.dt_blob.proofs.printing.put_tabs.Goals as goal

pub loop-level-init : goal.loop-level-init
loop-level-init c = let e : c.args.depth - 0 ≡ c.args.depth = omega arith in ap (λ n. c.args.out.now.items ++ tabs n) e

pub loop-level-preserved : goal.loop-level-preserved
loop-level-preserved c =
    let rest = tabs (c.args.depth - (c.loop-level._level + 1)) in
    ap (λ xs. xs ++ tabs (c.args.depth - (c.loop-level._level + 1))) c.in_ok-push.ensures.items
    ∙ append_assoc c.loop-level.out.items (9 ∷ []) rest
    ∙ ap (λ xs. c.loop-level.out.items ++ xs) (sym (tabs-next c.args.depth c.loop-level._level c.loop-level-test.true))
    ∙ c.loop-level.invariant

pub returns : goal.returns
returns c = tabs-end c.loop-level.out.items _ (c.args.depth - c.loop-level._level) (omega arith) c.loop-level.invariant
