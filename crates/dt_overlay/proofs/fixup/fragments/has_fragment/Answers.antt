use Rattle.std.proofs.Common.{◌+◌, ◌-◌, ◌<◌, suc, length, sym, ap, ◌∙◌, arith}
use Rattle.dt_overlay.proofs.FixupLemmas.FragmentRows.{row-skipped, row-found}
use Rattle.dt_overlay.proofs.fixup.fragments.has_fragment.Goals as goal

pub returns-then-is_fragment : goal.returns-then-is_fragment
returns-then-is_fragment c =
    let d = c.args.live.now in
    let k = c.loop-row.row in
    let within : k < length d.nodes.items = omega (arith, c.loop-row-test.true, ap length c.nodes-row-end.ensures) in
    let m = length d.nodes.items - (k + 1) in
    sym (row-found d k m (sym c.is_fragment.ensures ∙ c.if-is_fragment.true)) ∙ c.loop-row.invariant.rest (suc m) (omega (arith, within))

pub loop-row-preserved : goal.loop-row-preserved
loop-row-preserved c =
    let d = c.args.live.now in
    let k = c.loop-row.row in
    record {
      rest = λ m e. row-skipped d k m (sym c.is_fragment.ensures ∙ c.if-is_fragment.false) ∙ c.loop-row.invariant.rest (suc m) (omega (arith, e));
    }

pub returns : goal.returns
returns c = c.loop-row.invariant.rest 0 (omega (arith, c.loop-row-test.false, c.loop-row.auto.row-end, ap length c.nodes-row-end.ensures))
