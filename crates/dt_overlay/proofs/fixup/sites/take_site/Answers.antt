use Rattle.std.proofs.Common.{◌+◌, ◌≤◌, ℕ, List, length, subst, sym}
use Rattle.dt_overlay.proofs.FixupLemmas.LookUps.{row-there}
use Rattle.dt_overlay.proofs.FixupLemmas.Taking.{refused-taken, taken-free}
use Rattle.dt_overlay.proofs.fixup.sites.take_site.Goals as goal

pub returns-then-not-branch-clause-step : goal.returns-then-not-branch-clause-step
returns-then-not-branch-clause-step c = λ x at.
    let s = c.args.patched.now in
    refused-taken s c.check.ensures x at c.args.node c.args.name.now c.args.offset c.in-Ok.row c.in-Ok.ensures.1 c.in-Ok.ensures.0
    c.in_ok-take.field-0 c.in_ok-take.ensures.free c.if-not-branch.true

pub returns-clause-step : goal.returns-clause-step
returns-clause-step c = λ x at.
    let s = c.args.patched.now in
    taken-free s c.check.ensures x at c.args.node c.args.name.now c.args.offset c.in-Ok.row c.in-Ok.ensures.1 c.in-Ok.ensures.0
    c.in_ok-take.field-0 c.in_ok-take.ensures.free c.if-not-branch.false c.take.new.self c.in_ok-take.ensures.live c.in_ok-take.ensures.values c.in_ok-take.ensures.marks

pub take-requires-clause-known : goal.take-requires-clause-known
take-requires-clause-known c = (row-there c.args.patched.now.live c.check.ensures.whole c.args.node c.args.name.now c.in-Ok.row c.in-Ok.ensures.1).0

pub take-requires-clause-fits : goal.take-requires-clause-fits
take-requires-clause-fits c = c.in-Ok.ensures.2

pub returns-clause-row : goal.returns-clause-row
returns-clause-row c = c.in-Ok.ensures.1

pub returns-clause-fits : goal.returns-clause-fits
returns-clause-fits c = subst (λ (v : List ℕ). c.args.offset + 4 ≤ length v) (sym (c.in_ok-take.ensures.values c.in-Ok.row)) c.in-Ok.ensures.2
