use Rattle.std.proofs.Common.{◌<◌, refl, sym, ◌∙◌, subst, ℕ}
use Rattle.bus_board.proofs.Walks.{tried_claimed, tried_more, tried_ready, tried_start}
use Rattle.bus_board.specs.Learns.{Claimed}
use Rattle.bus_board.proofs.claiming.claim_hinted.Goals as goal

pub loop-hint-init : goal.loop-hint-init
loop-hint-init c = let s = c.requires.seat in (refl, refl, tried_start c.args.token.now.me s.1 s.2 s.3)

pub claim_found-requires : goal.claim_found-requires
claim_found-requires c =
    let i = c.loop-hint.invariant in let t = c.requires.table in let s = c.requires.seat in
    let r = tried_ready _ _ _ i.2 s.0 s.1 s.2 in
    record { table = (i.0 ∙ t.0, t.1, t.2); seat = (r.plan, r.live, r.idle, r.lawful); inside = subst (λ (n : ℕ). c.in-Some.index < n) c.len.ensures c.in-Some.ensures }

pub returns-in_default-clause-same : goal.returns-in_default-clause-same
returns-in_default-clause-same c = let i = c.loop-hint.invariant in (i.0, i.1)

pub returns-in_default-clause-none : goal.returns-in_default-clause-none
returns-in_default-clause-none c = c.loop-hint.invariant.2

pub returns-then-claim_found-clause-same : goal.returns-then-claim_found-clause-same
returns-then-claim_found-clause-same c = let i = c.loop-hint.invariant in let e = c.claim_found.ensures.same in (e.0 ∙ i.0, e.1 ∙ i.1)

pub returns-then-claim_found-clause-claimed : goal.returns-then-claim_found-clause-claimed
returns-then-claim_found-clause-claimed c =
    subst (λ (d : ℕ). Claimed c.args.token.now.me.0 c.claim_found.new.token.me.0 d) (sym c.new.ensures)
    (tried_claimed _ _ _ c.in-Some.index c.loop-hint.invariant.2 (c.claim_found.ensures.won c.if-claim_found.true))

pub loop-hint-preserved : goal.loop-hint-preserved
loop-hint-preserved c =
    let i = c.loop-hint.invariant in let e = c.claim_found.ensures in
    (e.same.0 ∙ i.0, e.same.1 ∙ i.1, tried_more _ _ _ i.2 (e.lost c.if-claim_found.false))

pub returns-clause-same : goal.returns-clause-same
returns-clause-same c = let i = c.loop-hint.invariant in (i.0, i.1)

pub returns-clause-none : goal.returns-clause-none
returns-clause-none c = c.loop-hint.invariant.2
