-- What this write took stands behind what was written before it.
use Rattle.std.proofs.Common.{◌≤◌, ℕ, List, length, subst, arith, rules}
use Rattle.std.proofs.lemmas.List.{take_all}
use Rattle.std.specs.Io.KnownBytes.{Appends}
use Rattle.dtman_engine.proofs.ChannelLemmas.{appends_piece}
use Rattle.dtman_engine.proofs.transfer.write_out.Goals as goal

pub loop-written-preserved : goal.loop-written-preserved
loop-written-preserved g c =
    let so_far = c.loop-written.invariant in
    let now = c.in-Ok.ensures in
    (omega arith, search rules, appends_piece _ _ _ c.loop-written.written c.in-Ok.count c.args.text.now so_far.2 now.given)

pub returns-clause-whole : goal.returns-clause-whole
returns-clause-whole g c =
    let written = g.C.Channel.written in
    let all : length c.args.text.now ≤ c.loop-written.written = omega (arith, c.loop-written-test.false) in
    subst (λ (bytes : List ℕ). Appends (written c.args.channel.now) (written c.loop-written.channel) bytes)
    (take_all c.loop-written.written c.args.text.now all) c.loop-written.invariant.2
