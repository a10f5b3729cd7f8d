use Rattle.std.proofs.Common.{◌≡◌, ◌-◌, ◌≤◌, false, take, length}
use Rattle.std.specs.Io.KnownBytes.{Appends}
use Rattle.dtman_engine.proofs.transfer.write_out.Given as goal

abbrev pub invariant-loop-written : goal.invariant-loop-written
invariant-loop-written g l =
    (l.written ≤ length l.text) × (g.C.Channel.has_failed l.channel ≡ false)
    × Appends (g.C.Channel.written l.fn.channel) (g.C.Channel.written l.channel) (take l.written l.text)

abbrev pub decreases-loop-written : goal.decreases-loop-written
decreases-loop-written g l = length l.text - l.written
