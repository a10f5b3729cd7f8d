use Rattle.std.proofs.Common.{◌≡◌, ◌+◌, ◌-◌, ◌≤◌, false, vec_len, length}
use Rattle.std.specs.Io.KnownBytes.{Consumes}
use Rattle.dtman_engine.proofs.transfer.read_all.Given as goal

abbrev pub invariant-loop-piece : goal.invariant-loop-piece
invariant-loop-piece g l =
    (length l.piece ≡ 16384) × (vec_len l.bytes ≤ l.limit + 1) × (g.C.Channel.has_failed l.channel ≡ false)
    × Consumes (g.C.Channel.left l.fn.channel) (g.C.Channel.left l.channel) l.bytes.items

abbrev pub decreases-loop-piece : goal.decreases-loop-piece
decreases-loop-piece g l = l.limit + 1 - vec_len l.bytes
