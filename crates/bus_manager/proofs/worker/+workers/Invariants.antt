use Prim.Native.Nat.{◌+◌, ◌*◌}
use Rattle.bus_manager.proofs.worker.+workers.Given as goal

abbrev pub decreases-work : goal.decreases-work
decreases-work g l = 2 * l.forks

abbrev pub decreases-second : goal.decreases-second
decreases-second g l = 2 * l.fewer + 1

abbrev pub decreases-first : goal.decreases-first
decreases-first g l = 2 * l.fewer + 1
