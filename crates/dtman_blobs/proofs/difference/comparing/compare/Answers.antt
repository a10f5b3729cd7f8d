use Rattle.dtman_blobs.proofs.DifferenceLemmas.CompareLemmas.{same-board}
use Rattle.dtman_blobs.proofs.difference.comparing.compare.Goals as goal

pub returns : goal.returns
returns c =
    same-board c.args.first.now c.args.second.now c.check.ensures c.check-2.ensures c.are_same_reserves.result c.reserves.result.now c.reserves-2.result.now c.are_same_reserves.ensures c.reserves.ensures c.reserves-2.ensures
    c.boot_cpu.result c.boot_cpu-2.result c.boot_cpu.ensures c.boot_cpu-2.ensures c.in_ok-differences.differences.items c.in_ok-differences.ensures
