use Rattle.std.proofs.Common.{◌≡◌, ◌≤◌, ◌++◌, drop, length}
use Rattle.dt_blob.specs.Blob.{limit}
use Rattle.dt_blob.specs.SourceText.{reserve_lines}
use Rattle.dt_blob.proofs.printing.put_reserves.Given as goal

abbrev pub invariant-loop-reserve : goal.invariant-loop-reserve
invariant-loop-reserve l = record {
  left : l.out.items ++ reserve_lines (drop l.reserve-index l.reserves) ≡ l.fn.out.items ++ reserve_lines l.reserves;
  fits : length l.out.items ≤ limit;
}
