use Rattle.std.proofs.Common.{◌≡◌, ◌++◌, [], length, take}
use Rattle.dt_blob.specs.Strings.{with_names}
use Rattle.dt_blob.proofs.strings.Strings.put.Given as goal

abbrev pub invariant-loop-at : goal.invariant-loop-at
invariant-loop-at l = record {
  end : l.size ≡ length (with_names [] (take l.at l.self));
  done : l.out.items ≡ l.fn.out.items ++ with_names [] (take l.at l.self);
}
