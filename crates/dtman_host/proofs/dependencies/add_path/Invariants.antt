use Rattle.std.proofs.Common.{◌≡◌, ◌++◌, drop}
use Rattle.dtman_host.specs.Dependencies.{escaped}
use Rattle.dtman_host.proofs.dependencies.add_path.Given as goal

-- the line so far and the bytes that are left are all
abbrev pub invariant-loop-byte : goal.invariant-loop-byte
invariant-loop-byte l = l.line.items ++ escaped (drop l.byte-index l.path) ≡ l.fn.line.items ++ escaped l.path
