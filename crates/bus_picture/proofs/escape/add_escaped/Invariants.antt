use Rattle.std.proofs.Common.{◌≡◌, ◌++◌, drop}
use Rattle.bus_picture.specs.Escape.{escaped}
use Rattle.bus_picture.proofs.escape.add_escaped.Given as goal

abbrev pub invariant-loop-byte : goal.invariant-loop-byte
invariant-loop-byte l = l.text.items ++ escaped (drop l.byte-index l.bytes) ≡ l.fn.text.items ++ escaped l.bytes
