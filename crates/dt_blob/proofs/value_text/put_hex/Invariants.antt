use Rattle.std.proofs.Common.{◌≡◌, ◌++◌, drop}
use Rattle.dt_blob.specs.SourceText.{hex_of}
use Rattle.dt_blob.proofs.value_text.put_hex.Given as goal

abbrev pub invariant-loop-byte : goal.invariant-loop-byte
invariant-loop-byte l = l.out.items ++ hex_of (drop l.byte-index l.bytes) ≡ l.fn.out.items ++ hex_of l.bytes
