use Rattle.std.proofs.Common.{◌≡◌, take}
use Rattle.std.specs.List.{list_all}
use Rattle.dt_blob.specs.SourceText.{is_printable}
use Rattle.dt_blob.proofs.value_form.are_printable.Given as goal

abbrev pub invariant-loop-byte : goal.invariant-loop-byte
invariant-loop-byte l = l.are_so ≡ list_all is_printable (take l.byte-index l.bytes)
