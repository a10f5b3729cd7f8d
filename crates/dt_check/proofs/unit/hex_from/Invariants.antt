use Rattle.std.proofs.Common.{◌≡◌, drop}
use Rattle.dt_check.specs.Unit.{hex_from}
use Rattle.dt_check.proofs.unit.hex_from.Given as goal

-- the digits that are left behind the number so far are the whole
abbrev pub invariant-loop-byte : goal.invariant-loop-byte
invariant-loop-byte l = hex_from l.number (drop l.byte-index l.digits) ≡ hex_from 0 l.digits
