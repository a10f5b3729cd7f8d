use Rattle.std.proofs.Common.{◌≡◌, drop}
use Rattle.dt_check.specs.Links.Lists.{from_byte}
use Rattle.dt_check.proofs.links.lists.from_byte.Given as goal

-- all so far stand before the byte
abbrev pub invariant-loop-index : goal.invariant-loop-index
invariant-loop-index l = from_byte l.byte (drop l.index l.references) ≡ from_byte l.byte l.references
