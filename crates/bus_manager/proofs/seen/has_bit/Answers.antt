use Rattle.std.proofs.lemmas.Nat.Bits.{shr_and_one}
use Rattle.bus_manager.proofs.seen.has_bit.Goals as goal

pub returns : goal.returns
returns c = rw shr_and_one search
