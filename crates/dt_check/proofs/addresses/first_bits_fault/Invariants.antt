use Rattle.std.proofs.Common.{◌≡◌, length}
use Rattle.dt_check.specs.Addresses.{first_bits_fault}
use Rattle.dt_check.specs.Cells.{cells_of}
use Rattle.dt_check.proofs.addresses.first_bits_fault.Given as goal

-- the first of the cells that are left is the first of all
abbrev pub invariant-loop-address : goal.invariant-loop-address
invariant-loop-address l = first_bits_fault (cells_of l.rest) ≡ first_bits_fault (cells_of l.value)

abbrev pub decreases-loop-address : goal.decreases-loop-address
decreases-loop-address l = length l.rest
