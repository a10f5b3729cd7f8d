use Rattle.std.proofs.Common.{◌≡◌, ◌≤◌, [], length, take, vec_len}
use Rattle.std.specs.Prelude.{vec_capacity}
use Rattle.bus_board.specs.Private.Ties.{looks_at}
use Rattle.bus_board.proofs.flight.first_looks.Given as goal

abbrev pub invariant-loop-supplier : goal.invariant-loop-supplier
invariant-loop-supplier l = (l.looks.items ≡ looks_at [] (take l.supplier-index l.suppliers)) × (length l.suppliers ≤ vec_capacity l.looks) × (vec_len l.looks ≡ l.supplier-index)
