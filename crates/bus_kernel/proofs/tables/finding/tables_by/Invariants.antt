use Rattle.std.proofs.Common.{ℕ, List, ◌++◌, ◌-◌, length}
use Rattle.bus_kernel.specs.Image.Width.{bytes_of}
use Rattle.bus_kernel.specs.Private.Search.{HasNoneBefore}
use Rattle.bus_kernel.specs.Tables.Table.{compatibles_of}
use Rattle.bus_kernel.specs.Tables.Tables.{TablesFrom}
use Rattle.bus_kernel.proofs.tables.finding.tables_by.Given as goal

abbrev pub invariant-loop-place : goal.invariant-loop-place
invariant-loop-place l = record {
  none : HasNoneBefore (bytes_of l.width) l.image l.place.behind l.place.at;
  joins : (others : List (List (List ℕ))) → TablesFrom (bytes_of l.width) l.image l.place.behind others
      → TablesFrom (bytes_of l.width) l.image 0 (compatibles_of l.tables.items ++ others);
}

abbrev pub decreases-loop-place : goal.decreases-loop-place
decreases-loop-place l = length l.image - l.place.at
