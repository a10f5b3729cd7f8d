use Rattle.std.proofs.Common.{◌≡◌, ◌+◌, ◌*◌, ◌≤◌, ◌++◌, length}
use Rattle.std.specs.Option.{option_copied}
use Rattle.dt_check.specs.Cells.{cells_of}
use Rattle.dt_check.specs.Links.ListingView.{listing_data}
use Rattle.dt_check.specs.Links.Lists.{entries_faults}
use Rattle.dt_check.proofs.links.lists.add_entries.Given as goal

-- the faults so far and those of the cells that are left are all
abbrev pub invariant-loop-number : goal.invariant-loop-number
invariant-loop-number l = record {
  left : l.faults.items
      ++ entries_faults l.survey (listing_data l.listing) (option_copied l.ahead) l.property l.skipped l.cell (cells_of l.rest)
      ≡ l.fn.faults.items
      ++ entries_faults l.survey (listing_data l.listing) (option_copied l.references) l.property 0 0 (cells_of l.property.value);
  few : 4 * l.cell + length l.rest ≤ length l.property.value;
}

abbrev pub decreases-loop-number : goal.decreases-loop-number
decreases-loop-number l = length l.rest
