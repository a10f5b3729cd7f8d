use Rattle.std.proofs.Common.{◌≡◌, ◌<◌, length, ℕ}
use Rattle.std.specs.Prelude.{map}
use Rattle.dt_source.specs.Tree.{item_view}
use Rattle.dt_source.specs.Reading.Whole.{all_items_at}
use Rattle.dt_source.specs.Reading.Loops.{folded}
use Rattle.dt_source.proofs.StatementLoops.{snoc}
use Rattle.dt_source.proofs.SourceLoops.{items_left}
use Rattle.dt_source.proofs.source.all_items.Given as goal

abbrev pub invariant-items : goal.invariant-items
invariant-items l = (n : ℕ) × (length l.left < n) × (folded snoc (map item_view l.items.items) l.first (items_left l.language l.text n l.left) ≡ all_items_at l.language l.text l.ts)

abbrev pub decreases-items : goal.decreases-items
decreases-items l = length l.left
