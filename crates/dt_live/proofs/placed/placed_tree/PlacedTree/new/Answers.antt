use Rattle.std.proofs.Common.{ap}
use Rattle.dt_live.specs.Placed.Rows.{place_at}
use Rattle.dt_live.specs.Placed.Tables.{found_in, rows_in}
use Rattle.dt_live.proofs.PlacedLemmas.NewTree.{new-sound, no-marks}
use Rattle.dt_live.specs.Index.{row_of}
use Rattle.dt_live.proofs.PlacedLemmas.Chains.{no-chains}
use Rattle.dt_live.proofs.PlacedLemmas.Values.{no-values}
use Rattle.dt_live.proofs.placed.placed_tree.PlacedTree.new.Goals as goal

pub returns-clause-sound : goal.returns-clause-sound
returns-clause-sound g c = record {
  tables = new-sound (rows_in c.new.result) (found_in c.new.result) (rows_in c.new-2.result) (found_in c.new-2.result) (rows_in c.new-3.result) (found_in c.new-3.result)
      c.new.ensures.table c.new-2.ensures.table c.new-3.ensures.table c.new.ensures.empty c.new-2.ensures.empty c.new-3.ensures.empty;
  marks = no-marks (rows_in c.new.result) (found_in c.new.result) c.new-6.result.items c.new-6.ensures.items;
  single = λ k. ap (λ rs. (place_at rs k).again) c.new-3.ensures.empty;
  chained = no-chains (rows_in c.new-3.result) (row_of c.new-4.result) c.new-5.result.items c.new-3.ensures.empty (c.new-4.ensures.rows 0) c.new-5.ensures.items;
  valued = no-values (rows_in c.new-2.result) c.new-2.ensures.empty;
}
