use Rattle.std.proofs.Common.{Some, ap, ◌∙◌, if◌then◌else◌}
use Rattle.dt_live.specs.declared.index.IndexEntry.{IndexEntry}
use Rattle.dt_live.specs.Index.{entry_of, is_key}
use Rattle.dt_live.proofs.Keys.{written, row-either}
use Rattle.dt_live.proofs.index.Index.insert.Goals as goal

pub returns-clause-rows : goal.returns-clause-rows
returns-clause-rows c n k =
    let index = c.slot.new.self in
    let p : IndexEntry = record { row = Some c.args.row; stamp = 0 } in
    let w = written index.keys.keys index.entries.items c.args.node c.args.name.now p c.in_ok-slot.slot c.in_ok-slot.ensures.slot c.in_ok-slot.ensures.within index.even n k in
    ap (λ (x : IndexEntry). x.row) w
    ∙ row-either (is_key c.args.node c.args.name.now n k) p (entry_of index n k)
    ∙ ap (λ (x : IndexEntry). if is_key c.args.node c.args.name.now n k then Some c.args.row else x.row) (c.in_ok-slot.ensures.same n k)
