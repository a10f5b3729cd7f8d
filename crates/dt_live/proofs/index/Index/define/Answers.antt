use Rattle.std.proofs.Common.{Some, ap, ap₂, ◌∙◌, if◌then◌else◌, unwrap_or, slice_index_or}
use Rattle.std.proofs.lemmas.List.{get_or_default}
use Rattle.dt_live.specs.declared.index.IndexEntry.{IndexEntry}
use Rattle.dt_live.specs.Index.{absent, entry_of, is_key}
use Rattle.dt_live.proofs.Keys.{written, row-either, stamp-either}
use Rattle.dt_live.proofs.index.Index.define.Goals as goal

pub returns-clause-rows : goal.returns-clause-rows
returns-clause-rows c n k =
    let index = c.slot.new.self in
    let p : IndexEntry = record { row = Some c.unwrap_or.result; stamp = c.args.stamp } in
    let w = written index.keys.keys index.entries.items c.args.node c.args.name.now p c.in_ok-slot.slot c.in_ok-slot.ensures.slot c.in_ok-slot.ensures.within index.even n k in
    ap (λ (x : IndexEntry). x.row) w
    ∙ row-either (is_key c.args.node c.args.name.now n k) p (entry_of index n k)
    ∙ ap₂ (λ x y. if is_key c.args.node c.args.name.now n k then Some x else y)
    (c.unwrap_or.ensures
    ∙ ap (λ (x : IndexEntry). unwrap_or x.row c.args.row)
    (c.index-entry.ensures
    ∙ get_or_default index.entries.items c.in_ok-slot.slot c.index-entry.result.now absent c.in_ok-slot.ensures.within
    ∙ ap (λ i. slice_index_or index.entries.items i absent) c.in_ok-slot.ensures.slot
    ∙ c.in_ok-slot.ensures.same c.args.node c.args.name.now))
    (ap (λ (x : IndexEntry). x.row) (c.in_ok-slot.ensures.same n k))

pub returns-clause-stamps : goal.returns-clause-stamps
returns-clause-stamps c n k =
    let index = c.slot.new.self in
    let p : IndexEntry = record { row = Some c.unwrap_or.result; stamp = c.args.stamp } in
    let w = written index.keys.keys index.entries.items c.args.node c.args.name.now p c.in_ok-slot.slot c.in_ok-slot.ensures.slot c.in_ok-slot.ensures.within index.even n k in
    ap (λ (x : IndexEntry). x.stamp) w
    ∙ stamp-either (is_key c.args.node c.args.name.now n k) p (entry_of index n k)
    ∙ ap (λ (x : IndexEntry). if is_key c.args.node c.args.name.now n k then c.args.stamp else x.stamp) (c.in_ok-slot.ensures.same n k)
