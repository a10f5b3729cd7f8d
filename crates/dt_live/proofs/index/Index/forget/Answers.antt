use Rattle.std.proofs.Common.{None, ap, ap₂, sym, ◌∙◌, arith}
use Rattle.dt_live.specs.declared.index.IndexEntry.{IndexEntry}
use Rattle.dt_live.specs.Index.{entry_of, row_of, is_key}
use Rattle.dt_live.proofs.Keys.{written, row-either, row-none, unmet, key-parts, found-slot}
use Rattle.dt_live.proofs.index.Index.forget.Goals as goal

pub returns-in-Some-clause-rows : goal.returns-in-Some-clause-rows
returns-in-Some-clause-rows c n k =
    let index = c.args.self.now in
    let p : IndexEntry = record { row = None; stamp = c.index-entry.result.now.stamp } in
    let w = written index.keys.keys index.entries.items c.args.node c.args.name.now p c.in-Some.slot (found-slot index.keys.keys c.args.node c.args.name.now c.in-Some.slot c.in-Some.ensures.index) (omega (arith, c.in-Some.ensures.within, index.even)) index.even n k in
    ap (λ (x : IndexEntry). x.row) w
    ∙ row-either (is_key c.args.node c.args.name.now n k) p (entry_of index n k)

pub returns-in-None-clause-rows : goal.returns-in-None-clause-rows
returns-in-None-clause-rows c n k =
    let index = c.args.self.now in
    row-none (is_key c.args.node c.args.name.now n k) (row_of index n k) (λ e.
    let one = key-parts c.args.node c.args.name.now n k e in
    ap₂ (λ a b. row_of index a b) (sym one.0) (sym one.1)
    ∙ ap (λ (x : IndexEntry). x.row) (unmet index.keys.keys index.entries.items c.args.node c.args.name.now (sym c.in-None.ensures.found) index.even))
