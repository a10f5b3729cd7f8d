use Rattle.std.proofs.Common.{◌≡◌, ◌+◌, ◌-◌, ◌*◌, ◌++◌, ◌∷◌, false, take, drop, ap, arith}
use Rattle.dt_blob.specs.SourceText.{cells_text}
use Rattle.dt_blob.proofs.Texts.{cells-step, cells-end}
use Rattle.dt_blob.proofs.value_text.put_cells.Goals as goal

pub loop-cell-preserved : goal.loop-cell-preserved
loop-cell-preserved c =
    let k = c.loop-cell.cell in
    let v = c.args.value.now in
    let e : 4 * c.loop-cell.cell + 4 - 4 * c.loop-cell.cell ≡ 4 = omega arith in
    cells-step c.loop-cell.out.items c.put_space.new.out.items c.extend_from_slice.new.self.items c.put_hex.new.out.items (take (4 * k + 4 - 4 * k) (drop (4 * k) v)) v (c.args.out.now.items ++ 60 ∷ cells_text false v) c.loop-cell.later k
    c.in_ok-put_space.ensures c.in_ok-extend_from_slice.ensures.items c.in_ok-put_hex.ensures (ap (λ n. take n (drop (4 * c.loop-cell.cell) c.args.value.now)) e) (omega arith) c.loop-cell.invariant

pub returns : goal.returns
returns c = cells-end c.args.out.now.items c.loop-cell.out.items c.push-2.new.self.items c.args.value.now c.loop-cell.later c.loop-cell.cell c.loop-cell-test.false c.loop-cell.invariant c.in_ok-push-2.ensures.items
