use Rattle.std.proofs.Common.{◌≡◌, length, ap, arith, sym}
use Rattle.dt_live.specs.Placed.Rows.{place_at}
use Rattle.dt_live.specs.Placed.Tables.{rows_in}
use Rattle.dt_live.proofs.placed.paths.child.Goals as goal

pub is_row_made-requires-clause-known : goal.is_row_made-requires-clause-known
is_row_made-requires-clause-known c =
    omega (arith, (c.requires.table.right c.args.node c.args.name.now c.in_ok-row.row (sym c.in_ok-row.ensures)).0, ap length c.as_slice.ensures.value)

pub is_row_made-requires-clause-owner : goal.is_row_made-requires-clause-owner
is_row_made-requires-clause-owner c =
    let rows = rows_in c.args.nodes.now in
    let row = c.in_ok-row.row in
    let same : c.as_slice.result.now ≡ rows = c.as_slice.ensures.value in
    omega (arith, ap (λ rs. (place_at rs row).owner) same, ap length same, c.requires.grown row, (c.requires.table.right c.args.node c.args.name.now row (sym c.in_ok-row.ensures)).0)
