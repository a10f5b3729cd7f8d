use Rattle.std.proofs.Common.{◌≡◌, ◌<◌, Some, length, sym, ap, ◌∙◌, arith}
use Rattle.std.proofs.lemmas.Bool.Decides.{nat_tests}
use Rattle.dt_live.specs.Placed.Rows.{holds, path_of}
use Rattle.dt_live.specs.Placed.Tables.{rows_in}
use Rattle.dt_live.proofs.PlacedLemmas.Chosen.{none-first, some-first}
use Rattle.dt_live.proofs.placed.placed_tree.PlacedTree.first_of.Goals as goal

pub preorder_of-requires : goal.preorder_of-requires
preorder_of-requires g c = c.in_ok-shown.ensures.numbered.sound

pub index-requires : goal.index-requires
index-requires g c =
    let some : 0 < length c.in_ok-order.order.properties.items = grind (arith, nat_tests, c.is_empty.ensures, c.if-is_empty.false) in
    omega (arith, some)

pub returns-then-is_empty-clause-node : goal.returns-then-is_empty-clause-node
returns-then-is_empty-clause-node g c =
    let none : length c.in_ok-order.order.properties.items ≡ 0 = grind (arith, nat_tests, c.is_empty.ensures, c.if-is_empty.true) in
    none-first (rows_in c.args.self.now.nodes) c.args.nodes.now c.in_ok-shown.shown c.in_ok-shown.ensures c.in_ok-order.order.properties.items c.in_ok-order.ensures.properties none

pub returns-clause-node : goal.returns-clause-node
returns-clause-node g c =
    let some : 0 < length c.in_ok-order.order.properties.items = grind (arith, nat_tests, c.is_empty.ensures, c.if-is_empty.false) in
    let x = c.index.result.now in
    let first = some-first (rows_in c.args.self.now.nodes) c.args.nodes.now c.in_ok-shown.shown c.in_ok-shown.ensures c.in_ok-order.order.properties.items x c.in_ok-order.ensures.properties some in
    first.0 ∙ ap (λ y. Some (path_of (rows_in c.args.self.now.nodes) y.value)) (sym c.index.ensures)

pub returns-clause-there : goal.returns-clause-there
returns-clause-there g c =
    let some : 0 < length c.in_ok-order.order.properties.items = grind (arith, nat_tests, c.is_empty.ensures, c.if-is_empty.false) in
    let x = c.index.result.now in
    let first = some-first (rows_in c.args.self.now.nodes) c.args.nodes.now c.in_ok-shown.shown c.in_ok-shown.ensures c.in_ok-order.order.properties.items x c.in_ok-order.ensures.properties some in
    record { known = omega (arith, first.1, ap (λ y. y.value) c.index.ensures); there = ap (λ y. holds (rows_in c.args.self.now.nodes) y.value) c.index.ensures ∙ first.2 }
