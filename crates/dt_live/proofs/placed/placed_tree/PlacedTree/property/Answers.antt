use Rattle.std.proofs.Common.{sym, subst}
use Rattle.dt_live.specs.Placed.PlacedTrees.{dtc_tree}
use Rattle.dt_live.specs.Placed.References.{IsValueOf}
use Rattle.dt_live.proofs.PlacedLemmas.LookedUp.{value-by, value-none}
use Rattle.dt_live.proofs.placed.placed_tree.PlacedTree.property.Goals as goal

pub returns-in-Some : goal.returns-in-Some
returns-in-Some g c =
    let d = c.args.self.now in
    λ read. subst (λ o. IsValueOf read d c.args.node c.args.name.now (dtc_tree read d) o) (sym c.value_at.ensures)
    (value-by d c.requires.sound c.args.node c.requires.node c.args.name.now read c.in-Some.row (sym c.in-Some.ensures))

pub returns-in-None : goal.returns-in-None
returns-in-None g c = λ read. value-none c.args.self.now c.requires.sound c.args.node c.requires.node c.args.name.now read (sym c.in-None.ensures)

pub value_at-requires-clause-known : goal.value_at-requires-clause-known
value_at-requires-clause-known g c = (c.requires.sound.tables.properties_table.right c.args.node c.args.name.now c.in-Some.row (sym c.in-Some.ensures)).0
