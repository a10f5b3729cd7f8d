use Rattle.std.proofs.Common.{sym}
use Rattle.dt_live.proofs.PlacedLemmas.NewNodes.{place-none, place-some}
use Rattle.dt_live.proofs.placed.placed_tree.PlacedTree.has_child.Goals as goal

pub returns-in-Some : goal.returns-in-Some
returns-in-Some g c = λ read. sym (place-some c.args.self.now c.requires.sound c.args.parent c.requires.parent c.args.name read c.in-Some.field-0 (sym c.in-Some.ensures))

pub returns-in-None : goal.returns-in-None
returns-in-None g c = λ read. sym (place-none c.args.self.now c.requires.sound c.args.parent c.requires.parent c.args.name read (sym c.in-None.ensures))
