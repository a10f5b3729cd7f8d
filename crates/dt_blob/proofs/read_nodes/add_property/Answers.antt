use Rattle.std.specs.Prelude.{map, reverse}
use Rattle.dt_blob.specs.Steps.NodeBuilders.{so_far_of}
use Rattle.dt_blob.proofs.read_nodes.add_property.Goals as goal

pub returns-in-Inside : goal.returns-in-Inside
returns-in-Inside c = rw c.in-Inside.is (c.in_ok-add-in-Inside.ensures (reverse (map so_far_of c.in-Inside.outer.items)))
