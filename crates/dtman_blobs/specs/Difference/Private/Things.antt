-- What contracts see of a difference.
use Rattle.std.specs.Prelude.{Bool, true, false}
use Rattle.dtman_blobs.specs.declared.difference.difference.Side.{Side}
use Rattle.dtman_blobs.specs.declared.difference.difference.Side.TheVariants.{First, Second}
use Rattle.dtman_blobs.specs.declared.difference.difference.Thing.{Thing as T}
use Rattle.dtman_blobs.specs.declared.difference.difference.Thing.TheVariants.{Property, Node}
use Rattle.dtman_blobs.specs.Difference.Difference.{Thing, property, node}

abbrev pub is_first : Side → Bool
is_first First = true
is_first Second = false

abbrev pub thing_data : T → Thing
thing_data (Property p) = property p.now
thing_data (Node b) = node b.now
