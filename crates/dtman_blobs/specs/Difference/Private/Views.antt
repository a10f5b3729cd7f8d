-- What contracts see of the parts of a value, and of names.
use Rattle.std.specs.Prelude.{ℕ, List, map}
use denote.Ref.{Bor}
use Rattle.dtman_blobs.specs.declared.difference.parts.Part.{Part as P}
use Rattle.dtman_blobs.specs.declared.difference.parts.Part.TheVariants.{Number, Node}
use Rattle.dtman_blobs.specs.Difference.Seen.{Part, number, node}

abbrev pub part_data : P → Part
part_data (Number bytes) = number bytes.now
part_data (Node path) = node path.now

abbrev pub now_of : List (Bor (List ℕ)) → List (List ℕ)
now_of names = map (λ n. n.now) names
