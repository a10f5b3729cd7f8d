-- What is left of a value that is looked at part by part.
use Rattle.std.specs.Prelude.{List}
use Rattle.std.specs.Option.{option_map_or}
use Rattle.dtman_blobs.specs.declared.difference.parts.Seen.{Seen}
use Rattle.dtman_blobs.specs.Difference.Named.{named_by}
use Rattle.dtman_blobs.specs.Difference.Private.FormView.{form_data}
use Rattle.dtman_blobs.specs.Difference.Seen.{Part, plain, cells_seen}

abbrev pub seen_left : Seen → List Part
seen_left s = option_map_or (λ form. cells_seen (named_by s.naming.now) (form_data form) s.left s.rest.now) s.form (plain s.rest.now)
