-- What a parsed source says.
use Rattle.std.specs.Prelude.{map}
use Rattle.dt_source.specs.declared.tree.Outline.{Outline}
use Rattle.dt_source.specs.declared.tree.Source.{Source}
use Rattle.dt_source.specs.TreeMeaning.Syntax.{Meaning}
use Rattle.dt_source.specs.Tree.{item_view}

abbrev pub meaning_of : Source → Meaning
meaning_of s = record { plugin = s.plugin; reserves = s.reserves.items; items = map item_view s.items.items }

-- the same, before what it names is known to be lawful
abbrev pub outlined : Outline → Meaning
outlined s = record { plugin = s.plugin; reserves = s.reserves.items; items = map item_view s.items.items }
