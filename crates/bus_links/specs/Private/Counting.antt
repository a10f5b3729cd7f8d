-- Which links the code counts.
use Rattle.std.specs.Prelude.{Bool, List}
use Rattle.bus_links.specs.Links.{LinkData}
use Rattle.bus_links.specs.LinkPlan.{is_counted, is_waited_for}
use Rattle.bus_links.specs.declared.relaxing.Counting.{Counting}
use Rattle.bus_links.specs.declared.relaxing.Counting.TheVariants.{All, Relaxed}

abbrev pub passes : List Bool → Counting → LinkData → Bool
passes early All l = is_counted early l
passes early (Relaxed components) l = is_waited_for early components.now l
