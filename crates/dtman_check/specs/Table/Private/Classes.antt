-- The classes of the names that a check asks nodes for (`Marks` of `dt_check`), where it asks for any.
use Rattle.std.specs.Prelude.{Option, Some, None}
use Rattle.dt_check.specs.Private.Marks.{class_of}
use Rattle.dtman_check.specs.declared.table.check.Among.{Among}
use Rattle.dtman_check.specs.declared.table.check.Among.TheVariants.{All, With, WithEither, Below, Part, Named, Parents, WithUnit}
use Rattle.dtman_check.specs.declared.table.check.Finds.{Finds}
use Rattle.dtman_check.specs.declared.table.check.Finds.TheVariants.{Nothing, Units, Unknown}
use Rattle.dtman_check.specs.declared.table.check.Finds.TheVariants.{Node, Properties, Links, Lists, Aliases}
use Rattle.dtman_check.specs.declared.table.check.Listed.{Listed}
use Rattle.dtman_check.specs.declared.table.check.Listed.TheVariants.{Named as Called, Lines}
use Rattle.dtman_check.specs.declared.table.looking.Classes.{Classes}

abbrev pub classes_among : Among → Option Classes
classes_among (With name) = Some (record { first = class_of name.now; second = class_of name.now })
classes_among (WithEither name other) = Some (record { first = class_of name.now; second = class_of other.now })
classes_among All = None
classes_among (Below bus) = None
classes_among (Part kind) = None
classes_among (Named name) = None
classes_among Parents = None
classes_among WithUnit = None

abbrev pub classes_listed : Listed → Option Classes
classes_listed (Called name) = Some (record { first = class_of name.now; second = class_of name.now })
classes_listed Lines = None

abbrev pub classes_of : Finds → Option Classes
classes_of (Node among rules) = classes_among among
classes_of (Links among rules) = classes_among among
classes_of (Lists listed listing) = classes_listed listed
classes_of Nothing = None
classes_of (Units counted) = None
classes_of Unknown = None
classes_of (Properties rule) = None
classes_of Aliases = None
