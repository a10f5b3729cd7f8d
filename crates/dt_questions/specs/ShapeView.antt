-- What the code says of entries, as a shape (`Shapes`).
use Rattle.dt_questions.specs.Shapes.{ShapeData, counted, bare, mapped, nexus, lines}
use Rattle.dt_questions.specs.declared.shape.Shape.{Shape}
use Rattle.dt_questions.specs.declared.shape.Shape.TheVariants.{Counted, Bare, Mapped, Nexus, Lines}

abbrev pub shape_data : Shape → ShapeData
shape_data (Counted name) = counted name.now
shape_data Bare = bare
shape_data Mapped = mapped
shape_data (Nexus address specifier) = nexus address specifier
shape_data (Lines parent cells) = lines parent cells
