-- A body is the list of its statements.
use Rattle.std.specs.Prelude.{◌≡◌, ◌↔◌, List, [], ◌∷◌, All}
use Rattle.dt_source.specs.TreeMeaning.Syntax.{Piece, Entry, Body, Done, Then, body_of}
use Rattle.dt_source.specs.Lawful.{IsLawfulEntry, IsLawfulBody}

-- the statements of a body, in their order
abbrev pub statements_of : Body (List Piece) → List (Entry (List Piece))
statements_of Done = []
statements_of (Then first others) = first ∷ statements_of others

abbrev pub StatementsOfABody : Type 0
StatementsOfABody = (es : List (Entry (List Piece))) → statements_of (body_of es) ≡ es

abbrev pub BodyOfItsStatements : Type 0
BodyOfItsStatements = (b : Body (List Piece)) → body_of (statements_of b) ≡ b

-- A body is lawful where each of its statements is.
abbrev pub BodiesAreLawfulByStatements : Type 0
BodiesAreLawfulByStatements = (b : Body (List Piece)) → IsLawfulBody b ↔ All IsLawfulEntry (statements_of b)
