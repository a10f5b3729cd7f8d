-- A body is the list of its statements.
use Rattle.std.proofs.Common.{List, [], ◌∷◌, refl, ap}
use Rattle.std.specs.List.{AllByRecursion}
use Rattle.std.proofs.lemmas.List.Elements.{All-from_recursion, recursion_from_All}
use Rattle.dt_source.specs.TreeMeaning.Syntax.{Piece, Entry, Body, Done, Then}
use Rattle.dt_source.specs.Lawful.{IsLawfulEntry, IsLawfulBody}
use Rattle.dt_source.specs.BodyLaws.{statements_of, StatementsOfABody, BodyOfItsStatements, BodiesAreLawfulByStatements}

pub statements_of_a_body : StatementsOfABody
statements_of_a_body [] = refl
statements_of_a_body (e ∷ es) = ap (λ (xs : List (Entry (List Piece))). e ∷ xs) (statements_of_a_body es)

pub body_of_its_statements : BodyOfItsStatements
body_of_its_statements Done = refl
body_of_its_statements (Then first others) = ap (λ (b : Body (List Piece)). Then first b) (body_of_its_statements others)

each_lawful : (b : Body (List Piece)) → IsLawfulBody b → AllByRecursion IsLawfulEntry (statements_of b)
each_lawful Done h = tt
each_lawful (Then first others) h = (h.0, each_lawful others h.1)

body_lawful : (b : Body (List Piece)) → AllByRecursion IsLawfulEntry (statements_of b) → IsLawfulBody b
body_lawful Done h = tt
body_lawful (Then first others) h = (h.0, body_lawful others h.1)

pub lawful_by_statements : BodiesAreLawfulByStatements
lawful_by_statements b =
    ((λ h. All-from_recursion IsLawfulEntry (statements_of b) (each_lawful b h)), (λ h. body_lawful b (recursion_from_All IsLawfulEntry (statements_of b) h)))
