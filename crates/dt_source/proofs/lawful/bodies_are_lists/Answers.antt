use Rattle.dt_source.proofs.BodyLists.{statements_of_a_body, body_of_its_statements, lawful_by_statements}
use Rattle.dt_source.proofs.lawful.bodies_are_lists.Goals as goal

pub returns : goal.returns
returns c = record { there = statements_of_a_body; back = body_of_its_statements; lawful = lawful_by_statements }
