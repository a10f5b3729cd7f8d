use Rattle.std.proofs.Common.{drop, ◌++◌, ◌≡◌}
use Rattle.dt_questions.specs.Mentions.{mentions_among}
use Rattle.dt_questions.proofs.mentions.add_among.Given as goal

-- what is found so far and what the properties that are left name is all
abbrev pub invariant-loop-property : goal.invariant-loop-property
invariant-loop-property l = l.mentions.items ++ mentions_among l.survey l.user (drop l.property-index l.properties) ≡ l.fn.mentions.items ++ mentions_among l.survey l.user l.properties
