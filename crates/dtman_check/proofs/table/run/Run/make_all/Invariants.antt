use Rattle.std.proofs.Common.{drop}
use Rattle.std.specs.Option.{option_copied}
use Rattle.dtman_check.specs.Table.Run.{RunData, MakesFrom}
use Rattle.dtman_check.proofs.table.run.Run.make_all.Given as goal

-- what makes the rows that are left makes all
abbrev pub invariant-loop-check : goal.invariant-loop-check
invariant-loop-check l =
    (end : RunData) → MakesFrom l.subject.reference.now l.subject.survey.now (option_copied l.subject.written) l.selection l.least l.check (drop l.check l.rows) l.self end
    → MakesFrom l.subject.reference.now l.subject.survey.now (option_copied l.subject.written) l.selection l.least 0 l.rows l.fn.self end
