use Rattle.std.proofs.Common.{◌≡◌, ◌++◌, drop}
use Rattle.std.specs.Option.{option_copied}
use Rattle.dtman_check.specs.Table.Found.{found_from}
use Rattle.dtman_check.proofs.table.finding_all.find_each.Given as goal

-- what is found so far and what is left to find is the whole
abbrev pub invariant-loop-place : goal.invariant-loop-place
invariant-loop-place l = l.findings.items ++ found_from l.check l.finds l.subject.survey.now (option_copied l.subject.written) l.place (drop l.place l.nodes) ≡ l.fn.findings.items ++ found_from l.check l.finds l.subject.survey.now (option_copied l.subject.written) 0 l.nodes
