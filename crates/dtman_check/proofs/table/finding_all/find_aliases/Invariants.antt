use Rattle.std.proofs.Common.{◌≡◌, ◌++◌, drop}
use Rattle.dtman_check.specs.Table.Found.{found_aliases}
use Rattle.dtman_check.proofs.table.finding_all.find_aliases.Given as goal

-- what is found so far and what is left to find is the whole
abbrev pub invariant-loop-property : goal.invariant-loop-property
invariant-loop-property l = l.findings.items ++ found_aliases l.check l.survey l.place (drop l.property-index l.properties) ≡ l.fn.findings.items ++ found_aliases l.check l.survey l.place l.properties
