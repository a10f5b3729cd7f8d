use Rattle.std.proofs.Common.{◌≡◌, ◌++◌, drop}
use Rattle.dtman_check.specs.Table.Found.{found_in_properties}
use Rattle.dtman_check.proofs.table.finding_all.find_in_properties.Given as goal

-- what is found so far and what is left to find is the whole
abbrev pub invariant-loop-property : goal.invariant-loop-property
invariant-loop-property l = l.findings.items ++ found_in_properties l.check l.place l.rule (drop l.property-index l.properties) ≡ l.fn.findings.items ++ found_in_properties l.check l.place l.rule l.properties
