use Rattle.std.proofs.Common.{◌≡◌, ◌++◌, drop}
use Rattle.dtman_check.specs.Table.Unknown.{unknown_in}
use Rattle.dtman_check.proofs.table.unknown.find_in.Given as goal

-- what is found so far and what is left to find is the whole
abbrev pub invariant-loop-property : goal.invariant-loop-property
invariant-loop-property l =
    l.findings.items ++ unknown_in l.check l.reference l.list l.place (drop l.property-index l.properties)
    ≡ l.fn.findings.items ++ unknown_in l.check l.reference l.list l.place l.properties
