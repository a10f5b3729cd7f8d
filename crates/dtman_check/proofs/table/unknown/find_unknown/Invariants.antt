use Rattle.std.proofs.Common.{◌≡◌, ◌++◌, drop}
use Rattle.dtman_check.specs.Table.Unknown.{unknown_found, unknown_from}
use Rattle.dtman_check.proofs.table.unknown.find_unknown.Given as goal

-- what is found so far and what is left to find is the whole
abbrev pub invariant-loop-place : goal.invariant-loop-place
invariant-loop-place l =
    l.findings.items ++ unknown_from l.check l.reference l.place (drop l.place l.survey) ≡ unknown_found l.check l.reference l.survey
