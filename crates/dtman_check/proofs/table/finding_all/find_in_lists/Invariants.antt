use Rattle.std.proofs.Common.{◌≡◌, ◌++◌, drop}
use Rattle.std.specs.Option.{option_copied}
use Rattle.dtman_check.specs.Table.Found.{found_in_lists}
use Rattle.dtman_check.proofs.table.finding_all.find_in_lists.Given as goal

-- what is found so far and what is left to find is the whole
abbrev pub invariant-loop-index : goal.invariant-loop-index
invariant-loop-index l =
    l.findings.items
    ++ found_in_lists l.check l.lists.listed l.lists.listing l.subject.survey.now (option_copied l.subject.written) l.lists.place
    l.index (drop l.index l.properties)
    ≡ l.fn.findings.items
    ++ found_in_lists l.check l.lists.listed l.lists.listing l.subject.survey.now (option_copied l.subject.written) l.lists.place
    0 l.properties
