use Rattle.std.proofs.Common.{◌≡◌}
use Rattle.bus_links.specs.LinkFile.{with_strings}
use Rattle.bus_links.proofs.link_reading.add_strings.Given as goal

-- with the strings that are left the list is that with all
abbrev pub invariant-loop-string : goal.invariant-loop-string
invariant-loop-string l = with_strings l.strings l.string-iterator ≡ with_strings l.fn.strings l.fn.fields
