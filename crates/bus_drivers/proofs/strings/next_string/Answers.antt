-- The first zero byte ends the first string.
use Rattle.std.proofs.Common.{◌∙◌, sym}
use Rattle.bus_drivers.proofs.StringsLemmas.{first-string, no-string}
use Rattle.bus_drivers.proofs.strings.next_string.Goals as goal

pub returns-in_default-clause-string : goal.returns-in_default-clause-string
returns-in_default-clause-string c = no-string c.args.bytes.now (sym c.zero_place.ensures ∙ c.in_default.is)

pub returns-clause-string : goal.returns-clause-string
returns-clause-string c = first-string c.args.bytes.now c.in-Some.end (sym c.zero_place.ensures ∙ c.in-Some.is)
