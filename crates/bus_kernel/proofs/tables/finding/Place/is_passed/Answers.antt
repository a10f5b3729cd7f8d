use Rattle.bus_kernel.proofs.TablesLemmas.Standing.{none_unless}
use Rattle.bus_kernel.proofs.TablesLemmas.Searching.{none_within}
use Rattle.bus_kernel.proofs.tables.finding.Place.is_passed.Goals as goal

pub returns : goal.returns
returns c holds = none_within c.args.width c.args.image.now c.args.self.behind c.args.self.at c.requires (c.is_within.ensures holds)

pub returns-then-not-has_entry : goal.returns-then-not-has_entry
returns-then-not-has_entry c holds =
    none_unless _ c.args.self.at c.args.image.now c.behind.result.now c.has_entry.result c.behind.ensures c.has_entry.ensures c.if-not-has_entry.true
