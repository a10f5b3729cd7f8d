use Rattle.std.proofs.Common.{rules, tests, ℕ, List, Bor, ◌∙◌}
use Rattle.std.proofs.lemmas.Iterator.{YieldsList-from_slice}
use Rattle.std.proofs.lemmas.Iterator.Search.{any_from_yields_List}
use Rattle.bus_kernel.specs.Tables.Tables.{is_told}
use Rattle.bus_kernel.proofs.TablesLemmas.Texts.{telling_of}
use Rattle.bus_kernel.proofs.tables.table.is_telling.Goals as goal

pub returns : goal.returns
returns c =
    any_from_yields_List (λ (s : Bor (List ℕ)). is_told s.now) _ _ _ c.any.ensures.ran (YieldsList-from_slice c.args.strings.now cc) (λ x b q k. search (rules, tests))
    ∙ telling_of c.args.strings.now
