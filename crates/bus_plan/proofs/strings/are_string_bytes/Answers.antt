use Rattle.std.proofs.Common.{rules, tests}
use Rattle.std.proofs.lemmas.Iterator.{YieldsList-from_slice}
use Rattle.std.proofs.lemmas.Iterator.Search.{all_from_yields_List}
use Rattle.bus_plan.specs.Plan.{is_string_byte}
use Rattle.bus_plan.proofs.strings.are_string_bytes.Goals as goal

pub returns : goal.returns
returns c =
    all_from_yields_List is_string_byte _ _ _ c.all.ensures.ran (YieldsList-from_slice c.args.bytes.now cc) (λ x b q k. search (rules, tests))
