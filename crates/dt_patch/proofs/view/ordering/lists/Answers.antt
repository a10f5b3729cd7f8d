use Rattle.std.proofs.Common.{rules}
use Rattle.std.specs.Str.{bytes_eq}
use Rattle.std.proofs.lemmas.Iterator.Search.{any_from_yields_List}
use Rattle.std.proofs.lemmas.Iterator.Splits.{YieldsList-from_slice_split}
use borrow.Author.Tests.{tests}
use Rattle.dt_patch.specs.View.Order.{is_zero}
use Rattle.dt_patch.proofs.view.ordering.lists.Goals as goal

pub returns : goal.returns
returns c =
    any_from_yields_List (λ string. bytes_eq string c.args.text.now) _ _ _ c.any.ensures.ran (YieldsList-from_slice_split _ is_zero c.args.value.now c.split.ensures.rest c.split.ensures.done c.split.ensures.closure (λ x r q k. search (rules, tests)))
    (λ x r q k. search (rules, tests))
