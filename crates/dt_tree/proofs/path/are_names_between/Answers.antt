use Rattle.std.proofs.Common.{rules}
use Rattle.std.proofs.lemmas.Iterator.Search.{all_from_yields_List}
use Rattle.std.proofs.lemmas.Iterator.Splits.{YieldsList-from_slice_split}
use borrow.Author.Tests.{tests}
use Rattle.dt_tree.specs.Name.{is_name}
use Rattle.dt_tree.specs.Path.{is_slash}
use Rattle.dt_tree.proofs.path.are_names_between.Goals as goal

pub returns : goal.returns
returns c =
    all_from_yields_List is_name _ _ _ c.all.ensures.ran (YieldsList-from_slice_split _ is_slash c.args.rest.now c.split.ensures.rest c.split.ensures.done c.split.ensures.closure (λ x r q k. search (rules, tests)))
    (λ x r q k. search (rules, tests))
