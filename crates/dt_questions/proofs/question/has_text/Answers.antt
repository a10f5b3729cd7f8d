use Rattle.std.proofs.Common.{rules, ◌==◌}
use Rattle.std.proofs.lemmas.Iterator.Search.{any_from_yields_List}
use Rattle.std.proofs.lemmas.Iterator.Splits.{YieldsList-from_slice_split}
use Rattle.std.specs.Str.{bytes_eq}
use borrow.Author.Tests.{tests}
use Rattle.dt_questions.proofs.question.has_text.Goals as goal

pub returns : goal.returns
returns c =
    any_from_yields_List (λ s. bytes_eq s c.args.text.now) _ _ _ c.any.ensures.ran (YieldsList-from_slice_split _ (λ b. b == 0) c.args.value.now c.split.ensures.rest c.split.ensures.done c.split.ensures.closure (λ x r q k. search (rules, tests)))
    (λ x r q k. search (rules, tests))
