use Rattle.std.proofs.Common.{not, ap, sym, ◌∙◌}
use Rattle.std.specs.List.{list_all}
use Rattle.bus_board.specs.Ends.{suppliers_bound, is_still}
use Rattle.bus_board.specs.Words.{word_at, is_bound_word}
use Rattle.bus_board.proofs.closing.is_still.Goals as goal

pub returns-in-Waiting : goal.returns-in-Waiting
returns-in-Waiting c =
    let words = c.args.words.now in
    ap not (c.are_bound.ensures ∙ ap (list_all (λ d. is_bound_word (word_at words d))) c.suppliers.ensures)
    ∙ ap (λ w. is_still w (suppliers_bound c.args.plan.now words c.args.device)) (sym c.in-Waiting.is ∙ c.word_of.ensures)
