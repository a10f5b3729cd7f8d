-- The values that the option has, or none.
use Rattle.std.proofs.Common.{List, ap, map, ◌∙◌}
use Rattle.std.specs.Borrow.{Bor}
use Rattle.clap.specs.Words.{Text}
use Rattle.dtman_words.proofs.MetLemmas.{all_values, no_values}
use Rattle.dtman_words.proofs.reading.all_texts.Goals as goal

pub returns-in_ok-from_slice-in-Some : goal.returns-in_ok-from_slice-in-Some
returns-in_ok-from_slice-in-Some c =
    ap (λ (texts : List (Bor Text)). map (λ text. text.now) texts) c.in_ok-from_slice-in-Some.ensures.items
    ∙ all_values c.args.given.now c.args.name.now _ c.in-Some.ensures

pub returns-in-None : goal.returns-in-None
returns-in-None c =
    ap (λ (texts : List (Bor Text)). map (λ text. text.now) texts) c.new.ensures.items
    ∙ no_values c.args.given.now c.args.name.now c.in-None.ensures
