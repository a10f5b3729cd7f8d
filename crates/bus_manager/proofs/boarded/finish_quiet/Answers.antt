use Rattle.std.proofs.Common.{refl}
use Rattle.bus_manager.specs.Seen.{sees}
use Rattle.bus_manager.proofs.Ended.{quiet-run}
use Rattle.bus_manager.proofs.boarded.finish_quiet.Goals as goal

pub returns-clause-ran : goal.returns-clause-ran
returns-clause-ran g c =
    quiet-run (g.P.Prober.attests c.args.prober.now c.args.plan.now) (sees c.args.before.now) c.args.plan.now c.args.words.now c.in_ok-report.report.items c.settle_by_words.new.notes.items c.requires.ends.0
    c.requires.ends.1 c.in_ok-report.ensures c.settle_by_words.ensures.notes c.settle_by_words.ensures.noted

pub settle_by_words-requires-clause-wide : goal.settle_by_words-requires-clause-wide
settle_by_words-requires-clause-wide g c = λ _ _. c.requires.ends.1.wide

pub settle_by_words-requires-clause-least : goal.settle_by_words-requires-clause-least
settle_by_words-requires-clause-least g c = λ _ _. c.requires.ends.1.least refl
