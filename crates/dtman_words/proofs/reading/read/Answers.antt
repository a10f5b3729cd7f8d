-- The definition is a simple one, so the words alone say what is met.
use Rattle.std.proofs.Common.{Option, ap, subst, map, ◌∙◌}
use Rattle.std.specs.Prelude.{IfSome}
use Rattle.clap.specs.Words.{App, is_simple, subcommand_of}
use Rattle.clap.specs.Simple.{subcommand_rows_of}
use Rattle.dtman_words.specs.CommandLine.{Meets}
use Rattle.dtman_words.specs.declared.subcommand.Command.{Command}
use Rattle.dtman_words.proofs.MetLemmas.{dtman_is_simple}
use Rattle.dtman_words.proofs.reading.read.Goals as goal

pub returns-in-Some : goal.returns-in-Some
returns-in-Some c =
    let words = map (λ word. word.now) c.args.words.now in
    let defined = c.requires in
    let matches = c.in_ok-matches.ensures.ok.2 (ap is_simple defined ∙ dtman_is_simple) in
    let met = subst (λ (o : Option Command). IfSome o (λ command. Meets command (subcommand_rows_of c.in_ok-matches.matches))) c.in-Some.is c.in_ok-command.ensures in
    subst (λ met. Meets c.in-Some.command met) (matches.1 ∙ ap (λ (a : App). subcommand_of a words) defined) met
