use Rattle.dtman_words.proofs.Making.{argument_added}
use Rattle.dtman_words.proofs.grammar.add_argument.Goals as goal

pub returns : goal.returns
returns c = λ app rule makes is. argument_added c.args.command c.in_ok-command.command c.args.argument c.arg.result app rule c.in_ok-command.was c.requires c.arg.ensures makes is
