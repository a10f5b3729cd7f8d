use Rattle.dtman_words.proofs.Making.{subcommand_added}
use Rattle.dtman_words.proofs.grammar.add_subcommand.Goals as goal

pub returns : goal.returns
returns c = λ app other makes beside. subcommand_added c.args.command c.args.subcommand c.in_ok-command.command c.in_ok-subcommand.subcommand c.subcommand.result app other c.in_ok-command.was c.in_ok-subcommand.was c.subcommand.ensures makes beside
