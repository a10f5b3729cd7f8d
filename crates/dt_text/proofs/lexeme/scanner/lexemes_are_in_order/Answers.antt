use Rattle.dt_text.proofs.LexemeLemmas.InOrder.{lexemes_above}
use Rattle.dt_text.proofs.lexeme.scanner.lexemes_are_in_order.Goals as goal

pub returns : goal.returns
returns c = lexemes_above
