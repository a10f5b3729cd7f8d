use Rattle.dt_text.proofs.LexemeLemmas.Scanning.{one_list}
use Rattle.dt_text.proofs.lexeme.scanner.one_list.Goals as goal

pub returns : goal.returns
returns c = one_list
