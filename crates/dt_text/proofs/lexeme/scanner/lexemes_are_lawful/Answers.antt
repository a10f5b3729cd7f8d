use Rattle.dt_text.proofs.LexemeLemmas.LexemeForms.{lexemes_lawful}
use Rattle.dt_text.proofs.lexeme.scanner.lexemes_are_lawful.Goals as goal

pub returns : goal.returns
returns c = lexemes_lawful
