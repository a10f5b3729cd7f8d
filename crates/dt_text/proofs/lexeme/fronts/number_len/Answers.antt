use Rattle.std.proofs.Common.{List, ℕ, subst}
use Rattle.dt_text.specs.Lexeme.Fronts.{IsFront, suffix}
use Rattle.dt_text.proofs.LexemeLemmas.Numbers.{number_front}
use Rattle.dt_text.proofs.lexeme.fronts.number_len.Goals as goal

pub returns : goal.returns
returns c = number_front c.args.class c.args.s.now c.run_len-digits.result c.suffix_len.result c.run_len-digits.ensures (subst (λ (t : List ℕ). IsFront suffix t c.suffix_len.result) c.from.ensures c.suffix_len.ensures)
