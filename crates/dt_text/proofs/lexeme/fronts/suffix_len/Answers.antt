use Rattle.std.proofs.Common.{List, ℕ, subst, sym}
use Rattle.dt_text.specs.Lexeme.Fronts.{IsFront, ells}
use Rattle.dt_text.proofs.LexemeLemmas.Numbers.{suffix_u}
use Rattle.dt_text.proofs.lexeme.fronts.suffix_len.Goals as goal

pub returns-then-begins : goal.returns-then-begins
returns-then-begins c = suffix_u c.args.s.now c.ells_len.result (sym c.if-begins.ensures.value) (subst (λ (t : List ℕ). IsFront ells t c.ells_len.result) c.from.ensures c.ells_len.ensures)
