use Rattle.std.proofs.Common.{List, ℕ, subst}
use Rattle.dt_text.specs.Lexeme.Fronts.{Front, ends_label}
use Rattle.dt_text.proofs.LexemeLemmas.Runs.{capped}
use Rattle.dt_text.proofs.lexeme.fronts.label_len.Goals as goal

pub returns : goal.returns
returns c = capped 255 ends_label c.args.s.now c.label_end.result (subst (λ (t : List ℕ). Front ends_label t c.label_end.result) c.front.ensures c.label_end.ensures)
