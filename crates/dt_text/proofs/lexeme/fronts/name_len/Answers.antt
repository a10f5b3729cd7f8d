use Rattle.std.proofs.Common.{List, ℕ, subst, Some}
use Rattle.std.specs.List.{list_all}
use Rattle.dt_text.specs.declared.lexeme.bytes.Class.TheVariants.{Name}
use Rattle.dt_text.specs.Lexeme.Bytes.{passes}
use Rattle.dt_text.specs.Lexeme.Fronts.{IsFront}
use Rattle.dt_text.proofs.LexemeLemmas.Runs.{capped}
use Rattle.dt_text.proofs.lexeme.fronts.name_len.Goals as goal

pub returns : goal.returns
returns c = capped 254 (list_all (passes Name)) c.args.s.now (Some c.run_len.result) (subst (λ (t : List ℕ). IsFront (list_all (passes Name)) t c.run_len.result) c.front.ensures c.run_len.ensures)
