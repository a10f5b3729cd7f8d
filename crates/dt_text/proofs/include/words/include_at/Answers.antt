use Rattle.std.proofs.Common.{List, ℕ, subst, sym}
use Rattle.dt_text.specs.Include.Words.{Quoted}
use Rattle.dt_text.proofs.include.words.include_at.Goals as goal

pub returns-in_default : goal.returns-in_default
returns-in_default c = (c.requires, λ name t k. c.in_default.ensures name t (subst (λ (v : List ℕ). Quoted v name t) (sym c.behind.ensures) k))
