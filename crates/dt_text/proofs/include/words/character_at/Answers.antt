use Rattle.std.proofs.Common.{List, ℕ, subst, Some, None, false}
use Rattle.dt_text.specs.Lexeme.Fronts.{Front, closes_character}
use Rattle.dt_text.specs.Include.Words.{open_character}
use Rattle.dt_text.proofs.IncludeLemmas.WordsHere.{character_passed}
use Rattle.dt_text.proofs.include.words.character_at.Goals as goal

pub returns-in-Some : goal.returns-in-Some
returns-in-Some c = character_passed c.args.s.now c.behind-in-Some.result.now c.in-Some.len c.requires (subst (λ (t : List ℕ). Front (closes_character false) t (Some c.in-Some.len)) c.behind.ensures c.in-Some.ensures) c.behind-in-Some.ensures

pub returns-in-None : goal.returns-in-None
returns-in-None c = open_character c.requires (subst (λ (t : List ℕ). Front (closes_character false) t None) c.behind.ensures c.in-None.ensures)
