use Rattle.std.proofs.Common.{List, ℕ, subst, sym}
use Rattle.dt_text.specs.Lexeme.Families.{IsLongest, slashed}
use Rattle.dt_text.specs.declared.lexeme.language.Language.TheVariants.{Dtc}
use Rattle.dt_text.proofs.IncludeLemmas.WordsHere.{slash_passed}
use Rattle.dt_text.proofs.include.words.words_at.Goals as goal

pub returns : goal.returns
returns c =
    slash_passed c.args.s.now c.behind-2.result.now c.solidus-len.result.0 c.solidus-len.result.1 c.requires.slash c.requires.remark (sym c.if-begins_include.ensures) (sym c.if-begins_incbin.ensures)
    (subst (λ (t : List ℕ). IsLongest (slashed Dtc) t c.solidus-len.result.0 c.solidus-len.result.1) c.behind.ensures c.solidus-len.ensures) c.behind-2.ensures
