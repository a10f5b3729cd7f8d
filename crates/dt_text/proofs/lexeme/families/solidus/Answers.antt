use Rattle.std.proofs.Common.{sym, ap, ◌∙◌}
use Rattle.dt_text.specs.Lexeme.Families.{keyword_in}
use Rattle.dt_text.proofs.LexemeLemmas.Begins.{keyword_kind, slash_kind, slash_only}
use Rattle.dt_text.proofs.lexeme.families.solidus.Goals as goal

pub returns-in_default : goal.returns-in_default
returns-in_default c = slash_only c.args.language c.args.s.now c.in_default.ensures

pub returns-in-Some-keyword_in : goal.returns-in-Some-keyword_in
returns-in-Some-keyword_in c = keyword_kind c.args.language c.args.s.now c.in-Some.n c.in-Some-keyword_in.kind c.in-Some.ensures (ap (keyword_in c.args.language) (sym c.front.ensures) ∙ sym c.in-Some-keyword_in.ensures)

pub returns-in-None : goal.returns-in-None
returns-in-None c = slash_kind c.args.language c.args.s.now c.in-Some.n c.in-Some.ensures (ap (keyword_in c.args.language) (sym c.front.ensures) ∙ sym c.in-None.ensures)
