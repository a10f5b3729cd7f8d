use Rattle.dt_text.proofs.LexemeLemmas.Begins.{label_kind, no_label_kind, hex_label_kind}
use Rattle.dt_text.proofs.lexeme.families.family.Goals as goal

pub returns-in-Some : goal.returns-in-Some
returns-in-Some c = rw (c.in-Letter.is) (label_kind c.args.s.now c.in-Some.n c.in-Some.ensures)

pub returns-in-Some-label_len : goal.returns-in-Some-label_len
returns-in-Some-label_len c = rw (c.in-HexLetter.is) (hex_label_kind c.args.s.now c.in-Some-label_len.n c.in-Some-label_len.ensures)

pub returns-in-None : goal.returns-in-None
returns-in-None c = rw (c.in-Letter.is) (no_label_kind c.args.s.now c.name_len.result c.in-None.ensures c.name_len.ensures)
