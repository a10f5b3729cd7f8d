use Rattle.std.proofs.Common.{sym}
use Rattle.dt_text.specs.Include.Words.{open_comment}
use Rattle.dt_text.proofs.IncludeLemmas.WordsHere.{remark_passed}
use Rattle.dt_text.proofs.include.words.slash_at.Goals as goal

pub returns-in-Ok : goal.returns-in-Ok
returns-in-Ok c = remark_passed c.args.s.now c.in-Ok.rest.now (sym c.if-not-begins_remark.ensures) c.in-Ok.ensures.gap

pub returns-in-Err : goal.returns-in-Err
returns-in-Err c = open_comment (sym c.if-not-begins_remark.ensures) c.in-Err.ensures.gap
