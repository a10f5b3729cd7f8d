use Rattle.std.proofs.Common.{sym}
use Rattle.dt_text.proofs.IncludeLemmas.WordsHere.{run_passed}
use Rattle.dt_text.proofs.include.words.piece_at.Goals as goal

pub returns : goal.returns
returns c =
    run_passed c.args.s.now c.behind.result.now c.run_len.result c.requires (sym c.if-begins.ensures.value) (sym c.if-begins-2.ensures.value) (sym c.if-begins-3.ensures.value) c.run_len.ensures c.behind.ensures
