use Rattle.std.proofs.Common.{append_assoc}
use Rattle.std.proofs.lemmas.Result.{IfOk-equal}
use Rattle.dt_blob.proofs.header.put_header.Goals as goal

pub returns : goal.returns
returns c =
    IfOk-equal c.put_word-10.result _ _ _ c.put_word-10.ensures (rw (c.in_ok-put_word-9.ensures, c.in_ok-put_word-8.ensures, c.in_ok-put_word-7.ensures, c.in_ok-put_word-6.ensures, c.in_ok-put_word-5.ensures, c.in_ok-put_word-4.ensures, c.in_ok-put_word-3.ensures, c.in_ok-put_word-2.ensures, c.in_ok-put_word.ensures) (simp append_assoc))
