use Rattle.std.proofs.Common.{refl}
use Rattle.std.proofs.lemmas.Result.{IfOk-equal}
use Rattle.dt_blob.proofs.writing.put_blocks.Goals as goal

pub returns : goal.returns
returns c =
    IfOk-equal c.put.result _ _ _ c.put.ensures (rw (c.in_ok-put_structure.ensures, c.in_ok-put_reservations.ensures, c.in_ok-put_header.ensures, c.root.ensures, c.reserves.ensures, c.boot_cpu.ensures) refl)
