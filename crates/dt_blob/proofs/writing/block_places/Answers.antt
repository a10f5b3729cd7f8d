use Rattle.std.proofs.Common.{length, ap, inr, arith}
use Rattle.dt_blob.specs.Blob.{blob_of}
use Rattle.dt_blob.specs.Token.{tree_tokens}
use Rattle.dt_blob.specs.Steps.Written.{tokens_size}
use Rattle.dt_blob.proofs.Blocks.{blob-size, no-room}
use Rattle.dt_blob.proofs.writing.block_places.Goals as goal

pub returns-in_err-structure_at : goal.returns-in_err-structure_at
returns-in_err-structure_at c =
    no-room c.from_residual.result _ _ _ (blob_of c.args.tree.now) c.from_residual.ensures.1 (inr c.in_err-structure_at.ensures)
    (omega (arith, blob-size c.args.tree.now c.check.ensures, ap length c.reserves.ensures))

pub returns-in_err-strings_at : goal.returns-in_err-strings_at
returns-in_err-strings_at c =
    no-room c.from_residual-in_err-strings_at.result _ _ _ (blob_of c.args.tree.now) c.from_residual-in_err-strings_at.ensures.1 (inr c.in_err-strings_at.ensures)
    (omega (arith, blob-size c.args.tree.now c.check.ensures, ap length c.reserves.ensures, c.in_ok-structure_at.ensures.0, ap (λ r. tokens_size (tree_tokens r)) c.root.ensures))
