use Rattle.std.proofs.Common.{◌≤◌, ℕ, List, length, subst, sym}
use Rattle.dt_blob.specs.Holds.{Holds}
use Rattle.dtman_engine.specs.Limits.{blob_limit}
use Rattle.dtman_dtc.proofs.forming.sorted.Goals as goal

pub returns-in-Ok-sort_bytes : goal.returns-in-Ok-sort_bytes
returns-in-Ok-sort_bytes g c = λ tree b.
    let fits = subst (λ (bytes : List ℕ). length bytes ≤ blob_limit) b.blob_is b.fits in
    let holds : Holds c.args.blob.now tree = subst (λ (bytes : List ℕ). Holds bytes tree) (sym b.blob_is) (c.blob_holds.ensures tree b.is fits) in
    c.in-Ok-sort_bytes.ensures.held tree holds
