use Rattle.dt_blob.proofs.HeldBlob.{blob_holds}
use Rattle.dt_blob.proofs.read_laws.blob_holds.Goals as goal

pub returns : goal.returns
returns c = blob_holds
