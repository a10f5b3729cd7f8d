use Rattle.dtman_blobs.proofs.WideningLemmas.{boot_is, not_short}
use Rattle.dtman_blobs.proofs.widening.set_boot_cpu.Goals as goal

pub returns-then-blob-lt-HEADER_SIZE : goal.returns-then-blob-lt-HEADER_SIZE
returns-then-blob-lt-HEADER_SIZE c = λ tree e. absurd (not_short tree c.args.blob.now e c.if-blob-lt-HEADER_SIZE.true)

pub returns : goal.returns
returns c = λ tree e. boot_is tree c.args.number c.args.blob.now _ e c.put_boot_cpu.ensures
