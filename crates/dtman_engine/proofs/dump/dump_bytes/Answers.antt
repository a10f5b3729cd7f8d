-- A fault of the header is told by the reader.
use Rattle.std.proofs.Common.{rules}
use Rattle.dt_blob.specs.declared.error.BlobError.TheVariants.{BadLayout, TooLarge}
use Rattle.dtman_engine.proofs.dump.dump_bytes.Goals as goal

pub returns-in_err-tree-clause-bad_layout : goal.returns-in_err-tree-clause-bad_layout
returns-in_err-tree-clause-bad_layout c = let told = c.in_err-tree.ensures.header BadLayout in search rules

pub returns-in_err-tree-clause-too_large : goal.returns-in_err-tree-clause-too_large
returns-in_err-tree-clause-too_large c = let told = c.in_err-tree.ensures.header TooLarge in search rules
