use Rattle.dt_blob.proofs.Zeros.{zero_first}
use Rattle.dt_blob.proofs.read_token.zero_place.Goals as goal

pub returns-clause-place : goal.returns-clause-place
returns-clause-place c = zero_first c.args.bytes.now c.find_byte.result c.find_byte.ensures
