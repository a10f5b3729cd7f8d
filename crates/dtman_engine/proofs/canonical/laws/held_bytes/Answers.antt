use Rattle.dtman_engine.proofs.CanonicalLemmas.HeldBytes as held
use Rattle.dtman_engine.proofs.canonical.laws.held_bytes.Goals as goal

pub returns : goal.returns
returns c = held.held_bytes
