-- All words are 0.
use Rattle.bus_manager.proofs.SeenLemmas.{zeros_see}
use Rattle.bus_manager.proofs.seen.Seen.new.Goals as goal

pub returns : goal.returns
returns c = λ d. zeros_see 64 d
