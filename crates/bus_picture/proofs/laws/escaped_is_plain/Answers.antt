use Rattle.bus_picture.proofs.EscapeLemmas.{is_plain_all}
use Rattle.bus_picture.proofs.laws.escaped_is_plain.Goals as goal

pub returns : goal.returns
returns c = is_plain_all
