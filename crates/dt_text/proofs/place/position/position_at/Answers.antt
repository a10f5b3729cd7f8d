use Rattle.dt_text.proofs.PlaceLemmas.Sites.{read_here}
use Rattle.dt_text.proofs.place.position.position_at.Goals as goal

pub returns : goal.returns
returns c = read_here _ _ _ _ c.requires.0 c.requires.1 c.requires.3
