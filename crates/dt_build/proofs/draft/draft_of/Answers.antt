use Rattle.std.proofs.Common.{◌∙◌, refl}
use Rattle.dt_build.proofs.draft.draft_of.Goals as goal

pub returns : goal.returns
returns c = (c.in_ok-added.added, c.in_ok-added.ensures.items ∙ c.as_slice.ensures.value, refl)
