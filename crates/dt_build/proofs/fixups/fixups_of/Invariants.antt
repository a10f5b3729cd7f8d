use Rattle.std.proofs.Common.{◌≡◌, ◌++◌, []}
use Rattle.dt_source.specs.TreeMeaning.Fixups.{fixups}
use Rattle.dt_live.specs.Builder.Lists.{defined_at}
use Rattle.dt_build.specs.Private.ByLabel.{fixups_path, given}
use Rattle.dt_build.specs.Private.Made.{made_sites}
use Rattle.dt_build.proofs.fixups.fixups_of.Given as goal

abbrev pub invariant-loop-label_fixups : goal.invariant-loop-label_fixups
invariant-loop-label_fixups l = defined_at fixups_path l.properties.items ++ given l.label_fixups-iterator.rest.items ≡ fixups (made_sites l.draft) []
