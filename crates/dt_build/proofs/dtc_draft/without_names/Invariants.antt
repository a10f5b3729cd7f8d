use Rattle.std.proofs.Common.{◌≡◌, take}
use Rattle.dt_build.specs.Private.DtcDrafts.{kept_properties}
use Rattle.dt_build.proofs.dtc_draft.without_names.Given as goal

abbrev pub invariant-loop-property : goal.invariant-loop-property
invariant-loop-property l = l.kept.items ≡ kept_properties l.live (take l.property-index l.properties)
