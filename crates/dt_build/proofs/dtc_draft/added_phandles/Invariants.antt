use Rattle.std.proofs.Common.{◌≡◌, take}
use Rattle.std.specs.List.{filter}
use Rattle.dt_build.specs.Resolve.Private.Gone.{is_marked}
use Rattle.dt_build.specs.Private.DtcDrafts.{is_added}
use Rattle.dt_build.proofs.dtc_draft.added_phandles.Given as goal

abbrev pub invariant-loop-one : goal.invariant-loop-one
invariant-loop-one l = l.added.items ≡ filter (is_added l.live (is_marked l.own)) (take l.one-index l.phandles)
