use Rattle.std.proofs.Common.{◌∙◌, None, ap, length, slice_index_or}
use Rattle.dt_live.specs.Flattened.{lists}
use Rattle.dt_overlay.specs.Fixup.PatchedOverlay.{change_at}
use Rattle.dt_overlay.proofs.FixupLemmas.Composed.{fragments-refused}
use Rattle.dt_overlay.proofs.FixupLemmas.Flattening.{none-of}
use Rattle.dt_overlay.proofs.fixup.shifting.shift.Goals as goal

pub returns-in-Err-clause-patched : goal.returns-in-Err-clause-patched
returns-in-Err-clause-patched c = fragments-refused (lists c.args.base.now) (lists c.args.over) c.in-Err.error c.in-Err.ensures.some

pub shift_values-requires-clause-unchanged : goal.shift_values-requires-clause-unchanged
shift_values-requires-clause-unchanged c k =
    ap (λ p. change_at p k) c.new-patched.ensures ∙ ap (λ cs. slice_index_or cs k None) c.in-Ok.ensures.none ∙ none-of (length c.args.over.properties.items) k
