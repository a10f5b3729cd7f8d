use Rattle.std.proofs.Common.{sym}
use Rattle.dt_overlay.proofs.fragments.target_fault.Goals as goal

pub value-requires : goal.value-requires
value-requires c =
    record { known = (c.check.ensures.whole.sound.properties.right c.args.fragment c.as_slice.result.now c.in-Some.row (sym c.in-Some.ensures)).0 }

pub value-requires-in-Some-property : goal.value-requires-in-Some-property
value-requires-in-Some-property c =
    record { known = (c.check.ensures.whole.sound.properties.right c.args.fragment c.as_slice-2.result.now c.in-Some-property.row (sym c.in-Some-property.ensures)).0 }
