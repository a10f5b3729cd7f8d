use Rattle.std.proofs.Common.{◌≡◌, ◌<◌, ◌≤◌, ℕ, false, Ok}
use Rattle.dt_live.specs.ByRow.{row_property}
use Rattle.dt_source.specs.OverlayMeaning.Shifted.{raised_phandle, with_value}
use Rattle.dt_overlay.specs.Fixup.PatchedOverlay.{change_at, value_at}
use Rattle.dt_overlay.specs.Fixup.Private.Steps.{is_marked}
use Rattle.dt_overlay.proofs.fixup.raising.raise_properties.Given as goal

abbrev pub invariant-loop-property : goal.invariant-loop-property
invariant-loop-property l = record {
  live : l.patched.live ≡ l.fn.patched.live;
  unmarked : (k i : ℕ) → is_marked (change_at l.patched k) i ≡ false;
  done : (k : ℕ) → k < l.property → raised_phandle l.fn.shift (row_property l.fn.patched.live k) ≡ Ok (with_value (row_property l.fn.patched.live k) (value_at l.patched k));
  rest : (k : ℕ) → l.property ≤ k → value_at l.patched k ≡ (row_property l.fn.patched.live k).value;
}
