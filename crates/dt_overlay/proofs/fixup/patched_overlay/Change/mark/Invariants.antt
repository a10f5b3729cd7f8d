use Rattle.std.proofs.Common.{◌≡◌, ◌≤◌, ◌||◌, ◌&&◌, ℕ, Some, length, nat_le, nat_lt}
use Rattle.dt_overlay.specs.Fixup.Private.Steps.{is_marked}
use Rattle.dt_overlay.proofs.fixup.patched_overlay.Change.mark.Given as goal

abbrev pub invariant-loop-index : goal.invariant-loop-index
invariant-loop-index l = record {
  bytes : l.self.bytes ≡ l.fn.self.bytes;
  wide : length l.self.bytes.items ≤ length l.self.taken.items;
  marks : (i : ℕ) → is_marked (Some l.self) i ≡ ((nat_le l.fn.offset i && nat_lt i l.index) || is_marked (Some l.fn.self) i);
}
