use Rattle.std.proofs.Common.{◌≡◌, ℕ, Some, drop, map, length}
use Rattle.std.specs.Prelude.{IfSome}
use Rattle.dt_live.specs.Flattened.{lists}
use Rattle.dt_source.specs.OverlayMeaning.Shifted.{symbol_phandle}
use Rattle.dt_overlay.specs.Fixup.PatchedOverlay.{patched_lists, value_at}
use Rattle.dt_overlay.specs.Fixup.Private.TakenSites.{fixup_taken}
use Rattle.dt_overlay.proofs.FixupLemmas.WritingLaws.{writes}
use Rattle.dt_overlay.proofs.fixup.writing.write_sites.Given as goal

abbrev pub invariant-loop-site : goal.invariant-loop-site
invariant-loop-site l = record {
  live : l.patched.live ≡ l.fn.patched.live;
  lengths : (k : ℕ) → length (value_at l.patched k) ≡ length (value_at l.fn.patched k);
  last : IfSome l.last (λ both. symbol_phandle (lists l.base) both.0.now ≡ Some both.1);
  written : writes (lists l.base) (map (fixup_taken l.fn.patched.live) l.sites) (patched_lists l.fn.patched).properties ≡ writes (lists l.base) (map (fixup_taken l.fn.patched.live) (drop l.site-index l.sites)) (patched_lists l.patched).properties;
}
