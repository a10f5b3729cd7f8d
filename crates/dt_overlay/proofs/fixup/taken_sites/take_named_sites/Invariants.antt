use Rattle.std.proofs.Common.{◌≡◌, drop, map, take}
use Rattle.std.specs.Prelude.{All}
use Rattle.dt_overlay.specs.Fixup.Private.Fixing.{fixup_named}
use Rattle.dt_overlay.specs.Fixup.Private.TakenSites.{IsInside, fixup_taken}
use Rattle.dt_overlay.proofs.FixupLemmas.LocalSteps.{IsReached}
use Rattle.dt_overlay.proofs.FixupLemmas.TakenSiteLaws.{takes}
use Rattle.dt_overlay.proofs.fixup.taken_sites.take_named_sites.Given as goal

abbrev pub invariant-loop-fixup : goal.invariant-loop-fixup
invariant-loop-fixup l = record {
  live : l.patched.live ≡ l.fn.patched.live;
  reached : IsReached (takes (map fixup_named l.fixups)) (takes (map fixup_named (drop l.fixup-index l.fixups))) l.fn.patched l.patched;
  taken : map (fixup_taken l.fn.patched.live) l.taken.items ≡ map fixup_named (take l.fixup-index l.fixups);
  inside : All (IsInside l.patched) l.taken.items;
}
