use Rattle.std.proofs.Common.{◌≡◌, ◌-◌, ◌*◌, ◌/◌, drop, length}
use Rattle.dt_live.specs.Rows.{node_path}
use Rattle.dt_source.specs.TreeMeaning.Edits.{definition}
use Rattle.dt_source.specs.OverlayMeaning.Shifted.{raise_sites}
use Rattle.dt_overlay.proofs.FixupLemmas.LocalSteps.{IsReached, numbers, sites_step}
use Rattle.dt_overlay.proofs.fixup.local.raise_value.Given as goal

abbrev pub invariant-loop-k : goal.invariant-loop-k
invariant-loop-k l = record {
  live : l.patched.live ≡ l.fn.patched.live;
  reached : IsReached (raise_sites l.shift (definition (node_path l.fn.patched.live l.fixup.node) l.fixup.name.now l.value))
      (sites_step l.shift (drop 1 (node_path l.fn.patched.live l.fixup.node)) l.fixup.name.now (numbers (length l.value / 4 - l.k) (drop (l.k * 4) l.value))) l.fn.patched l.patched;
}
