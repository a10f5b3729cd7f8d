use Rattle.std.proofs.Common.{◌≡◌, ℕ, ◌<◌, length, drop}
use Rattle.std.specs.Prelude.{◌||◌}
use Rattle.bus_links.specs.Links.{flag_at}
use Rattle.bus_plan.specs.Reach.Reached.{is_in}
use Rattle.bus_picture.proofs.showing.flag_all.Given as goal

-- the flags so far and those of the devices that are left are all
abbrev pub invariant-loop-device : goal.invariant-loop-device
invariant-loop-device l = record {
  long : length l.flags.items ≡ length l.fn.flags.items;
  set : (d : ℕ) → d < length l.fn.flags.items
      → (flag_at l.flags.items d || is_in (drop l.device-index l.devices) d) ≡ (flag_at l.fn.flags.items d || is_in l.devices d);
}
