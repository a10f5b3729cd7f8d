-- What the caller of a run does alone, once its workers have left: flights are dropped, and due devices probed.
use Rattle.std.specs.Prelude.{◌≡◌, ◌<◌, ◌≤◌, ◌+◌, ◌*◌, ℕ, true, false, length}
use Rattle.bus_plan.specs.declared.limits.TheConstants.{MAX_DEVICES}
use Rattle.bus_core.specs.CoreState.{is_in_flight}
use Rattle.bus_core.specs.Due.{is_quiet}
use Rattle.bus_manager.specs.Keeper.{KeeperValue}
use Rattle.bus_manager.specs.Private.Counts.{abandons}

-- no device of the plan is in flight
abbrev pub IsLanded : KeeperValue → Type 0
IsLanded k = (d : ℕ) → d < length k.plan → is_in_flight k.state d ≡ false

-- a device's flight, if it had one, was dropped
pub record IsDropped (old new : KeeperValue) (device : ℕ) : Type 0 where
  pub plan : new.plan ≡ old.plan
  pub here : is_in_flight new.state device ≡ false
  pub others : (d : ℕ) → is_in_flight old.state d ≡ false → is_in_flight new.state d ≡ false
  pub few : abandons new ≤ abandons old + 1

-- the begins that a run has at most: two a device, one for each dropped flight, and the one that is counted
abbrev pub most_begins : ℕ
most_begins = 3 * MAX_DEVICES + 1

-- a due device was begun, and its flight has ended by what its probe found
pub record IsDriven (old new : KeeperValue) : Type 0 where
  pub plan : new.plan ≡ old.plan
  pub landed : IsLanded new
  pub few : abandons new ≡ abandons old
  pub begins : new.state.begins ≡ old.state.begins + 1
  pub limit : new.state.begins ≤ most_begins

-- nothing was due and no flight open
abbrev pub StaysQuiet : KeeperValue → KeeperValue → Type 0
StaysQuiet old new = (new ≡ old) × (is_quiet new.plan new.state ≡ true)
