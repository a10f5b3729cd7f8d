-- What is left of a core when its open flights are dropped.
use Rattle.std.specs.Prelude.{◌≡◌, ℕ, false}
use Rattle.bus_core.specs.CoreState.{CoreValue, is_in_flight}

-- a device's flight, if it had one, was dropped
pub record IsEased (old new : CoreValue) (device : ℕ) : Type 0 where
  pub plan : new.plan ≡ old.plan
  pub history : new.state.history ≡ old.state.history
  pub here : is_in_flight new.state device ≡ false
  pub others : (d : ℕ) → is_in_flight old.state d ≡ false → is_in_flight new.state d ≡ false
