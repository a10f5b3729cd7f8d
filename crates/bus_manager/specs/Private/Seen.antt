-- A set of devices after one was put into it or taken out.
use Rattle.std.specs.Prelude.{◌≡◌, ◌≢◌, ℕ, Bool, true, List}
use Rattle.bus_core.specs.declared.event.Reply.{Reply}
use Rattle.bus_core.specs.declared.event.Reply.TheVariants.{Bound, Failed, Waiting, Again}
use Rattle.bus_manager.specs.Seen.{sees}

-- no other device has come or gone
pub record IsPut (old new : List ℕ) (device : ℕ) (is_in : Bool) : Type 0 where
  pub here : sees new device ≡ is_in
  pub others : (d : ℕ) → d ≢ device → sees new d ≡ sees old d

-- the set of bound devices after a finish of the device with this reply
abbrev pub IsSeenAfter : List ℕ → List ℕ → ℕ → Reply → Type 0
IsSeenAfter old new device Bound = IsPut old new device true
IsSeenAfter old new device Failed = new ≡ old
IsSeenAfter old new device Waiting = new ≡ old
IsSeenAfter old new device Again = new ≡ old
