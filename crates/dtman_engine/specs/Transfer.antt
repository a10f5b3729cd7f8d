-- What a channel has and gives, and why it doesn't.
use Rattle.std.specs.Prelude.{◌≡◌, ◌<◌, ◌≤◌, ◌⊎◌, ℕ, Bool, true, List, length, take, Option, IfSome}
use Rattle.std.specs.Io.KnownBytes.{Appends, Consumes, IsAtEnd}
use Rattle.dtman_engine.specs.declared.fault.Fault.{Fault}
use Rattle.dtman_engine.specs.declared.transfer.WriteFault.{WriteFault}
use Rattle.dtman_engine.specs.Fault.{fault_value, no_memory, cannot_read, file_too_long}

-- where it tells its bytes, more than so many are left
abbrev pub HasMore : Option (List ℕ) → ℕ → Type 0
HasMore left limit = IfSome left (λ bytes. limit < length bytes)

-- all that was left is taken, and no more than so many bytes
abbrev pub TakesAll : Option (List ℕ) → Option (List ℕ) → List ℕ → ℕ → Type 0
TakesAll before after bytes limit = (length bytes ≤ limit) × Consumes before after bytes × IsAtEnd after

-- the first bytes of a text are written, as many as the fault says
abbrev pub WritesFront : Option (List ℕ) → Option (List ℕ) → List ℕ → WriteFault → Type 0
WritesFront before after text fault = (fault.written ≤ length text) × Appends before after (take fault.written text)

-- why nothing is taken: memory is wanted, or a call has failed
abbrev pub CannotTake : Bool → Fault → Type 0
CannotTake has_failed fault = (fault_value fault ≡ no_memory) ⊎ ((fault_value fault ≡ cannot_read) × (has_failed ≡ true))

-- so it is where more is left than so many bytes, too
abbrev pub CannotTakeAll : Bool → Option (List ℕ) → ℕ → Fault → Type 0
CannotTakeAll has_failed left limit fault = CannotTake has_failed fault ⊎ ((fault_value fault ≡ file_too_long) × HasMore left limit)
