-- What a caller gets of a view's bytes and numbers.
use Rattle.std.specs.Prelude.{◌≡◌, ℕ, List, Option, Some, None}
use Rattle.dtman_view_c.specs.declared.parts.Reservation.{Reservation}
use Rattle.dtman_view_c.specs.declared.parts.ViewPart.{ViewPart}
use Rattle.dtman_view_c.specs.declared.told.ViewTold.{ViewTold}
use Rattle.dtman_view_c.specs.Told.{done, nothing}

-- the bytes, where there are any
abbrev pub IsPart : Option (List ℕ) → ViewPart → ViewTold → Type 0
IsPart (Some bytes) part told = (told ≡ done 0) × (part.bytes.now ≡ bytes)
IsPart None part told = told ≡ nothing

abbrev pub IsPair : Option (ℕ × ℕ) → Reservation → ViewTold → Type 0
IsPair (Some pair) into told = (told ≡ done 0) × (into.address ≡ pair.0) × (into.size ≡ pair.1)
IsPair None into told = told ≡ nothing

-- what is asked for, where it is there
abbrev pub IsGiven : {A : Type 0} → Option A → A → ViewTold → Type 0
IsGiven (Some it) into told = (told ≡ done 0) × (into ≡ it)
IsGiven None into told = told ≡ nothing
