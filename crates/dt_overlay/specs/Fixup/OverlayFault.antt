-- What each error says of the meaning; want of memory says nothing of it.
use Rattle.std.specs.Prelude.{◌≡◌, Result, Ok, Err, MatchResult}
use Rattle.dt_source.specs.OverlayMeaning.Fault.{Fault}
use Rattle.dt_source.specs.OverlayMeaning.Fault as meaning
use Rattle.dt_overlay.specs.declared.fixup.error.OverlayError.{OverlayError}
use Rattle.dt_overlay.specs.declared.fixup.error.OverlayError.TheVariants.{NoMemory, NotOverlay, NoTarget, UnknownSymbol, BadFixup, PhandleOverflow, PhandleClash, TooDeep}

abbrev pub IsFault : {A : Type 0} → OverlayError → Result A Fault → Type 0
IsFault NoMemory r = Unit {0}
IsFault NotOverlay r = r ≡ Err meaning.NotOverlay
IsFault (NoTarget fragment fault) r = r ≡ Err meaning.NoTarget
IsFault (UnknownSymbol entry site fault) r = r ≡ Err meaning.UnknownSymbol
IsFault (BadFixup entry fault) r = r ≡ Err meaning.BadFixup
IsFault (PhandleOverflow place phandle shift) r = r ≡ Err meaning.PhandleOverflow
IsFault (PhandleClash clash) r = r ≡ Err meaning.PhandleClash
IsFault (TooDeep node target) r = r ≡ Err meaning.TooDeep

-- a call gives what the meaning gives, or has its fault
abbrev pub Gives : {A B : Type 0} → Result A Fault → (B → A) → Result B OverlayError → Type 0
Gives meant value result = MatchResult result (λ b. meant ≡ Ok (value b)) (λ e. IsFault e meant)

-- a call leaves behind what the meaning gives, or has its fault
abbrev pub Leaves : {A B : Type 0} → Result A Fault → A → Result B OverlayError → Type 0
Leaves meant value result = MatchResult result (λ _. meant ≡ Ok value) (λ e. IsFault e meant)
