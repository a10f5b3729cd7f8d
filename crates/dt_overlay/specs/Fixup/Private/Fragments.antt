-- Whether there are fragments (dt-object-internal, section 2).
use Rattle.std.specs.Prelude.{◌≡◌, Bool, true, false, List, [], ◌∷◌, Result, MatchResult}
use Rattle.dt_source.specs.TreeMeaning.Resolved.{Resolved}
use Rattle.dt_source.specs.OverlayMeaning.Shifted.{fragments, some_of}
use Rattle.dt_overlay.specs.declared.fixup.error.OverlayError.{OverlayError}
use Rattle.dt_overlay.specs.Fixup.OverlayFault.{IsFault}

-- the list isn't empty
abbrev pub are_some : {A : Type 0} → List A → Bool
are_some [] = false
are_some (x ∷ xs) = true

-- an overlay has a fragment, or the call has the fault
abbrev pub HasSome : {A : Type 0} → Resolved → Result A OverlayError → Type 0
HasSome over result = MatchResult result (λ _. are_some (fragments over) ≡ true) (λ e. IsFault e (some_of (fragments over)))
