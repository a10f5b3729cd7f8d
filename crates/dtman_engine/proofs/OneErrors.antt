-- A meaning has one error that tells its fault, but for want of memory.
use Rattle.std.proofs.Common.{◌≡◌, ◌⊎◌, inl, inr, Option, Some, None, Result, Ok, Err, refl, sym, ap, ◌∙◌}
use Rattle.dt_source.specs.TreeMeaning.Statements as meaning
use Rattle.dt_build.specs.declared.resolve.error.BuildErrorKind.{BuildErrorKind}
use Rattle.dt_build.specs.declared.resolve.error.BuildErrorKind.TheVariants as builds
use Rattle.dt_build.specs.Resolve.BuildFault as build
use Rattle.dt_source.specs.OverlayMeaning.Fault as applied
use Rattle.dt_overlay.specs.declared.fixup.error.OverlayError.{OverlayError}
use Rattle.dt_overlay.specs.declared.fixup.error.OverlayError.TheVariants as overlays
use Rattle.dt_overlay.specs.Fixup.OverlayFault as overlay
use Rattle.dtman_engine.specs.Fault.{FaultValue, no_memory}
use Rattle.dtman_engine.specs.OverlayFaults.{meant_fault, overlay_fault}

pub same-lists : {A B : Type 0} (r : Result A B) (x y : A) → r ≡ Ok x → r ≡ Ok y → x ≡ y
same-lists r x y one other = cc

same-some : {A : Type 0} (x y : A) → Some x ≡ Some y → x ≡ y
same-some x y e = cc

not-none : {A : Type 0} (x : A) → Some x ≡ None → ⊥
not-none x e = cc

-- two of which each is none or that of a meaning
module _ {E : Type 0} (none : E) (told : Option E) where
  one-of : (x y : E) → (x ≡ none) ⊎ (Some x ≡ told) → (y ≡ none) ⊎ (Some y ≡ told) → (x ≡ none) ⊎ (y ≡ none) ⊎ (x ≡ y)
  one-of x y (inl is) why = inl is
  one-of x y (inr is) (inl also) = inr (inl also)
  one-of x y (inr is) (inr also) = inr (inr (same-some x y (is ∙ sym also)))

  none-of : (x : E) → told ≡ None → (x ≡ none) ⊎ (Some x ≡ told) → x ≡ none
  none-of x untold (inl is) = is
  none-of x untold (inr is) = absurd (not-none x (is ∙ untold))

-- ---- of a source
abbrev build_error : meaning.Fault → BuildErrorKind
build_error meaning.UnknownLabel = builds.UnknownLabel
build_error meaning.DuplicateLabel = builds.DuplicateLabel
build_error meaning.UnknownPath = builds.UnknownPath
build_error meaning.BadPhandle = builds.BadPhandle
build_error meaning.DuplicatePhandle = builds.DuplicatePhandle
build_error meaning.DuplicateInBody = builds.DuplicateInBody
build_error meaning.PathInPlugin = builds.PathInPlugin
build_error meaning.ReservedName = builds.ReservedName
build_error meaning.TooDeep = builds.TooDeep

abbrev build_error_in : {A : Type 0} → Result A meaning.Fault → Option BuildErrorKind
build_error_in (Ok a) = None
build_error_in (Err fault) = Some (build_error fault)

built : {A : Type 0} (r : Result A meaning.Fault) (e : BuildErrorKind) → build.IsFault e r → (e ≡ builds.NoMemory) ⊎ (Some e ≡ build_error_in r)
built r builds.NoMemory is = inl refl
built r builds.UnknownLabel is = inr (sym (ap build_error_in is))
built r builds.DuplicateLabel is = inr (sym (ap build_error_in is))
built r builds.UnknownPath is = inr (sym (ap build_error_in is))
built r builds.BadPhandle is = inr (sym (ap build_error_in is))
built r builds.DuplicatePhandle is = inr (sym (ap build_error_in is))
built r builds.DuplicateInBody is = inr (sym (ap build_error_in is))
built r builds.PathInPlugin is = inr (sym (ap build_error_in is))
built r builds.ReservedName is = inr (sym (ap build_error_in is))
built r builds.TooDeep is = inr (sym (ap build_error_in is))

pub one-built : {A : Type 0} (r : Result A meaning.Fault) (x y : BuildErrorKind) → build.IsFault x r → build.IsFault y r → (x ≡ builds.NoMemory) ⊎ (y ≡ builds.NoMemory) ⊎ (x ≡ y)
one-built r x y one other = one-of builds.NoMemory (build_error_in r) x y (built r x one) (built r y other)

-- where there is a tree nothing but want of memory is told
pub none-built : {A : Type 0} (r : Result A meaning.Fault) (a : A) (e : BuildErrorKind) → r ≡ Ok a → build.IsFault e r → e ≡ builds.NoMemory
none-built r a e is why = none-of builds.NoMemory (build_error_in r) e (ap build_error_in is) (built r e why)

-- ---- of an overlay
abbrev meant_fault_in : {A : Type 0} → Result A applied.Fault → Option FaultValue
meant_fault_in (Ok a) = None
meant_fault_in (Err fault) = Some (meant_fault fault)

unapplied : {A : Type 0} (r : Result A applied.Fault) (e : OverlayError) → overlay.IsFault e r → (overlay_fault e ≡ no_memory) ⊎ (Some (overlay_fault e) ≡ meant_fault_in r)
unapplied r overlays.NoMemory is = inl refl
unapplied r overlays.NotOverlay is = inr (sym (ap meant_fault_in is))
unapplied r (overlays.NoTarget fragment fault) is = inr (sym (ap meant_fault_in is))
unapplied r (overlays.UnknownSymbol entry site fault) is = inr (sym (ap meant_fault_in is))
unapplied r (overlays.BadFixup entry fault) is = inr (sym (ap meant_fault_in is))
unapplied r (overlays.PhandleOverflow place phandle shift) is = inr (sym (ap meant_fault_in is))
unapplied r (overlays.PhandleClash clash) is = inr (sym (ap meant_fault_in is))
unapplied r (overlays.TooDeep node target) is = inr (sym (ap meant_fault_in is))

pub one-unapplied : {A : Type 0} (r : Result A applied.Fault) (x y : OverlayError) → overlay.IsFault x r → overlay.IsFault y r
    → (overlay_fault x ≡ no_memory) ⊎ (overlay_fault y ≡ no_memory) ⊎ (overlay_fault x ≡ overlay_fault y)
one-unapplied r x y one other = one-of no_memory (meant_fault_in r) (overlay_fault x) (overlay_fault y) (unapplied r x one) (unapplied r y other)

pub none-unapplied : {A : Type 0} (r : Result A applied.Fault) (a : A) (e : OverlayError) → r ≡ Ok a → overlay.IsFault e r → overlay_fault e ≡ no_memory
none-unapplied r a e is why = none-of no_memory (meant_fault_in r) (overlay_fault e) (ap meant_fault_in is) (unapplied r e why)

-- ---- faults that tell errors
pub told : {E F : Type 0} (fault : E → F) (x y none : E) (one other memory : F) → one ≡ fault x → other ≡ fault y → fault none ≡ memory
    → (x ≡ none) ⊎ (y ≡ none) ⊎ (x ≡ y) → (one ≡ memory) ⊎ (other ≡ memory) ⊎ (one ≡ other)
told fault x y none one other memory is also wanted (inl e) = inl (is ∙ ap fault e ∙ wanted)
told fault x y none one other memory is also wanted (inr (inl e)) = inr (inl (also ∙ ap fault e ∙ wanted))
told fault x y none one other memory is also wanted (inr (inr e)) = inr (inr (is ∙ ap fault e ∙ sym also))
