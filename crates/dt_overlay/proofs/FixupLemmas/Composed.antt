-- The steps of applying an overlay, one after the other.
use Rattle.std.proofs.Common.{◌≡◌, ℕ, true, false, List, [], ◌∷◌, Result, Ok, Err, refl, ap, sym, ◌∙◌, true≢false}
use Rattle.std.specs.List.{filter}
use Rattle.dt_tree.specs.Steps.{then_do, fold}
use Rattle.dt_source.specs.TreeMeaning.Resolved.{Resolved}
use Rattle.dt_source.specs.OverlayMeaning.Fault.{Fault, NotOverlay}
use Rattle.dt_source.specs.OverlayMeaning.Shifted.{Shifting, Value, fragments, is_fixups, is_local_fixup, raise_sites, shift, shifted_overlay, some_of, with_fixups, with_phandles}
use Rattle.dt_overlay.specs.declared.fixup.error.OverlayError.{OverlayError}
use Rattle.dt_overlay.specs.declared.fixup.patched_overlay.PatchedOverlay.{PatchedOverlay}
use Rattle.dt_overlay.specs.Fixup.OverlayFault.{IsFault}
use Rattle.dt_overlay.specs.Fixup.PatchedOverlay.{change_at, patched_lists}
use Rattle.dt_overlay.specs.Fixup.Private.Fragments.{are_some}
use Rattle.dt_overlay.specs.Fixup.Private.Steps.{IsAt, is_marked}
use Rattle.dt_overlay.proofs.FixupLemmas.Raised.{fault-by}

-- the state when the phandles have been raised
abbrev pub raised_at : List Value → Shifting
raised_at es = record { properties = es; sites = [] }

pub starts-at : (s : PatchedOverlay) → ((k i : ℕ) → is_marked (change_at s k) i ≡ false) → IsAt (raised_at (patched_lists s).properties) s
starts-at s unmarked = record { properties = refl; marks = λ k i below. unmarked k i }

some-by : (fs : List (List ℕ)) → are_some fs ≡ true → some_of fs ≡ Ok fs
some-by [] some = absurd (true≢false (sym some))
some-by (f ∷ fs) some = refl

pub none-by : (fs : List (List ℕ)) → are_some fs ≡ false → some_of fs ≡ Err NotOverlay
none-by [] none = refl
none-by (f ∷ fs) none = absurd (true≢false none)

module _ (base over : Resolved) where
  abbrev s : ℕ
  s = shift base

  abbrev whole : List Value → Resolved
  whole fs = record { nodes = over.nodes; properties = fs }

  abbrev fixed : Shifting → Result Resolved Fault
  fixed x = then_do (with_fixups base (filter is_fixups over.properties) x) (λ fs. Ok (whole fs))

  abbrev moved : List Value → Result Resolved Fault
  moved es = then_do (fold (raise_sites s) (filter is_local_fixup over.properties) (raised_at es)) fixed

  pub fragments-refused : (e : OverlayError) → IsFault e (some_of (fragments over)) → IsFault e (shifted_overlay base over)
  fragments-refused e fault = fault-by e (some_of (fragments over)) (shifted_overlay base over) (λ f is. ap (λ r. then_do r (λ _. then_do (with_phandles s over.properties) moved)) is) fault

  -- behind the test for fragments
  begun : are_some (fragments over) ≡ true → shifted_overlay base over ≡ then_do (with_phandles s over.properties) moved
  begun some = ap (λ r. then_do r (λ _. then_do (with_phandles s over.properties) moved)) (some-by (fragments over) some)

  pub phandles-refused : are_some (fragments over) ≡ true → (e : OverlayError) → IsFault e (with_phandles s over.properties) → IsFault e (shifted_overlay base over)
  phandles-refused some e fault = fault-by e (with_phandles s over.properties) (shifted_overlay base over) (λ f is. begun some ∙ ap (λ r. then_do r moved) is) fault

  raised : are_some (fragments over) ≡ true → (es : List Value) → with_phandles s over.properties ≡ Ok es → shifted_overlay base over ≡ moved es
  raised some es ok = begun some ∙ ap (λ r. then_do r moved) ok

  pub local-refused : are_some (fragments over) ≡ true → (es : List Value) → with_phandles s over.properties ≡ Ok es → (e : OverlayError)
      → IsFault e (fold (raise_sites s) (filter is_local_fixup over.properties) (raised_at es)) → IsFault e (shifted_overlay base over)
  local-refused some es ok e fault =
      fault-by e (fold (raise_sites s) (filter is_local_fixup over.properties) (raised_at es)) (shifted_overlay base over) (λ f is. raised some es ok ∙ ap (λ r. then_do r fixed) is) fault

  local-done : are_some (fragments over) ≡ true → (es : List Value) → with_phandles s over.properties ≡ Ok es → (y : Shifting)
      → fold (raise_sites s) (filter is_local_fixup over.properties) (raised_at es) ≡ Ok y → shifted_overlay base over ≡ fixed y
  local-done some es ok y done = raised some es ok ∙ ap (λ r. then_do r fixed) done

  pub fixups-refused : are_some (fragments over) ≡ true → (es : List Value) → with_phandles s over.properties ≡ Ok es → (y : Shifting)
      → fold (raise_sites s) (filter is_local_fixup over.properties) (raised_at es) ≡ Ok y → (e : OverlayError) → IsFault e (with_fixups base (filter is_fixups over.properties) y)
      → IsFault e (shifted_overlay base over)
  fixups-refused some es ok y done e fault =
      fault-by e (with_fixups base (filter is_fixups over.properties) y) (shifted_overlay base over) (λ f is. local-done some es ok y done ∙ ap (λ r. then_do r (λ fs. Ok (whole fs))) is) fault

  pub all-done : are_some (fragments over) ≡ true → (es : List Value) → with_phandles s over.properties ≡ Ok es → (y : Shifting)
      → fold (raise_sites s) (filter is_local_fixup over.properties) (raised_at es) ≡ Ok y → (fs : List Value) → with_fixups base (filter is_fixups over.properties) y ≡ Ok fs
      → shifted_overlay base over ≡ Ok (whole fs)
  all-done some es ok y done fs fixups = local-done some es ok y done ∙ ap (λ r. then_do r (λ xs. Ok (whole xs))) fixups
