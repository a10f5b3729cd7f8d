-- Fixups, text by text.
use Rattle.std.proofs.Common.{◌≡◌, ℕ, ◌+◌, ◌<◌, ◌≤◌, Bool, true, false, List, [], ◌∷◌, ◌++◌, length, get_or, drop, Some, None, Ok, Err, refl, sym, ap, ◌∙◌, subst, append_assoc}
use Rattle.std.specs.Prelude.{Result}
use Rattle.std.specs.List.{filter, flat_map}
use Rattle.std.proofs.lemmas.List.{append-nil, at_drop_more, at_drop_all}
use Rattle.dt_tree.specs.Steps.{then_do, each}
use Rattle.dt_live.specs.declared.live_tree.LiveTree.{LiveTree}
use Rattle.dt_live.specs.ByRow.{row_property}
use Rattle.dt_live.specs.Flattened.{Lent}
use Rattle.dt_source.specs.OverlayMeaning.Fault.{Fault, BadFixup}
use Rattle.dt_source.specs.OverlayMeaning.Shifted.{Fixup, Site, Value, fixup_in, fixups_in, is_fixups, site_of}
use Rattle.dt_source.specs.OverlayMeaning.Texts.{parts}
use Rattle.dt_overlay.specs.declared.fixup.error.OverlayError.{OverlayError}
use Rattle.dt_overlay.specs.Fixup.OverlayFault.{IsFault}
use Rattle.dt_overlay.specs.Fixup.Private.Fixing.{gathered, row_fixups}
use Rattle.dt_overlay.proofs.FixupLemmas.LocalSteps.{definitions, definitions-end, definitions-step, fault-then}

-- ---- one after the other
-- what a loop has so far, and what is left
abbrev pub IsSoFar : {A : Type 0} → Result (List A) Fault → Result (List A) Fault → List A → List A → Type 0
IsSoFar {A} all rest old new = (fs : List A) × (all ≡ then_do rest (λ gs. Ok (fs ++ gs))) × (new ≡ old ++ fs)

then-ok : {A : Type 0} (r : Result (List A) Fault) → r ≡ then_do r (λ gs. Ok ([] ++ gs))
then-ok (Ok a) = refl
then-ok (Err e) = refl

pub so-far-start : {A : Type 0} (all : Result (List A) Fault) (old : List A) → IsSoFar all all old old
so-far-start all old = ([], then-ok all, sym (append-nil old))

then-then : {A B C : Type 0} (r : Result A Fault) (g : A → Result B Fault) (h : B → Result C Fault) → then_do (then_do r g) h ≡ then_do r (λ a. then_do (g a) h)
then-then (Ok a) g h = refl
then-then (Err e) g h = refl

regroup : {A : Type 0} (r : Result (List A) Fault) (fs gs : List A) → then_do r (λ hs. Ok (fs ++ (gs ++ hs))) ≡ then_do r (λ hs. Ok ((fs ++ gs) ++ hs))
regroup (Ok hs) fs gs = ap (λ xs. Ok xs) (sym (append_assoc fs gs hs))
regroup (Err e) fs gs = refl

pub so-far-more : {A : Type 0} (all rest step next : Result (List A) Fault) (old new newer : List A) → IsSoFar all rest old new
    → rest ≡ then_do step (λ gs. then_do next (λ hs. Ok (gs ++ hs))) → ((gs : List A) × (step ≡ Ok gs) × (newer ≡ new ++ gs)) → IsSoFar all next old newer
so-far-more all rest step next old new newer so splits added =
    let fs = so.0 in
    let gs = added.0 in (
      fs ++ gs,
      so.1 ∙ ap (λ r. then_do r (λ hs. Ok (fs ++ hs))) (splits ∙ ap (λ r. then_do r (λ gs. then_do next (λ hs. Ok (gs ++ hs)))) added.1)
          ∙ then-then next (λ hs. Ok (gs ++ hs)) (λ hs. Ok (fs ++ hs)) ∙ regroup next fs gs,
      added.2 ∙ ap (λ xs. xs ++ gs) so.2 ∙ append_assoc old fs gs,
    )

pub so-far-fault : {A : Type 0} (e : OverlayError) (all rest step next : Result (List A) Fault) (old new : List A) → IsSoFar all rest old new
    → rest ≡ then_do step (λ gs. then_do next (λ hs. Ok (gs ++ hs))) → IsFault e step → IsFault e all
so-far-fault {A} e all rest step next old new so splits h =
    subst (λ (r : Result (List A) Fault). IsFault e r) (sym (so.1 ∙ ap (λ r. then_do r (λ hs. Ok (so.0 ++ hs))) splits))
    (fault-then e (then_do step (λ gs. then_do next (λ hs. Ok (gs ++ hs)))) (λ hs. Ok (so.0 ++ hs)) (fault-then e step (λ gs. then_do next (λ hs. Ok (gs ++ hs))) h))

pub so-far-end : {A : Type 0} (all rest : Result (List A) Fault) (old new : List A) → IsSoFar all rest old new → rest ≡ Ok [] → (fs : List A) × (all ≡ Ok fs) × (new ≡ old ++ fs)
so-far-end all rest old new so none = (so.0, so.1 ∙ ap (λ r. then_do r (λ gs. Ok (so.0 ++ gs))) none ∙ ap (λ xs. Ok xs) (append-nil so.0), so.2)

-- ---- rows
gathered-step : (e : Value) (es : List Value) → gathered (e ∷ es) ≡ then_do (fixups_in e) (λ gs. then_do (gathered es) (λ hs. Ok (gs ++ hs)))
gathered-step e es = by (fixups_in e) (each fixups_in es) where
  by : (r : Result (List Fixup) Fault) (q : Result (List (List Fixup)) Fault)
      → then_do (then_do r (λ b. then_do q (λ bs. Ok (b ∷ bs)))) (λ fss. Ok (flat_map (λ f. f) fss)) ≡ then_do r (λ gs. then_do (then_do q (λ fss. Ok (flat_map (λ f. f) fss))) (λ hs. Ok (gs ++ hs)))
  by (Err f) q = refl
  by (Ok a) (Err f) = refl
  by (Ok a) (Ok b) = refl

one-gathered : (e : Value) → gathered (e ∷ []) ≡ fixups_in e
one-gathered e = by (fixups_in e) where
  by : (r : Result (List Fixup) Fault) → then_do (then_do r (λ b. Ok (b ∷ []))) (λ fss. Ok (flat_map (λ f. f) fss)) ≡ r
  by (Err f) = refl
  by (Ok a) = ap (λ xs. Ok xs) (append-nil a)

pub row-fixups : (d : LiveTree Lent) (k : ℕ) → is_fixups (row_property d k) ≡ true → row_fixups d k ≡ fixups_in (row_property d k)
row-fixups d k is = rw is (one-gathered (row_property d k))

pub row-none : (d : LiveTree Lent) (k : ℕ) → is_fixups (row_property d k) ≡ false → row_fixups d k ≡ Ok []
row-none d k other = rw other refl

rows-split : (e : Value) (es : List Value) (b : Bool) → is_fixups e ≡ b → gathered (filter is_fixups (e ∷ es)) ≡ then_do (gathered (filter is_fixups (e ∷ []))) (λ gs. then_do (gathered (filter is_fixups es)) (λ hs. Ok (gs ++ hs)))
rows-split e es true t = rw t (gathered-step e (filter is_fixups es) ∙ ap (λ r. then_do r (λ gs. then_do (gathered (filter is_fixups es)) (λ hs. Ok (gs ++ hs)))) (sym (one-gathered e)))
rows-split e es false t = rw t (then-ok (gathered (filter is_fixups es)))

pub rows-more : (d : LiveTree Lent) (k : ℕ) → k < length d.properties.items
    → gathered (filter is_fixups (definitions d k)) ≡ then_do (row_fixups d k) (λ gs. then_do (gathered (filter is_fixups (definitions d (k + 1)))) (λ hs. Ok (gs ++ hs)))
rows-more d k below' = ap (λ es. gathered (filter is_fixups es)) (definitions-step d k below') ∙ rows-split (row_property d k) (definitions d (k + 1)) (is_fixups (row_property d k)) refl

pub rows-end : (d : LiveTree Lent) (k : ℕ) → length d.properties.items ≤ k → gathered (filter is_fixups (definitions d k)) ≡ Ok []
rows-end d k past = ap (λ es. gathered (filter is_fixups es)) (definitions-end d k past)

-- ---- texts
pub texts-more : (f : List ℕ → Result Fixup Fault) (all : List (List ℕ)) (i : ℕ) (text : List ℕ) → (i < length all) × (text ≡ get_or all i text)
    → each f (drop i all) ≡ then_do (then_do (f text) (λ a. Ok (a ∷ []))) (λ gs. then_do (each f (drop (i + 1) all)) (λ hs. Ok (gs ++ hs)))
texts-more f all i text h = at_drop_more (each f) all i text h.0 ∙ ap (λ (x : List ℕ). then_do (f x) (λ b. then_do (each f (drop (i + 1) all)) (λ bs. Ok (b ∷ bs)))) (sym h.1) ∙ by (f text) (each f (drop (i + 1) all)) where
  by : (r : Result Fixup Fault) (q : Result (List Fixup) Fault) → then_do r (λ b. then_do q (λ bs. Ok (b ∷ bs))) ≡ then_do (then_do r (λ a. Ok (a ∷ []))) (λ gs. then_do q (λ hs. Ok (gs ++ hs)))
  by (Ok a) q = refl
  by (Err e) q = refl

pub texts-end : (f : List ℕ → Result Fixup Fault) (all : List (List ℕ)) (i : ℕ) → length all ≤ i → each f (drop i all) ≡ Ok []
texts-end f all i past = at_drop_all (each f) all i past

-- ---- one text
pub text-site : (l text : List ℕ) (a : Site) → site_of (parts 58 text) ≡ Some a → fixup_in l text ≡ Ok (record { symbol = l; at = a })
text-site l text a some = rw some refl

pub text-none : (l text : List ℕ) → site_of (parts 58 text) ≡ None → fixup_in l text ≡ Err BadFixup
text-none l text none = rw none refl
