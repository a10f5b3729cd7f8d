-- The places of notes, when one of them is written.
use Rattle.std.proofs.Common.{◌≡◌, inl, inr, ℕ, ◌+◌, ◌<◌, Bool, List, Option, Some, None, length, set, get_or, refl, sym, ap, ◌∙◌, arith, length-set}
use Rattle.std.specs.Prelude.{is_some, replicate}
use Rattle.std.proofs.lemmas.Bool.{cases_eq, cases_lt}
use Rattle.std.proofs.lemmas.List.{get_or-set_same, get_or-set_other, get_or-replicate, get_or_past, length-replicate}
use Rattle.bus_plan.specs.Plan.{PlannedDevice}
use Rattle.bus_core.specs.declared.event.Report.{Report}
use Rattle.bus_manager.specs.Notes.{has_note}
use Rattle.bus_manager.specs.Private.Notes.{AreNotes, IsNoted, IsShown}

-- a place is written
pub put-notes : {N : Type 0} (attests : ℕ → (ℕ → Bool) → Report → N → Type 0) (plan : List PlannedDevice) (old new : List (Option N)) (d : ℕ) (x : Option N)
    → new ≡ set old d x → d < length plan → ((note : N) → x ≡ Some note → IsShown (attests d) plan d note) → AreNotes attests plan old → AreNotes attests plan new
put-notes attests plan old new d x is within told are = coe 1 0 (i. AreNotes attests plan (is i)) (record {
  places = length-set old d x ∙ are.places;
  attested = λ e note at. elim (cases_eq d e) [
    | inl same ↦
        let here : x ≡ Some note = sym (get_or-set_same old d x None (omega (arith, are.places))) ∙ (ap (λ k. get_or (set old d x) k None) same ∙ at)
        in coe 0 1 (i. IsShown (attests (same i)) plan (same i) note) (told note here)
    | inr other ↦ are.attested e note (sym (get_or-set_other old d e x None (λ q. other (sym q))) ∙ at)
  ];
})

pub put-noted : {N : Type 0} (settled : Bool) (old new : List (Option N)) (d : ℕ) (x : Option N)
    → new ≡ set old d x → d < length old → is_some x ≡ settled → IsNoted settled old new d
put-noted settled old new d x is within says = record {
  here = ap (λ xs. is_some (get_or xs d None)) is ∙ ap is_some (get_or-set_same old d x None within) ∙ says;
  others = λ e other. ap (λ xs. get_or xs e None) is ∙ get_or-set_other old d e x None other;
}

pub kept-noted : {N : Type 0} (settled : Bool) (notes : List (Option N)) (d : ℕ) → has_note notes d ≡ settled → IsNoted settled notes notes d
kept-noted settled notes d says = record { here = says; others = λ e other. refl }

-- one place more says whether its device has settled
pub noted-more : {N : Type 0} (settled : ℕ → Bool) (old new : List (Option N)) (n m : ℕ) (b : Bool) → m ≡ n → b ≡ settled m
    → ((d : ℕ) → d < n → has_note old d ≡ settled d) → IsNoted b old new m
    → (d : ℕ) → d < n + 1 → has_note new d ≡ settled d
noted-more settled old new n m b is says before one d within = elim (cases_eq d m) [
  | inl same ↦ ap (has_note new) same ∙ one.here ∙ says ∙ ap settled (sym same)
  | inr other ↦ ap is_some (one.others d other) ∙ before d (omega arith)
]

none-there : {N : Type 0} (none : Option N) (n d : ℕ) → get_or (replicate n none) d none ≡ none
none-there none n d = elim (cases_lt d n) [
  | inl within ↦ get_or-replicate n d none none within
  | inr past ↦ get_or_past (replicate n none) d none (rw (length-replicate n none) past)
]

-- no note at all
pub no-notes : {N : Type 0} (attests : ℕ → (ℕ → Bool) → Report → N → Type 0) (plan : List PlannedDevice) (notes : List (Option N)) → notes ≡ replicate (length plan) None → AreNotes attests plan notes
no-notes attests plan notes is = coe 1 0 (i. AreNotes attests plan (is i)) (record {
  places = length-replicate (length plan) None;
  attested = λ d note at. let no : None ≡ Some note = sym (none-there None (length plan) d) ∙ at in let never : ⊥ = cc in absurd never;
})
