-- A name is put exactly where a refusal has the number.
use Rattle.std.proofs.Common.{◌≡◌, ◌≤◌, refl, subst, ℕ, Bool, true, List, [], ◌∷◌, Option, Some, None, nat_lt, arith}
use Rattle.std.specs.List.{flat_map, list_all}
use Rattle.std.proofs.lemmas.Grind.{common_steps}
use Rattle.dtman_engine.specs.Explain.{name_in, name_for, memory_faults, source_faults, build_faults, blob_faults, overlay_faults, text_faults, event_faults, run_faults, file_faults, preprocess_faults}
use Rattle.dtman_engine.specs.Fault.{FaultValue}
use Rattle.dtman_c.specs.declared.answer.Answer.{Answer}
use Rattle.dtman_c.specs.Crossing.{IsPut, unnamed}
use Rattle.dtman_c.specs.Naming.{IsNamePut}

pub named : (name before after : List ℕ) (told : Answer) (found : Option (List ℕ)) → Some name ≡ found → IsPut name before after told → IsNamePut found before after told
named name before after told found is put = subst (λ (o : Option (List ℕ)). IsNamePut o before after told) is put

pub nameless : (before : List ℕ) (told : Answer) (found : Option (List ℕ)) → None ≡ found → told ≡ unnamed → IsNamePut found before before told
nameless before told found is so = subst (λ (o : Option (List ℕ)). IsNamePut o before before told) is (so, refl)

-- ---- no refusal has a number past 255
abbrev below_256 : FaultValue → Bool
below_256 fault = nat_lt fault.number 256

none_past : (faults : List FaultValue) (number : ℕ) → list_all below_256 faults ≡ true → 256 ≤ number → name_in faults number ≡ None
none_past [] number all past = refl
none_past (fault ∷ faults) number all past = grind (arith, common_steps, all, past, none_past faults number)

pub unnamed_past : (number : ℕ) → 256 ≤ number → name_for number ≡ None
unnamed_past number past = none_past (flat_map (λ (faults : List FaultValue). faults) (memory_faults ∷ source_faults ∷ build_faults ∷ blob_faults ∷ overlay_faults ∷ text_faults ∷ event_faults ∷ run_faults ∷ file_faults ∷ preprocess_faults ∷ [])) number refl past
