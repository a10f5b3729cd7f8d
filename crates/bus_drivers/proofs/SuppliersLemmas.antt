-- Suppliers that are added while a device's properties are read.
use Rattle.std.proofs.Common.{◌≡◌, ◌∙◌, ap, sym, refl, ℕ, suc, ◌+◌, ◌<◌, Bool, true, false, not, ◌||◌, ◌&&◌, List, [], ◌∷◌, ◌++◌, filter, append_assoc, append-nil, length, drop, get_or, Option, add-one}
use Rattle.std.specs.Prelude.{◌==◌, Result, Ok, Err}
use Rattle.std.specs.List.{list_any}
use Rattle.std.proofs.Math.Seq.{drop-cons}
use Rattle.std.proofs.lemmas.Bool.{eqb-true}
use Rattle.std.proofs.lemmas.List.Folds.{list_any-append}
use Rattle.dt_tree.specs.Steps.{then_do}
use Rattle.dt_tree.specs.declared.property.Property.{Property}
use Rattle.bus_plan.specs.declared.error.PlanError.{PlanError}
use Rattle.bus_drivers.specs.Nodes.{Target}
use Rattle.bus_drivers.specs.References.{followed_by, property_references, all_references}
use Rattle.bus_drivers.specs.TreePlan.{suppliers_among}
use Rattle.bus_drivers.specs.Private.Suppliers.{Suppliers, with_mention, with_mentions, adding}

mentions-append : (s : Suppliers) (ds es : List ℕ) → with_mentions s (ds ++ es) ≡ with_mentions (with_mentions s ds) es
mentions-append s [] es = refl
mentions-append s (d ∷ ds) es = mentions-append (with_mention s d) ds es

-- what is referred to first is added first
adding-next : (s t : Suppliers) (first rest : Result (List ℕ) PlanError) → adding s first ≡ Ok t → adding s (followed_by first rest) ≡ adding t rest
adding-next s t (Err e) rest h = cc
adding-next s t (Ok ds) (Err e) h = refl
adding-next s t (Ok ds) (Ok es) h =
    let is : with_mentions s ds ≡ t = cc in
    ap Ok (mentions-append s ds es ∙ ap (λ u. with_mentions u es) is)

module _ (target : ℕ → Option Target) (s : Suppliers) (ps : List Property) (i : ℕ) (p : Property) (within : i < length ps) (is : p ≡ get_or ps i p) where
  here : drop i ps ≡ p ∷ drop (i + 1) ps
  here = rw add-one (drop-cons ps i p within ∙ ap (λ q. q ∷ drop (suc i) ps) (sym is))

  -- one more property
  pub properties-next : (t : Suppliers) → adding s (property_references target p) ≡ Ok t
      → adding t (all_references target (drop (i + 1) ps)) ≡ adding s (all_references target (drop i ps))
  properties-next t h =
      sym (adding-next s t (property_references target p) (all_references target (drop (i + 1) ps)) h)
      ∙ ap (λ qs. adding s (all_references target qs)) (sym here)

-- ---- what is found, as a list
-- two tests of a list are one
filter-twice : {A : Type 0} (p q r : A → Bool) (xs : List A) → ((x : A) → (q x && p x) ≡ r x) → filter p (filter q xs) ≡ filter r xs
filter-twice p q r [] same = refl
filter-twice {A} p q r (x ∷ xs) same = by_tests (q x) (p x) (r x) refl refl refl (same x) (filter-twice p q r xs same) where
  by_tests : (a b c : Bool) → q x ≡ a → p x ≡ b → r x ≡ c → (q x && p x) ≡ r x → filter p (filter q xs) ≡ filter r xs → filter p (filter q (x ∷ xs)) ≡ filter r (x ∷ xs)
  by_tests false b true e f g h rest = absurd (let k : false ≡ true = ap (λ t. t && p x) (sym e) ∙ h ∙ g in cc)
  by_tests false b false e f g h rest = rw (e, g) rest
  by_tests true false true e f g h rest = absurd (let k : false ≡ true = sym f ∙ ap (λ t. t && p x) (sym e) ∙ h ∙ g in cc)
  by_tests true false false e f g h rest = rw (e, g) (rw f rest)
  by_tests true true false e f g h rest = absurd (let k : true ≡ false = sym f ∙ ap (λ t. t && p x) (sym e) ∙ h ∙ g in cc)
  by_tests true true true e f g h rest = rw (e, g) (rw f (ap (λ ys. x ∷ ys) rest))

-- among these
abbrev among : List ℕ → ℕ → Bool
among found d = list_any (λ e. d == e) found

-- where d was found, its other mentions say nothing
apart-from_found : (found : List ℕ) (d : ℕ) → among found d ≡ true → (e : ℕ) → (not (e == d) && not (among found e)) ≡ not (among found e)
apart-from_found found d there e = by_test (e == d) refl where
  by_test : (t : Bool) → (e == d) ≡ t → (not t && not (among found e)) ≡ not (among found e)
  by_test false h = refl
  by_test true h = sym (ap not (ap (among found) (eqb-true e d h) ∙ there))

apart-from_last : (found : List ℕ) (d e : ℕ) → (not (e == d) && not (among found e)) ≡ not (among (found ++ d ∷ []) e)
apart-from_last found d e = rw (list_any-append (λ f. e == f) found (d ∷ [])) (by_tests (e == d) (among found e)) where
  by_tests : (a b : Bool) → (not a && not b) ≡ not (b || (a || false))
  by_tests true true = refl
  by_tests true false = refl
  by_tests false true = refl
  by_tests false false = refl

abbrev new_among : List ℕ → List ℕ → List ℕ
new_among found ds = filter (λ e. not (among found e)) ds

all-new : (ds : List ℕ) → new_among [] ds ≡ ds
all-new [] = refl
all-new (d ∷ ds) = ap (λ es. d ∷ es) (all-new ds)

abbrev by_found : ℕ → List ℕ → Suppliers
by_found own found = record { own = own; found = found }

pub found-among : (own : ℕ) (found ds : List ℕ)
    → with_mentions (record { own = own; found = found }) ds ≡ record { own = own; found = found ++ new_among found (suppliers_among own ds) }
found-among own found [] = ap (λ ds. record { own = own; found = ds }) (sym (append-nil found))
found-among own found (d ∷ ds) = by_tests (d == own) (among found d) refl refl (λ f. found-among own f ds) where
  by_tests : (a b : Bool) → (d == own) ≡ a → among found d ≡ b
      → ((f : List ℕ) → with_mentions (by_found own f) ds ≡ by_found own (f ++ new_among f (suppliers_among own ds)))
      → with_mentions (by_found own found) (d ∷ ds) ≡ by_found own (found ++ new_among found (suppliers_among own (d ∷ ds)))
  by_tests true b e f rest = rw e (rest found)
  by_tests false true e f rest = rw (e, f) (rest found
      ∙ ap (λ es. by_found own (found ++ es)) (sym (filter-twice (λ x. not (among found x)) (λ x. not (x == d)) (λ x. not (among found x)) (suppliers_among own ds) (apart-from_found found d f))))
  by_tests false false e f rest = rw (e, f) (rest (found ++ d ∷ [])
      ∙ ap (by_found own) (append_assoc found (d ∷ []) _)
      ∙ ap (λ es. by_found own (found ++ d ∷ es)) (sym (filter-twice (λ x. not (among found x)) (λ x. not (x == d)) (λ x. not (among (found ++ d ∷ []) x)) (suppliers_among own ds) (apart-from_last found d))))

-- all that are mentioned, of a device without suppliers so far
pub found-all : (own : ℕ) (ds : List ℕ) → with_mentions (record { own = own; found = [] }) ds ≡ record { own = own; found = suppliers_among own ds }
found-all own ds = found-among own [] ds ∙ ap (λ es. record { own = own; found = es }) (all-new (suppliers_among own ds))

pub suppliers-all : (own : ℕ) (mentioned : Result (List ℕ) PlanError) (t : Suppliers) (devices : List ℕ) → adding (by_found own []) mentioned ≡ Ok t
    → devices ≡ t.found → then_do mentioned (λ ds. Ok (suppliers_among own ds)) ≡ Ok devices
suppliers-all own (Err e) t devices h is = cc
suppliers-all own (Ok ds) t devices h is =
    let last : with_mentions (by_found own []) ds ≡ t = cc in
    ap Ok (ap (λ s. s.found) (sym (found-all own ds) ∙ last) ∙ sym is)
