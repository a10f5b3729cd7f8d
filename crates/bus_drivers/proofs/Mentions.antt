-- What a device's properties refer to are places of devices, and a list of suppliers has each once.
use Rattle.std.proofs.Common.{◌≡◌, ◌≢◌, ℕ, ◌-◌, ◌==◌, Bool, true, false, not, List, [], ◌∷◌, length, filter, Option, Some, None, Result, Ok, Err, refl, arith}
use Rattle.std.specs.Option.{option_map_or, option_to_list}
use Rattle.std.specs.List.{All, AllPairs, Contains}
use Rattle.std.proofs.lemmas.Bool.Decides.{nat_tests}
use Rattle.std.proofs.lemmas.List.Elements.{All-nil, All-cons, All-head, All-tail, All-append, All-filter, All-weaker, All-contains, filter_passes}
use Rattle.std.proofs.lemmas.List.Kept.{AllPairs-cons, AllPairs-filter}
use Rattle.dt_tree.specs.Steps.{then_do}
use Rattle.dt_tree.specs.declared.property.Property.{Property}
use Rattle.bus_plan.specs.declared.error.PlanError.{PlanError}
use Rattle.bus_drivers.specs.Nodes.{Target}
use Rattle.bus_drivers.specs.declared.reference.Reference.{Reference}
use Rattle.bus_drivers.specs.References.{followed_by, cells_behind, reference_with, reference_at, reference_of, cells_of, devices_in, is_length, references, property_references, all_references}
use Rattle.bus_drivers.specs.Forms.{Form, form_of}
use Rattle.bus_drivers.specs.TreePlan.{first_mentions, suppliers_among}

-- ---- what is referred to
-- each of a list that there is
abbrev pub AllIfOk : (ℕ → Type 0) → Result (List ℕ) PlanError → Type 0
AllIfOk P (Err e) = Unit {0}
AllIfOk P (Ok ds) = All P ds

module _ (P : ℕ → Type 0) where
  both_lists : (first second : Result (List ℕ) PlanError) → AllIfOk P first → AllIfOk P second → AllIfOk P (followed_by first second)
  both_lists (Err e) second a b = tt
  both_lists (Ok xs) (Err e) a b = tt
  both_lists (Ok xs) (Ok ys) a b = All-append P xs ys a b

  listed : (o : Option ℕ) → ((d : ℕ) → o ≡ Some d → P d) → All P (option_to_list o)
  listed None h = All-nil P
  listed (Some d) h = All-cons P d [] (h d refl) (All-nil P)

  -- the device of each target is such a one
  module _ (target : ℕ → Option Target) (in_target : (phandle : ℕ) (t : Target) → target phandle ≡ Some t → (d : ℕ) → t.device ≡ Some d → P d) where
    -- the device of a reference that there is
    abbrev InReference : Result Reference PlanError → Type 0
    InReference (Err e) = Unit {0}
    InReference (Ok e) = (d : ℕ) → e.device ≡ Some d → P d

    with_cells : (device : Option ℕ) (cells : Option ℕ) → ((d : ℕ) → device ≡ Some d → P d) → InReference (reference_with device cells)
    with_cells device None h = tt
    with_cells device (Some cells) h = h

    at_target : (form : Form) (o : Option Target) → ((t : Target) → o ≡ Some t → (d : ℕ) → t.device ≡ Some d → P d) → InReference (reference_at form o)
    at_target form None h = tt
    at_target form (Some t) h = with_cells t.device (cells_behind form t) (h t refl)

    in_reference : (form : Form) (phandle : ℕ) → InReference (reference_of target form phandle)
    in_reference form phandle = by_zero (phandle == 0) refl where
      by_zero : (z : Bool) → (phandle == 0) ≡ z → InReference (reference_of target form phandle)
      by_zero true e = rw e (λ d is. absurd (let bad : None ≡ Some d = is in cc bad))
      by_zero false e = rw e (at_target form (target phandle) (in_target phandle))

    from_reference : (r : Result Reference PlanError) (next : ℕ → Result (List ℕ) PlanError) → InReference r → ((k : ℕ) → AllIfOk P (next k)) → AllIfOk P (then_do r (λ e. followed_by (Ok (option_to_list e.device)) (next e.cells)))
    from_reference (Err e) next h all = tt
    from_reference (Ok e) next h all = both_lists (Ok (option_to_list e.device)) (next e.cells) (listed e.device h) (all e.cells)

    in_cells : (form : Form) (cells : List ℕ) (left : ℕ) → AllIfOk P (devices_in target form left cells)
    in_cells form [] left = by_zero (left == 0) refl where
      by_zero : (z : Bool) → (left == 0) ≡ z → AllIfOk P (devices_in target form left [])
      by_zero true e = rw e (All-nil P)
      by_zero false e = rw e tt
    in_cells form (cell ∷ more) left = by_zero (left == 0) refl (in_reference form cell) (λ k. in_cells form more k) where
      by_zero : (z : Bool) → (left == 0) ≡ z → InReference (reference_of target form cell) → ((k : ℕ) → AllIfOk P (devices_in target form k more)) → AllIfOk P (devices_in target form left (cell ∷ more))
      by_zero true e entry all = rw e (from_reference (reference_of target form cell) (λ k. devices_in target form k more) entry all)
      by_zero false e entry all = rw e (all (left - 1))

    in_value : (form : Form) (value : List ℕ) → AllIfOk P (references target form value)
    in_value form value = by_length (is_length form (length value)) refl where
      by_length : (t : Bool) → is_length form (length value) ≡ t → AllIfOk P (references target form value)
      by_length true e = rw e (in_cells form (cells_of value) 0)
      by_length false e = rw e tt

    by_form : (o : Option Form) (value : List ℕ) → AllIfOk P (option_map_or (λ form. references target form value) o (Ok []))
    by_form None value = All-nil P
    by_form (Some form) value = in_value form value

    pub in_properties : (ps : List Property) → AllIfOk P (all_references target ps)
    in_properties [] = All-nil P
    in_properties (p ∷ ps) = both_lists (property_references target p) (all_references target ps) (by_form (form_of p.name) p.value) (in_properties ps)

  -- ---- suppliers
  pub all_first : (ds : List ℕ) → All P ds → All P (first_mentions ds)
  all_first [] h = h
  all_first (d ∷ ds) h = All-cons P d (filter (λ e. not (e == d)) (first_mentions ds)) (All-head P d ds h) (All-filter (λ e. not (e == d)) P (first_mentions ds) (all_first ds (All-tail P d ds h)))

  pub suppliers_all : (own : ℕ) (ds : List ℕ) → All P ds → All P (suppliers_among own ds)
  suppliers_all own ds h = all_first (filter (λ d. not (d == own)) ds) (All-filter (λ d. not (d == own)) P ds h)

other_number : (d e : ℕ) → not (e == d) ≡ true → d ≢ e
other_number d e t same = grind (arith, nat_tests)

once_each : (ds : List ℕ) → AllPairs (λ a b. a ≢ b) (first_mentions ds)
once_each [] = λ i j d lt within. absurd (omega arith)
once_each (d ∷ ds) =
    AllPairs-cons (λ a b. a ≢ b) d (filter (λ e. not (e == d)) (first_mentions ds))
    (All-weaker (λ e. not (e == d) ≡ true) (λ e. d ≢ e) (other_number d) (filter (λ e. not (e == d)) (first_mentions ds)) (filter_passes (λ e. not (e == d)) (first_mentions ds)))
    (AllPairs-filter (λ a b. a ≢ b) (λ e. not (e == d)) (first_mentions ds) (once_each ds))

-- none stands twice
pub suppliers_apart : (own : ℕ) (ds : List ℕ) → AllPairs (λ a b. a ≢ b) (suppliers_among own ds)
suppliers_apart own ds = once_each (filter (λ d. not (d == own)) ds)

-- and the device itself isn't among them
pub suppliers_others : (own : ℕ) (ds : List ℕ) → ¬ Contains (suppliers_among own ds) own
suppliers_others own ds there =
    let left : List ℕ = filter (λ d. not (d == own)) ds in
    let others : All (λ d. own ≢ d) left = All-weaker (λ d. not (d == own) ≡ true) (λ d. own ≢ d) (other_number own) left (filter_passes (λ d. not (d == own)) ds) in
    All-contains (λ d. own ≢ d) (suppliers_among own ds) own (all_first (λ d. own ≢ d) left others) there refl
