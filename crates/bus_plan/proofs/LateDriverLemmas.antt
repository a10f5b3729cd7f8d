-- What a late driver leaves of a plan.
use Rattle.std.proofs.Common.{◌≡◌, ◌≢◌, ◌∙◌, ap, sym, refl, subst, ℕ, zero, suc, ◌<◌, ◌≤◌, Bool, true, false, ◌&&◌, ◌==◌, List, [], ◌∷◌, length, get_or, map, arith}
use Rattle.std.specs.Prelude.{All, AllPairs, Contains, Option, Some, None, is_some, is_none, if◌then◌else◌, filter}
use Rattle.std.specs.List.{list_any, range_with_len}
use Rattle.std.proofs.lemmas.List.{length-map}
use Rattle.std.proofs.lemmas.List.Elements.{All-map}
use Rattle.bus_plan.specs.Laws.{LateDriverIsLawful, LateDriverKeeps, IsKept}
use Rattle.bus_plan.specs.LateDriver.{gets_driver, driven_by, device_with, with_driver}
use Rattle.bus_plan.specs.Limits.{most_devices}
use Rattle.bus_plan.specs.Plan.{PlannedDevice, planned, driver_of, suppliers_of, paths, is_driver_name, IsLawfulDevice, IsLawful}
use Rattle.bus_plan.specs.PlanPaths.{is_among}
use Rattle.bus_plan.specs.Consumers.{devices, has_supplier, consumers_of}
use Rattle.bus_plan.proofs.BoolLemmas.{and-left, and_false}

module _ (name : List ℕ) (strings : List (List ℕ)) where
  -- ---- a device
  path-stays : (d : PlannedDevice) → (device_with name strings d).path ≡ d.path
  path-stays d = by (gets_driver d strings)
    where
      by : (t : Bool) → (if t then driven_by name d else d).path ≡ d.path
      by true = refl
      by false = refl

  suppliers-stay : (d : PlannedDevice) → (device_with name strings d).suppliers ≡ d.suppliers
  suppliers-stay d = by (gets_driver d strings)
    where
      by : (t : Bool) → (if t then driven_by name d else d).suppliers ≡ d.suppliers
      by true = refl
      by false = refl

  -- past the end there is nothing that could get it
  pub planned-with : (plan : List PlannedDevice) (d : ℕ) → planned (with_driver plan name strings) d ≡ device_with name strings (planned plan d)
  planned-with [] d = refl
  planned-with (x ∷ plan) zero = refl
  planned-with (x ∷ plan) (suc d) = planned-with plan d

  lawful-device : (d : PlannedDevice) → is_driver_name name ≡ true → IsLawfulDevice d → IsLawfulDevice (device_with name strings d)
  lawful-device d named lawful = by (gets_driver d strings) refl
    where
      by : (t : Bool) → gets_driver d strings ≡ t → IsLawfulDevice (if t then driven_by name d else d)
      by true e = record {
        path = lawful.path;
        driver = named;
        unavailable = λ gone. let there : d.available ≡ true = and-left _ _ (and-left _ _ e) in absurd (cc (gone, there));
        unmatched = λ none. absurd (cc none);
        compatibles = refl;
        disabled = λ gone. refl;
        matched = λ some. refl;
      }
      by false e = lawful

  paths-stay : (plan : List PlannedDevice) → paths (with_driver plan name strings) ≡ paths plan
  paths-stay [] = refl
  paths-stay (d ∷ plan) = ap (λ p. p ∷ paths (with_driver plan name strings)) (path-stays d) ∙ ap (λ ps. d.path ∷ ps) (paths-stay plan)

  suppliers-of : (plan : List PlannedDevice) (d : ℕ) → suppliers_of (with_driver plan name strings) d ≡ suppliers_of plan d
  suppliers-of plan d = ap (λ x. x.suppliers) (planned-with plan d) ∙ suppliers-stay (planned plan d)

  lawful-with : (plan : List PlannedDevice) → IsLawful plan → is_driver_name name ≡ true → IsLawful (with_driver plan name strings)
  lawful-with plan lawful named =
      let long : length (with_driver plan name strings) ≡ length plan = length-map plan (device_with name strings) in
      let few : length plan ≤ most_devices = lawful.few in
      record {
        few = omega arith;
        devices = All-map IsLawfulDevice (device_with name strings) plan (λ k d within. lawful-device (get_or plan k d) named (lawful.devices k d within));
        distinct = subst (AllPairs (λ a b. a ≢ b)) (sym (paths-stay plan)) lawful.distinct;
        suppliers = λ d. subst (λ n. All (λ s. s < n) (suppliers_of (with_driver plan name strings) d)) (sym long)
            (subst (All (λ s. s < length plan)) (sym (suppliers-of plan d)) (lawful.suppliers d));
        apart = λ d. subst (AllPairs (λ a b. a ≢ b)) (sym (suppliers-of plan d)) (lawful.apart d);
        others = λ d found. lawful.others d (subst (λ ss. Contains ss d) (suppliers-of plan d) found);
      }

  -- ---- what stays of a device
  kept-device : (d : PlannedDevice) (driver : Option (List ℕ)) → d.driver ≡ driver → is_some driver ≡ true → device_with name strings d ≡ d
  kept-device d None is some = absurd (cc)
  kept-device d (Some x) is some =
      ap (λ t. if (d.available && t) && list_any (λ s. is_among s strings) d.compatibles then driven_by name d else d) (ap is_none is)
      ∙ ap (λ t. if t && list_any (λ s. is_among s strings) d.compatibles then driven_by name d else d) (and_false d.available)

  available-stays : (d : PlannedDevice) → (device_with name strings d).available ≡ d.available
  available-stays d = by (gets_driver d strings)
    where
      by : (t : Bool) → (if t then driven_by name d else d).available ≡ d.available
      by true = refl
      by false = refl

  kept : (plan : List PlannedDevice) (d : ℕ) → IsKept plan (with_driver plan name strings) d
  kept plan d = record {
    path = ap (λ x. x.path) (planned-with plan d) ∙ path-stays (planned plan d);
    available = ap (λ x. x.available) (planned-with plan d) ∙ available-stays (planned plan d);
    suppliers = suppliers-of plan d;
    driver = λ some. ap (λ x. x.driver) (planned-with plan d ∙ kept-device (planned plan d) (driver_of plan d) refl some);
    verdict = λ some. ap (λ x. x.verdict) (planned-with plan d ∙ kept-device (planned plan d) (driver_of plan d) refl some);
  }

  -- ---- the lists of consumers
  any-more : {A : Type 0} (p q : A → Bool) → ((x : A) → p x ≡ q x) → (xs : List A) → filter p xs ≡ filter q xs
  any-more p q same [] = refl
  any-more p q same (x ∷ xs) =
      ap (λ t. if t then x ∷ filter p xs else filter p xs) (same x) ∙ ap (λ ys. if q x then x ∷ ys else ys) (any-more p q same xs)

  map-more : {A B : Type 0} (f g : A → B) → ((x : A) → f x ≡ g x) → (xs : List A) → map f xs ≡ map g xs
  map-more f g same [] = refl
  map-more f g same (x ∷ xs) = ap (λ y. y ∷ map f xs) (same x) ∙ ap (λ ys. g x ∷ ys) (map-more f g same xs)

  devices-stay : (plan : List PlannedDevice) → devices (with_driver plan name strings) ≡ devices plan
  devices-stay plan = ap (range_with_len 0) (length-map plan (device_with name strings))

  consumers-stay : (plan : List PlannedDevice) (d : ℕ) → consumers_of (with_driver plan name strings) d ≡ consumers_of plan d
  consumers-stay plan d =
      ap (filter (λ c. has_supplier (with_driver plan name strings) c d)) (devices-stay plan)
      ∙ any-more (λ c. has_supplier (with_driver plan name strings) c d) (λ c. has_supplier plan c d)
      (λ c. ap (list_any (λ s. s == d)) (suppliers-of plan c)) (devices plan)

  pub gathered-stays : (plan : List PlannedDevice) (lists : List (List ℕ)) → lists ≡ map (consumers_of plan) (devices plan)
      → lists ≡ map (consumers_of (with_driver plan name strings)) (devices (with_driver plan name strings))
  gathered-stays plan lists is =
      is ∙ sym (ap (map (consumers_of (with_driver plan name strings))) (devices-stay plan)
      ∙ map-more (consumers_of (with_driver plan name strings)) (consumers_of plan) (consumers-stay plan) (devices plan))

  pub index-stays : (plan : List PlannedDevice) (index : List (List ℕ)) → index ≡ paths plan → index ≡ paths (with_driver plan name strings)
  index-stays plan index is = is ∙ sym (paths-stay plan)

pub late_driver_is_lawful : LateDriverIsLawful
late_driver_is_lawful plan name strings lawful named = lawful-with name strings plan lawful named

pub late_driver_keeps : LateDriverKeeps
late_driver_keeps plan name strings d = kept name strings plan d
