-- Which devices get a late driver, and how they do.
use Rattle.std.proofs.Common.{◌≡◌, ◌≢◌, ◌∙◌, ap, sym, refl, subst, ℕ, zero, suc, ◌+◌, ◌<◌, Bool, true, false, ◌&&◌, ◌||◌, List, [], ◌∷◌, length, get_or, set, map, arith}
use Rattle.std.specs.Prelude.{All, Option, Some, None, is_none, if◌then◌else◌, filter, ◌==◌, nat_lt}
use Rattle.std.specs.List.{list_any}
use Rattle.std.specs.Option.{option_map_or}
use Rattle.std.specs.Str.{bytes_eq}
use Rattle.std.proofs.lemmas.Bool.{lt-ltb, eqb-true, eq-eqb}
use Rattle.std.proofs.lemmas.List.{get_or-set_same, get_or-set_other, get_or_default, length-set}
use Rattle.std.proofs.lemmas.List.Elements.{All-map}
use Rattle.std.proofs.lemmas.List.Folds.{list_any_at}
use Rattle.bus_plan.specs.declared.late_driver.Gain.{Gain}
use Rattle.bus_plan.specs.LateDriver.{gets_driver, driven_by, device_with, with_driver, gaining, has_driver, is_known}
use Rattle.bus_plan.specs.Plan.{PlannedDevice, nothing, planned, compatibles_of}
use Rattle.bus_plan.specs.PlanPaths.{is_among}
use Rattle.bus_plan.specs.Private.Indexed.{AreDrivers}
use Rattle.bus_plan.specs.Private.Late.{gain_of, given}
use Rattle.bus_plan.specs.Private.Places.{is_in, are_once}
use Rattle.bus_plan.specs.Private.Waiting.{WaitingDevices, listed_by, is_listed, is_unmatched, AreListed}
use Rattle.bus_plan.proofs.BoolLemmas.{and-left, and-right, and_false, or_true, or_false, or-and, not-true}
use Rattle.bus_plan.proofs.DistinctLemmas.{bytes_eq-same}
use Rattle.bus_plan.proofs.LateDriverLemmas.{planned-with}
use Rattle.bus_plan.proofs.PathLemmas.{bytes_eq-flip}

-- ---- tests of lists
any-ext : {A : Type 0} (p q : A → Bool) → ((x : A) → p x ≡ q x) → (xs : List A) → list_any p xs ≡ list_any q xs
any-ext p q same [] = refl
any-ext p q same (x ∷ xs) = ap (λ t. t || list_any p xs) (same x) ∙ ap (λ t. q x || t) (any-ext p q same xs)

any-and : {A : Type 0} (p : A → Bool) (u : Bool) (xs : List A) → list_any (λ x. p x && u) xs ≡ (list_any p xs && u)
any-and p u [] = refl
any-and p u (x ∷ xs) = ap (λ t. (p x && u) || t) (any-and p u xs) ∙ or-and (p x) (list_any p xs) u

or-mix : (a b c d : Bool) → ((a || b) || (c || d)) ≡ ((a || c) || (b || d))
or-mix true b c d = refl
or-mix false b true d = or_true b
or-mix false b false d = refl

any-or : {A : Type 0} (p q : A → Bool) (xs : List A) → list_any (λ x. p x || q x) xs ≡ (list_any p xs || list_any q xs)
any-or p q [] = refl
any-or p q (x ∷ xs) = ap (λ t. (p x || q x) || t) (any-or p q xs) ∙ or-mix (p x) (q x) (list_any p xs) (list_any q xs)

any-none : {A : Type 0} (xs : List A) → list_any (λ x. false) xs ≡ false
any-none [] = refl
any-none (x ∷ xs) = any-none xs

-- what two lists of strings have in common
in-common : (xs ss : List (List ℕ)) → list_any (λ s. is_among s xs) ss ≡ list_any (λ x. is_among x ss) xs
in-common xs [] = sym (any-none xs)
in-common xs (s ∷ ss) =
    ap (λ t. is_among s xs || t) (in-common xs ss)
    ∙ ap (λ t. t || list_any (λ x. is_among x ss) xs) (any-ext (bytes_eq s) (λ x. bytes_eq x s) (λ x. bytes_eq-flip s x) xs)
    ∙ sym (any-or (λ x. bytes_eq x s) (λ x. is_among x ss) xs)

common-string : (s : List ℕ) (ss xs : List (List ℕ)) → is_among s ss ≡ true → is_among s xs ≡ true → list_any (λ x. is_among x ss) xs ≡ true
common-string s ss [] listed there = absurd (cc)
common-string s ss (x ∷ xs) listed there = by (bytes_eq s x) refl (common-string s ss xs listed)
  where
    by : (t : Bool) → bytes_eq s x ≡ t → (is_among s xs ≡ true → list_any (λ x. is_among x ss) xs ≡ true) → (is_among x ss || list_any (λ x. is_among x ss) xs) ≡ true
    by true e later = ap (λ y. is_among y ss || list_any (λ x. is_among x ss) xs) (sym (bytes_eq-same s x e)) ∙ ap (λ t. t || list_any (λ x. is_among x ss) xs) listed
    by false e later =
        let rest : is_among s xs ≡ true = sym (ap (λ t. t || is_among s xs) e) ∙ there in
        ap (λ t. is_among x ss || t) (later rest) ∙ or_true (is_among x ss)

module _ (name : List ℕ) (strings : List (List ℕ)) where
  abbrev gets : PlannedDevice → Bool
  gets d = gets_driver d strings

  -- ---- those that get it are listed by its strings
  gets-listed : (plan : List PlannedDevice) (w : WaitingDevices) → AreListed plan w
      → (d : ℕ) → (is_listed w strings d && is_unmatched (planned plan d)) ≡ gets_driver (planned plan d) strings
  gets-listed plan w listed d =
      let has : (is_listed w strings d && is_unmatched (planned plan d)) ≡ list_any (λ x. is_among x strings) (compatibles_of plan d) =
      sym (any-and (λ s. is_in d (listed_by w s)) (is_unmatched (planned plan d)) strings)
      ∙ any-ext (λ s. is_in d (listed_by w s) && is_unmatched (planned plan d)) (λ s. is_among s (compatibles_of plan d)) (λ s. listed d s) strings
      ∙ in-common (compatibles_of plan d) strings in
      by (is_unmatched (planned plan d)) (is_listed w strings d) ∙ ap (λ t. is_unmatched (planned plan d) && t) has
    where
      by : (u l : Bool) → (l && u) ≡ (u && (l && u))
      by true l = refl
      by false l = and_false l

  -- a list that is emptied has lost all that wait by its string
  pub listed-with : (plan : List PlannedDevice) (old new : WaitingDevices) → AreListed plan old
      → ((s : List ℕ) → listed_by new s ≡ (if is_among s strings then [] else listed_by old s)) → AreListed (with_driver plan name strings) new
  listed-with plan old new listed emptied d s =
      ap (λ ds. is_in d ds && is_unmatched (planned (with_driver plan name strings) d)) (emptied s)
      ∙ ap (λ x. is_in d (if is_among s strings then [] else listed_by old s) && is_unmatched x) (planned-with name strings plan d)
      ∙ by (gets_driver (planned plan d) strings) (is_among s strings) refl refl
      ∙ sym (ap (λ x. is_among s x.compatibles) (planned-with name strings plan d))
    where
      device : PlannedDevice
      device = planned plan d

      unasked : (r : Bool) → is_among s (compatibles_of plan d) ≡ r → is_among s strings ≡ true → gets_driver (planned plan d) strings ≡ false → r ≡ false
      unasked true e asked none =
          let free : is_unmatched (planned plan d) ≡ true = and-right (is_in d (listed_by old s)) _ (listed d s ∙ e) in
          let meets = common-string s strings (compatibles_of plan d) asked e in
          absurd (cc (sym none ∙ ap (λ t. t && list_any (λ x. is_among x strings) (compatibles_of plan d)) free ∙ meets))
      unasked false e asked none = refl

      by : (g a : Bool) → gets_driver (planned plan d) strings ≡ g → is_among s strings ≡ a
          → (is_in d (if a then [] else listed_by old s) && is_unmatched (if g then driven_by name (planned plan d) else planned plan d))
          ≡ is_among s (if g then driven_by name (planned plan d) else planned plan d).compatibles
      by true a e is =
          ap (λ t. is_in d (if a then [] else listed_by old s) && t) (and_false (planned plan d).available)
          ∙ and_false (is_in d (if a then [] else listed_by old s))
      by false true e is = sym (unasked (is_among s (compatibles_of plan d)) refl is e)
      by false false e is = listed d s

  -- ---- one device after the other gets it
  gets-driven : (d : PlannedDevice) → gets_driver (driven_by name d) strings ≡ false
  gets-driven d = ap (λ t. t && false) (and_false d.available)

  counted : (d : PlannedDevice) (ds es : List PlannedDevice) (t : Bool) → length ds ≡ length es + 1 → length (if t then d ∷ ds else ds) ≡ length (if t then d ∷ es else es) + 1
  counted d ds es true more = omega (arith, more)
  counted d ds es false more = more

  gets-within : (plan : List PlannedDevice) (p : ℕ) → gets_driver (planned plan p) strings ≡ true → p < length plan
  gets-within [] p e = absurd (cc)
  gets-within (d ∷ plan) zero e = omega arith
  gets-within (d ∷ plan) (suc p) e = let rest = gets-within plan p e in omega arith

  step-with : (plan : List PlannedDevice) (p : ℕ) → gets_driver (planned plan p) strings ≡ true
      → with_driver (set plan p (driven_by name (planned plan p))) name strings ≡ with_driver plan name strings
  step-with [] p e = absurd (cc)
  step-with (d ∷ plan) zero e =
      ap (λ t. (if t then driven_by name (driven_by name d) else driven_by name d) ∷ with_driver plan name strings) (gets-driven d)
      ∙ sym (ap (λ t. (if t then driven_by name d else d) ∷ with_driver plan name strings) e)
  step-with (d ∷ plan) (suc p) e = ap (λ ds. device_with name strings d ∷ ds) (step-with plan p e)

  step-gaining : (plan : List PlannedDevice) (p : ℕ) → gets_driver (planned plan p) strings ≡ true
      → gaining plan strings ≡ gaining (set plan p (driven_by name (planned plan p))) strings + 1
  step-gaining [] p e = absurd (cc)
  step-gaining (d ∷ plan) zero e =
      let rest = filter gets plan in
      ap (λ t. length (if t then d ∷ rest else rest)) e ∙ omega arith
      ∙ ap (λ n. n + 1) (sym (ap (λ t. length (if t then driven_by name d ∷ rest else rest)) (gets-driven d)))
  step-gaining (d ∷ plan) (suc p) e =
      counted d (filter gets plan) (filter gets (set plan p (driven_by name (planned plan p)))) (gets d) (step-gaining plan p e)

  none-with : (plan : List PlannedDevice) → ((d : ℕ) → gets_driver (planned plan d) strings ≡ false) → with_driver plan name strings ≡ plan
  none-with [] none = refl
  none-with (d ∷ plan) none =
      ap (λ t. (if t then driven_by name d else d) ∷ with_driver plan name strings) (none 0) ∙ ap (λ ds. d ∷ ds) (none-with plan (λ k. none (suc k)))

  none-gaining : (plan : List PlannedDevice) → ((d : ℕ) → gets_driver (planned plan d) strings ≡ false) → gaining plan strings ≡ 0
  none-gaining [] none = refl
  none-gaining (d ∷ plan) none =
      ap (λ t. length (if t then d ∷ filter gets plan else filter gets plan)) (none 0) ∙ none-gaining plan (λ k. none (suc k))

  -- these places are those of the devices that get it
  abbrev pub AreGaining : List PlannedDevice → List ℕ → Type 0
  AreGaining plan places = (d : ℕ) → is_in d places ≡ gets_driver (planned plan d) strings

  first-gets : (plan : List PlannedDevice) (p : ℕ) (ps : List ℕ) → AreGaining plan (p ∷ ps) → gets_driver (planned plan p) strings ≡ true
  first-gets plan p ps are = sym (are p) ∙ ap (λ t. t || is_in p ps) (eq-eqb p p refl)

  others-get : (plan : List PlannedDevice) (p : ℕ) (ps : List ℕ) → are_once (p ∷ ps) ≡ true → AreGaining plan (p ∷ ps)
      → AreGaining (set plan p (driven_by name (planned plan p))) ps
  others-get plan p ps once are d = by (d == p) refl
    where
      gained : PlannedDevice
      gained = driven_by name (planned plan p)

      by : (t : Bool) → (d == p) ≡ t → is_in d ps ≡ gets_driver (planned (set plan p (driven_by name (planned plan p))) d) strings
      by true e =
          let same : d ≡ p = eqb-true d p e in
          let within = gets-within plan p (first-gets plan p ps are) in
          ap (λ x. is_in x ps) same ∙ not-true (is_in p ps) (and-left _ _ once)
          ∙ sym (ap (λ x. gets_driver (planned (set plan p (driven_by name (planned plan p))) x) strings) same
          ∙ ap (λ x. gets_driver x strings) (get_or-set_same plan p (driven_by name (planned plan p)) nothing within)
          ∙ gets-driven (planned plan p))
      by false e =
          let apart : d ≢ p = λ same. absurd (cc (sym e ∙ eq-eqb d p same)) in
          sym (ap (λ t. t || is_in d ps) e) ∙ are d
          ∙ sym (ap (λ x. gets_driver x strings) (get_or-set_other plan p d (driven_by name (planned plan p)) nothing apart))

  pub given-with : (places : List ℕ) (plan : List PlannedDevice) → are_once places ≡ true → AreGaining plan places
      → given plan (map (gain_of name) places) ≡ with_driver plan name strings
  given-with [] plan once are = sym (none-with plan (λ d. sym (are d)))
  given-with (p ∷ ps) plan once are =
      given-with ps (set plan p (driven_by name (planned plan p))) (and-right _ _ once) (others-get plan p ps once are)
      ∙ step-with plan p (first-gets plan p ps are)

  pub given-count : (places : List ℕ) (plan : List PlannedDevice) → are_once places ≡ true → AreGaining plan places → length places ≡ gaining plan strings
  given-count [] plan once are = sym (none-gaining plan (λ d. sym (are d)))
  given-count (p ∷ ps) plan once are =
      let rest = given-count ps (set plan p (driven_by name (planned plan p))) (and-right _ _ once) (others-get plan p ps once are) in
      let more = step-gaining plan p (first-gets plan p ps are) in
      omega (arith, rest, more)

  pub gains-within : (places : List ℕ) (plan : List PlannedDevice) → AreGaining plan places → All (λ gain. gain.device < length plan) (map (gain_of name) places)
  gains-within places plan are =
      All-map (λ gain. gain.device < length plan) (gain_of name) places
      (λ k d within. gets-within plan (get_or places k d) (sym (are (get_or places k d))
      ∙ list_any_at (λ p. get_or places k d == p) places k d within (eq-eqb (get_or places k d) (get_or places k d) refl)))

  pub gaining-of : (plan devices : List PlannedDevice) (w : WaitingDevices) (places : List ℕ) → devices ≡ plan → AreListed plan w
      → ((d : ℕ) → is_in d places ≡ (is_listed w strings d && is_unmatched (planned devices d))) → AreGaining plan places
  gaining-of plan devices w places same listed found d =
      found d ∙ ap (λ ds. is_listed w strings d && is_unmatched (planned ds d)) same ∙ gets-listed plan w listed d

  -- ---- the names of the drivers
  undriven-has : (q : List ℕ) (driver : Option (List ℕ)) → is_none driver ≡ true → option_map_or (bytes_eq q) driver false ≡ false
  undriven-has q None none = refl
  undriven-has q (Some x) none = absurd (cc)

  has-with : (q : List ℕ) (d : PlannedDevice) → has_driver q (device_with name strings d) ≡ ((gets_driver d strings && bytes_eq q name) || has_driver q d)
  has-with q d = by (gets_driver d strings) refl
    where
      by : (g : Bool) → gets_driver d strings ≡ g → has_driver q (if g then driven_by name d else d) ≡ ((g && bytes_eq q name) || has_driver q d)
      by true e =
          let none = undriven-has q d.driver (and-right d.available _ (and-left _ _ e)) in
          sym (ap (λ t. bytes_eq q name || t) none ∙ or_false (bytes_eq q name))
      by false e = refl

  some-more : (g b h some rest : Bool) → (((g && b) || h) || ((some && b) || rest)) ≡ (((g || some) && b) || (h || rest))
  some-more true true h some rest = refl
  some-more true false h some rest = ap (λ t. h || (t || rest)) (and_false some)
  some-more false b true some rest = sym (or_true (some && b))
  some-more false b false some rest = refl

  known-with : (q : List ℕ) (plan : List PlannedDevice)
      → is_known (with_driver plan name strings) q ≡ ((list_any gets plan && bytes_eq q name) || is_known plan q)
  known-with q [] = refl
  known-with q (d ∷ plan) =
      ap (λ t. t || is_known (with_driver plan name strings) q) (has-with q d)
      ∙ ap (λ t. ((gets d && bytes_eq q name) || has_driver q d) || t) (known-with q plan)
      ∙ some-more (gets d) (bytes_eq q name) (has_driver q d) (list_any gets plan) (is_known plan q)

  none-gets : (plan : List PlannedDevice) → ((d : ℕ) → gets_driver (planned plan d) strings ≡ false) → list_any gets plan ≡ false
  none-gets [] none = refl
  none-gets (d ∷ plan) none = ap (λ t. t || list_any gets plan) (none 0) ∙ none-gets plan (λ k. none (suc k))

  some-gets : (places : List ℕ) (plan : List PlannedDevice) → AreGaining plan places → nat_lt 0 (length places) ≡ list_any gets plan
  some-gets [] plan are = sym (none-gets plan (λ d. sym (are d)))
  some-gets (p ∷ ps) plan are =
      let there = first-gets plan p ps are in
      lt-ltb 0 (suc (length ps)) (omega arith) ∙ sym (list_any_at gets plan p nothing (gets-within plan p there) there)

  -- the name is among them, where some device has got it
  pub drivers-with : (places : List ℕ) (plan : List PlannedDevice) (old new : List (List ℕ)) → AreGaining plan places → AreDrivers plan old
      → ((q : List ℕ) → is_among q new ≡ ((nat_lt 0 (length places) && bytes_eq q name) || is_among q old)) → AreDrivers (with_driver plan name strings) new
  drivers-with places plan old new are drivers added q =
      added q ∙ ap (λ t. (t && bytes_eq q name) || is_among q old) (some-gets places plan are)
      ∙ ap (λ t. (list_any gets plan && bytes_eq q name) || t) (drivers q) ∙ sym (known-with q plan)

-- ---- a walk over what the devices gain
-- what is left of it makes what all of it makes
pub record IsGivenTo (old : List PlannedDevice) (gains left : List Gain) (new : List PlannedDevice) : Type 0 where
  pub given_are : given new left ≡ given old gains
  pub within : All (λ gain. gain.device < length new) left

pub given-at : (old : List PlannedDevice) (gains left rest : List Gain) (new : List PlannedDevice) → IsGivenTo old gains left new → left ≡ rest → IsGivenTo old gains rest new
given-at old gains left rest new walk is = subst (λ l. IsGivenTo old gains l new) is walk

pub given-within : (old : List PlannedDevice) (gains : List Gain) (gain : Gain) (rest : List Gain) (new : List PlannedDevice)
    → IsGivenTo old gains (gain ∷ rest) new → gain.device < length new
given-within old gains gain rest new walk = walk.within 0 gain (omega arith)

pub given-more : (old : List PlannedDevice) (gains : List Gain) (gain : Gain) (rest : List Gain) (new after : List PlannedDevice) (i : ℕ) (d item : PlannedDevice)
    → IsGivenTo old gains (gain ∷ rest) new → i ≡ gain.device → after ≡ set new i item → item ≡ driven_by gain.name d → d ≡ get_or new i d
    → IsGivenTo old gains rest after
given-more old gains gain rest new after i d item walk at put item_is here =
    let within : gain.device < length new = given-within old gains gain rest new walk in
    let is : d ≡ planned new gain.device = here ∙ sym (get_or_default new i nothing d (omega (arith, at, within))) ∙ ap (planned new) at in
    let after_is : after ≡ set new gain.device (driven_by gain.name (planned new gain.device)) =
    put ∙ ap (λ j. set new j item) at ∙ ap (set new gain.device) (item_is ∙ ap (driven_by gain.name) is) in
    let long : length after ≡ length new = ap length put ∙ length-set new i item in
    record {
      given_are = ap (λ ds. given ds rest) after_is ∙ walk.given_are;
      within = λ k other below. let there = walk.within (suc k) other (omega arith) in omega (arith, there, long);
    }
