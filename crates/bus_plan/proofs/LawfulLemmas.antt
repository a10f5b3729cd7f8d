-- The plan of lines without a fault is lawful.
use Rattle.std.proofs.Common.{◌≡◌, ◌≢◌, ◌∙◌, ◌⊎◌, inl, inr, ⊎_elim, ap, sym, refl, subst, ℕ, zero, suc, ◌<◌, ◌≤◌, Bool, true, false, cond, not, ◌&&◌, List, [], ◌∷◌, length, get_or, map, arith}
use Rattle.std.specs.Prelude.{All, AllPairs, Contains, Option, is_some, is_none}
use Rattle.std.specs.List.{list_all, find}
use Rattle.std.specs.Option.{option_or, option_map_or}
use Rattle.std.specs.Str.{bytes_eq}
use Rattle.std.specs.Prelude.{Some, None, if◌then◌else◌}
use Rattle.std.proofs.lemmas.List.{get_or-map, length-map}
use Rattle.std.proofs.lemmas.List.Elements.{All-map}
use Rattle.bus_plan.specs.Limits.{most_devices}
use Rattle.bus_plan.specs.declared.error.PlanError.{PlanError}
use Rattle.bus_plan.specs.declared.error.PlanError.TheVariants.{BadLine, UnknownPath}
use Rattle.bus_plan.specs.Plan.{PlannedDevice, nothing, planned, paths, is_device_path, is_compatible, IsLawfulDevice, IsLawful}
use Rattle.bus_plan.specs.PlanPaths.{is_among, are_distinct, are_known, place_of}
use Rattle.bus_plan.specs.PlanLines.{DeviceLine, StringsLine}
use Rattle.bus_plan.specs.PlanFile.{line_paths, is_unmatched, misfit_of, strings_at, planned_of, plan_of}
use Rattle.bus_plan.specs.Private.Reading.{Listed, IsFaultless, first_unknown, first_misfit, late_fault}
use Rattle.bus_plan.proofs.BoolLemmas.{and-left, and-right, and_false}
use Rattle.bus_plan.proofs.DistinctLemmas.{bytes_eq-refl, bytes_eq-same, distinct-pairs, place-holds, known-here, places-within}
use Rattle.bus_plan.proofs.FaultlessLemmas.{IsLawfulLine, IsLawfulStrings, AreLawfulLines, lawful-before, lawful-strings_before}
use Rattle.bus_plan.proofs.LateFaults.{none-late}

-- ---- every supplier is known
known-test : (known : List (List ℕ)) (d : DeviceLine) (t : Bool) (rest : Option PlanError) → are_known known d.suppliers ≡ t
    → option_or (if t then None else Some (UnknownPath d.number)) rest ≡ None → (are_known known d.suppliers ≡ true) × (rest ≡ None)
known-test known d true rest e none = (e, none)
known-test known d false rest e none = absurd (cc)

all-known : (known : List (List ℕ)) (ds : List DeviceLine) → first_unknown known ds ≡ None → All (λ d. are_known known d.suppliers ≡ true) ds
all-known known [] none k x within = absurd (omega arith)
all-known known (d ∷ ds) none zero x within = (known-test known d (are_known known d.suppliers) (first_unknown known ds) refl none).0
all-known known (d ∷ ds) none (suc k) x within =
    all-known known ds (known-test known d (are_known known d.suppliers) (first_unknown known ds) refl none).1 k x (omega arith)

-- ---- only unmatched devices have strings
other-bytes : (x y : List ℕ) (t : Bool) → bytes_eq x y ≡ t → (x ≡ y → ⊥) → t ≡ false
other-bytes x y true e apart = absurd (apart (bytes_eq-same x y e))
other-bytes x y false e apart = refl

-- the device at a place is the only one of its path
pub find-here : (ds : List DeviceLine) (k : ℕ) (x : DeviceLine) (path : List ℕ) → are_distinct (line_paths ds) ≡ true → k < length ds → path ≡ (get_or ds k x).path
    → find (λ d. bytes_eq path d.path) ds ≡ Some (get_or ds k x)
find-here [] k x path distinct within is = absurd (omega arith)
find-here (d ∷ ds) zero x path distinct within is =
    ap (λ t. cond t (Some d) (find (λ d. bytes_eq path d.path) ds)) (ap (bytes_eq path) (sym is) ∙ bytes_eq-refl path)
find-here (d ∷ ds) (suc k) x path distinct within is =
    let long : length (line_paths ds) ≡ length ds = length-map ds (λ d. d.path) in
    let below : k < length ds = omega arith in
    let inside : suc k < length (d.path ∷ line_paths ds) = omega arith in
    let other : d.path ≢ get_or (line_paths ds) k [] = distinct-pairs (d.path ∷ line_paths ds) distinct 0 (suc k) [] (omega arith) inside in
    let apart : bytes_eq path d.path ≡ false =
    other-bytes path d.path (bytes_eq path d.path) refl (λ e. other (sym e ∙ is ∙ sym (get_or-map (λ d. d.path) ds k x [] below))) in
    ap (λ t. cond t (Some d) (find (λ d. bytes_eq path d.path) ds)) apart
    ∙ find-here ds k x path (and-right (not (is_among d.path (line_paths ds))) _ distinct) below is

misfit-parts : (u rest : Option PlanError) → option_or u rest ≡ None → (u ≡ None) × (rest ≡ None)
misfit-parts None rest e = (refl, e)
misfit-parts (Some x) rest e = absurd (cc)

no-strings : (ds : List DeviceLine) (ss : List StringsLine) (k : ℕ) (x : DeviceLine) → are_distinct (line_paths ds) ≡ true → k < length ds
    → first_misfit ds ss ≡ None → is_unmatched (get_or ds k x) ≡ false → strings_at ss (get_or ds k x).path ≡ []
no-strings ds [] k x distinct within none matched = refl
no-strings ds (s ∷ ss) k x distinct within none matched =
    by_test (bytes_eq (get_or ds k x).path s.path) refl (no-strings ds ss k x distinct within (misfit-parts (misfit_of ds s) (first_misfit ds ss) none).1 matched)
  where
    d : DeviceLine
    d = get_or ds k x

    path : List ℕ
    path = d.path

    parts : (misfit_of ds s ≡ None) × (first_misfit ds ss ≡ None)
    parts = misfit-parts (misfit_of ds s) (first_misfit ds ss) none

    by_test : (t : Bool) → bytes_eq path s.path ≡ t → strings_at ss path ≡ [] → strings_at (s ∷ ss) path ≡ []
    by_test true e rest =
        let same : path ≡ s.path = bytes_eq-same path s.path e in
        let found : find (λ d. bytes_eq s.path d.path) ds ≡ Some d = find-here ds k x s.path distinct within (sym same) in
        let bad : Some (BadLine s.number) ≡ None =
        sym (ap (λ t. if t then None else Some (BadLine s.number)) matched)
        ∙ sym (ap (λ f. option_map_or (λ d. if is_unmatched d then None else Some (BadLine s.number)) f (Some (UnknownPath s.number))) found) ∙ parts.0 in
        absurd (cc bad)
    by_test false e rest = ap (λ t. option_map_or (λ s. s.strings) (cond t (Some s) (find (λ s. bytes_eq path s.path) ss)) []) e ∙ rest

all-strings : (ss : List StringsLine) (path : List ℕ) → All IsLawfulStrings ss → list_all is_compatible (strings_at ss path) ≡ true
all-strings [] path lawful = refl
all-strings (s ∷ ss) path lawful = by_test (bytes_eq path s.path) (all-strings ss path (λ k x within. lawful (suc k) x (omega arith)))
  where
    by_test : (t : Bool) → list_all is_compatible (strings_at ss path) ≡ true → list_all is_compatible (option_map_or (λ s. s.strings) (cond t (Some s) (find (λ s. bytes_eq path s.path) ss)) []) ≡ true
    by_test true rest = (lawful 0 s (omega arith)).compatibles
    by_test false rest = rest

-- ---- a planned device
pub paths-planned : (known : List (List ℕ)) (ss : List StringsLine) (ds : List DeviceLine) → paths (map (planned_of known ss) ds) ≡ line_paths ds
paths-planned known ss [] = refl
paths-planned known ss (d ∷ ds) = ap (λ ps. d.path ∷ ps) (paths-planned known ss ds)

some-none : (driver : Option (List ℕ)) → is_some driver ≡ true → is_none driver ≡ false
some-none (Some name) e = refl
some-none None e = absurd (cc)

lawful-device : (known : List (List ℕ)) (ss : List StringsLine) (d : DeviceLine) → IsLawfulLine d → All IsLawfulStrings ss
    → (is_unmatched d ≡ false → strings_at ss d.path ≡ []) → IsLawfulDevice (planned_of known ss d)
lawful-device known ss d lawful strings none = record {
  path = and-left (is_device_path d.path) (list_all is_device_path d.suppliers) lawful.forms;
  driver = lawful.matching.driver;
  unavailable = lawful.matching.unavailable;
  unmatched = lawful.matching.unmatched;
  compatibles = all-strings ss d.path strings;
  disabled = λ e. none (ap (λ t. t && is_none d.matching.driver) e);
  matched = λ e. none (ap (λ t. d.matching.available && t) (some-none d.matching.driver e) ∙ and_false d.matching.available);
}

-- what is known of the line at a place
record IsLineAt (known : List (List ℕ)) (ss : List StringsLine) (ds : List DeviceLine) (k : ℕ) (d : DeviceLine) : Type 0 where
  planned_is : planned (map (planned_of known ss) ds) k ≡ planned_of known ss d
  path_is : get_or (line_paths ds) k [] ≡ d.path
  lawful : IsLawfulLine d
  known_all : are_known known d.suppliers ≡ true

-- a place is a line's, or past the end
line_at : (known : List (List ℕ)) (ss : List StringsLine) (ds : List DeviceLine) → All IsLawfulLine ds → All (λ d. are_known known d.suppliers ≡ true) ds → (k : ℕ)
    → (planned (map (planned_of known ss) ds) k ≡ nothing) ⊎ ((d : DeviceLine) × IsLineAt known ss ds k d)
line_at known ss [] lawful known_all k = inl refl
line_at known ss (d ∷ ds) lawful known_all zero =
    inr (d, record { planned_is = refl; path_is = refl; lawful = lawful 0 d (omega arith); known_all = known_all 0 d (omega arith) })
line_at known ss (d ∷ ds) lawful known_all (suc k) =
    ⊎_elim (λ past. inl past)
    (λ at. inr (at.0, record { planned_is = at.1.planned_is; path_is = at.1.path_is; lawful = at.1.lawful; known_all = at.1.known_all }))
    (line_at known ss ds (λ i x within. lawful (suc i) x (omega arith)) (λ i x within. known_all (suc i) x (omega arith)) k)

-- places of paths that differ differ
places-apart : (known qs : List (List ℕ)) → are_known known qs ≡ true → are_distinct qs ≡ true → AllPairs (λ a b. a ≢ b) (map (place_of known) qs)
places-apart known qs known_all distinct i j d lt within = λ e.
    let long : length (map (place_of known) qs) ≡ length qs = length-map qs (place_of known) in
    let first : i < length qs = omega arith in
    let second : j < length qs = omega arith in
    let x : List ℕ = get_or qs i [] in
    let y : List ℕ = get_or qs j [] in
    let same : place_of known x ≡ place_of known y =
    sym (get_or-map (place_of known) qs i [] d first) ∙ e ∙ get_or-map (place_of known) qs j [] d second in
    let equal : x ≡ y =
    sym (place-holds known x [] (known-here known qs i [] known_all first)) ∙ ap (λ k. get_or known k []) same
    ∙ place-holds known y [] (known-here known qs j [] known_all second) in
    distinct-pairs qs distinct i j [] lt second equal

-- the line's own path is no supplier's
own-apart : (known qs : List (List ℕ)) (path : List ℕ) (k : ℕ) → get_or known k [] ≡ path → are_known known qs ≡ true → are_distinct (path ∷ qs) ≡ true
    → Contains (map (place_of known) qs) k → ⊥
own-apart known qs path k holds known_all distinct found =
    let at = found.0 in
    let long : length (map (place_of known) qs) ≡ length qs = length-map qs (place_of known) in
    let within' : at < length (map (place_of known) qs) = found.1 in
    let within : at < length qs = omega arith in
    let x : List ℕ = get_or qs at [] in
    let place : place_of known x ≡ k = sym (get_or-map (place_of known) qs at [] k within) ∙ found.2 in
    let equal : path ≡ x = sym holds ∙ ap (λ i. get_or known i []) (sym place) ∙ place-holds known x [] (known-here known qs at [] known_all within) in
    distinct-pairs (path ∷ qs) distinct 0 (suc at) [] (omega arith) (omega arith) equal

no-supplier : (k : ℕ) → Contains [] k → ⊥
no-supplier k found = let within : found.0 < 0 = found.1 in absurd (omega arith)

-- ---- the plan
lawful-plan : (ds : List DeviceLine) (ss : List StringsLine) → AreLawfulLines ds → All IsLawfulStrings ss
    → first_unknown (line_paths ds) ds ≡ None → first_misfit ds ss ≡ None → IsLawful (plan_of ds ss)
lawful-plan ds ss lawful strings none fit =
    let known = line_paths ds in
    let known_all = all-known known ds none in
    let long : length (plan_of ds ss) ≡ length ds = length-map ds (planned_of known ss) in
    let long_known : length known ≡ length ds = length-map ds (λ d. d.path) in
    let few : length ds ≤ most_devices = lawful.few in
    record {
      few = omega arith;
      devices = All-map IsLawfulDevice (planned_of known ss) ds
          (λ k x within. lawful-device known ss (get_or ds k x) (lawful.lines k x within) strings (no-strings ds ss k x lawful.distinct within fit));
      distinct = subst (AllPairs (λ a b. a ≢ b)) (sym (paths-planned known ss ds)) (distinct-pairs known lawful.distinct);
      suppliers = λ k. ⊎_elim
          (λ past. subst (λ d. All (λ s. s < length (plan_of ds ss)) d.suppliers) (sym past) (λ i x within. absurd (omega arith)))
          (λ at. subst (λ d. All (λ s. s < length (plan_of ds ss)) d.suppliers) (sym at.1.planned_is)
          (subst (λ n. All (λ s. s < n) (map (place_of known) at.0.suppliers)) (long_known ∙ sym long) (places-within known at.0.suppliers at.1.known_all)))
          (line_at known ss ds lawful.lines known_all k);
      apart = λ k. ⊎_elim
          (λ past. subst (λ d. AllPairs (λ a b. a ≢ b) d.suppliers) (sym past) (λ i j x lt within. absurd (omega arith)))
          (λ at. subst (λ d. AllPairs (λ a b. a ≢ b) d.suppliers) (sym at.1.planned_is)
          (places-apart known at.0.suppliers at.1.known_all (and-right _ _ at.1.lawful.distinct)))
          (line_at known ss ds lawful.lines known_all k);
      others = λ k found. ⊎_elim
          (λ past. no-supplier k (subst (λ d. Contains d.suppliers k) past found))
          (λ at. own-apart known at.0.suppliers at.0.path k at.1.path_is at.1.known_all at.1.lawful.distinct (subst (λ d. Contains d.suppliers k) at.1.planned_is found))
          (line_at known ss ds lawful.lines known_all k);
    }

-- the plan of what lines list
pub lawful-listed : (l : Listed) (plan : List PlannedDevice) → IsFaultless l → late_fault l ≡ None → plan ≡ plan_of l.devices l.lists → IsLawful plan
lawful-listed l plan faultless none is =
    let file : AreLawfulLines l.devices = subst (λ k. AreLawfulLines k.devices) (sym faultless.2) (lawful-before faultless.0 faultless.1 faultless.3) in
    let strings : All IsLawfulStrings l.lists = subst (λ k. All IsLawfulStrings k.lists) (sym faultless.2) (lawful-strings_before faultless.0 faultless.1) in
    let both = none-late l none in
    subst IsLawful (sym is) (lawful-plan l.devices l.lists file strings both.0 both.1)

pub paths-listed : (ds : List DeviceLine) (ss : List StringsLine) (plan : List PlannedDevice) (index : List (List ℕ)) → plan ≡ plan_of ds ss → index ≡ line_paths ds → index ≡ paths plan
paths-listed ds ss plan index is agrees = agrees ∙ sym (ap paths is ∙ paths-planned (line_paths ds) ss ds)
