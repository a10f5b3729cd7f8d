-- The text of a plan is read as the same plan.
use Rattle.std.proofs.Common.{◌≡◌, ◌≢◌, ◌∙◌, ap, sym, refl, subst, ℕ, zero, suc, ◌+◌, ◌<◌, ◌≤◌, Bool, true, false, cond, not, ◌&&◌, ◌||◌, ◌==◌, List, [], ◌∷◌, ◌++◌, length, length-append, get_or, map, take, take_all, arith, add-one, append-nil}
use Rattle.std.specs.Prelude.{All, Option, Some, None, is_some, is_none, Result, Ok, if◌then◌else◌, filter, nat_lt}
use Rattle.std.specs.Option.{option_map_or, option_to_list}
use Rattle.std.specs.List.{find}
use Rattle.std.specs.Str.{bytes_eq}
use Rattle.std.specs.Str.Lines.{lines}
use Rattle.std.proofs.lemmas.Bool.{lt-leb, ne_eqb, ltb-true, ltb-false}
use Rattle.std.proofs.lemmas.List.{get_or-map, length-map, map-append, take_more, get_or_default, get_or_append_left, get_or-append-add, length-take-le, take-map}
use Rattle.std.proofs.Math.Seq.{get_or-append_seam}
use Rattle.std.proofs.lemmas.List.Folds.{list_any_at}
use Rattle.std.proofs.lemmas.List.Sums.{position_or_len_is}
use Rattle.bus_plan.specs.Limits.{most_devices}
use Rattle.bus_plan.specs.declared.error.PlanError.{PlanError}
use Rattle.bus_plan.specs.declared.error.PlanError.TheVariants.{BadLine, DuplicateDevice, UnknownPath}
use Rattle.bus_plan.specs.declared.plan_line.PlanLine.TheVariants.{Device, Strings}
use Rattle.bus_plan.specs.Laws.{PlanTextIsReadBack}
use Rattle.bus_plan.specs.Lines.{is_line}
use Rattle.bus_plan.specs.Plan.{PlannedDevice, nothing, planned, path_of, suppliers_of, compatibles_of, paths, IsLawfulDevice, IsLawful}
use Rattle.bus_plan.specs.PlanPaths.{is_among, are_distinct, are_known, place_of}
use Rattle.bus_plan.specs.PlanLines.{DeviceLine, StringsLine}
use Rattle.bus_plan.specs.PlanFile.{meaning, meaning_at, device_on, strings_on, devices_before, strings_before, line_paths, strings_paths, fault_of, fault_at, faults_before, is_unmatched, unknown_of, misfit_of, late_fault_of, late_faults_before, strings_at, planned_of, plan_of, first_or}
use Rattle.bus_plan.specs.PlanText.{device_text, has_strings, strings_text, strings_lines, text_of}
use Rattle.bus_plan.proofs.BoolLemmas.{and-left, and-right, and_both, or-left, or-right, not-true}
use Rattle.bus_plan.proofs.DistinctLemmas.{before-absent, distinct-pairs, pairs-distinct, bytes_eq-refl, bytes_eq-same}
use Rattle.bus_plan.proofs.LawfulLemmas.{find-here}
use Rattle.bus_plan.proofs.PlanFileLemmas.{refusal-none}
use Rattle.bus_plan.proofs.TextLines.{lines-more, lines-joined}
use Rattle.bus_plan.proofs.TextMeaning.{line_of, list_of, path-at, path-injective, line-means, text-lines, strings-mean, strings-lines}

-- the lines of a plan's text: those of its devices, and those of their strings
abbrev texts_of : List PlannedDevice → List (List ℕ)
texts_of plan = map (device_text plan) plan

abbrev described : List PlannedDevice → List PlannedDevice
described plan = filter has_strings plan

abbrev all_texts : List PlannedDevice → List (List ℕ)
all_texts plan = texts_of plan ++ map strings_text (described plan)

-- the devices that the first n of them list
abbrev lines_to : List PlannedDevice → ℕ → List DeviceLine
lines_to plan zero = []
lines_to plan (suc n) = lines_to plan n ++ line_of plan (n + 1) (planned plan n) ∷ []

-- the strings of some devices, on lines from this number on
abbrev lists_from : List PlannedDevice → ℕ → List StringsLine
lists_from [] m = []
lists_from (d ∷ ds) m = list_of m d ∷ lists_from ds (m + 1)

take-suc : (plan : List PlannedDevice) (n : ℕ) → n < length plan → take (suc n) plan ≡ take n plan ++ planned plan n ∷ []
take-suc plan n within = ap (λ k. take k plan) (sym (add-one n)) ∙ take_more plan n nothing within

lists-more : (ds : List PlannedDevice) (d : PlannedDevice) (m k : ℕ) → k ≡ m + length ds → lists_from (ds ++ d ∷ []) m ≡ lists_from ds m ++ list_of k d ∷ []
lists-more [] d m k is = let same : m ≡ k = omega (arith, is) in ap (λ n. list_of n d ∷ []) same
lists-more (x ∷ ds) d m k is = ap (λ ss. list_of m x ∷ ss) (lists-more ds d (m + 1) k (omega (arith, is)))

lists-paths : (ds : List PlannedDevice) (m : ℕ) → strings_paths (lists_from ds m) ≡ paths ds
lists-paths [] m = refl
lists-paths (d ∷ ds) m = ap (λ ps. d.path ∷ ps) (lists-paths ds (m + 1))

-- ---- the devices that have strings
-- each is a device of the plan
record IsDescribed (plan : List PlannedDevice) (d : PlannedDevice) : Type 0 where
  place : ℕ
  within : place < length plan
  is : planned plan place ≡ d
  some : has_strings d ≡ true

described-at : (plan : List PlannedDevice) (j : ℕ) → j < length (described plan) → IsDescribed plan (planned (described plan) j)
described-at [] j within = absurd (omega arith)
described-at (d ∷ plan) j within = by_test (has_strings d) refl j (described-at plan) within
  where
    later : (x : PlannedDevice) → IsDescribed plan x → IsDescribed (d ∷ plan) x
    later x at = record { place = suc at.place; within = omega (arith, at.within); is = at.is; some = at.some }

    by_test : (t : Bool) → has_strings d ≡ t → (j : ℕ) → ((i : ℕ) → i < length (described plan) → IsDescribed plan (planned (described plan) i)) → j < length (if t then d ∷ described plan else described plan)
        → IsDescribed (d ∷ plan) (planned (if t then d ∷ described plan else described plan) j)
    by_test true e zero rest within = record { place = 0; within = omega arith; is = refl; some = e }
    by_test true e (suc j) rest within = later (planned (described plan) j) (rest j (omega arith))
    by_test false e j rest within = later (planned (described plan) j) (rest j within)

absent-described : (plan : List PlannedDevice) (path : List ℕ) → is_among path (paths plan) ≡ false → is_among path (paths (described plan)) ≡ false
absent-described [] path h = refl
absent-described (d ∷ plan) path h = by_test (has_strings d) (absent-described plan path (or-right (bytes_eq path d.path) _ h))
  where
    by_test : (t : Bool) → is_among path (paths (described plan)) ≡ false → is_among path (paths (if t then d ∷ described plan else described plan)) ≡ false
    by_test true rest = ap (λ t. t || is_among path (paths (described plan))) (or-left _ _ h) ∙ rest
    by_test false rest = rest

distinct-described : (plan : List PlannedDevice) → are_distinct (paths plan) ≡ true → are_distinct (paths (described plan)) ≡ true
distinct-described [] h = refl
distinct-described (d ∷ plan) h = by_test (has_strings d) (distinct-described plan (and-right (not (is_among d.path (paths plan))) _ h))
  where
    by_test : (t : Bool) → are_distinct (paths (described plan)) ≡ true → are_distinct (paths (if t then d ∷ described plan else described plan)) ≡ true
    by_test true rest = and_both _ _ (ap not (absent-described plan d.path (not-true _ (and-left _ _ h)))) rest
    by_test false rest = rest

-- ---- the strings of a path
no-list : (ds : List PlannedDevice) (m : ℕ) (path : List ℕ) → is_among path (paths ds) ≡ false → strings_at (lists_from ds m) path ≡ []
no-list [] m path h = refl
no-list (d ∷ ds) m path h =
    ap (λ t. option_map_or (λ s. s.strings) (cond t (Some (list_of m d)) (find (λ s. bytes_eq path s.path) (lists_from ds (m + 1)))) []) (or-left _ _ h)
    ∙ no-list ds (m + 1) path (or-right (bytes_eq path d.path) _ h)

no-strings : (d : PlannedDevice) → has_strings d ≡ false → d.compatibles ≡ []
no-strings d e = by d.compatibles e
  where
    by : (strings : List (List ℕ)) → not (length strings == 0) ≡ false → strings ≡ []
    by [] e = refl
    by (s ∷ ss) e = absurd (cc (e, filled s ss))
      where
        filled : (x : List ℕ) (xs : List (List ℕ)) → (length (x ∷ xs) == 0) ≡ false
        filled x xs = ne_eqb _ _ (λ e. absurd (omega arith))

strings-back : (ds : List PlannedDevice) (m k : ℕ) → are_distinct (paths ds) ≡ true → k < length ds → strings_at (lists_from (described ds) m) (path_of ds k) ≡ compatibles_of ds k
strings-back [] m k distinct within = absurd (omega arith)
strings-back (d ∷ ds) m zero distinct within = by_test (has_strings d) refl
  where
    by_test : (t : Bool) → has_strings d ≡ t → strings_at (lists_from (if t then d ∷ described ds else described ds) m) d.path ≡ d.compatibles
    by_test true e =
        ap (λ t. option_map_or (λ s. s.strings) (cond t (Some (list_of m d)) (find (λ s. bytes_eq d.path s.path) (lists_from (described ds) (m + 1)))) []) (bytes_eq-refl d.path)
    by_test false e =
        no-list (described ds) m d.path (absent-described ds d.path (not-true _ (and-left _ _ distinct))) ∙ sym (no-strings d e)
strings-back (d ∷ ds) m (suc k) distinct within =
    by_test (has_strings d) (λ n. strings-back ds n k (and-right (not (is_among d.path (paths ds))) _ distinct) (omega arith))
  where
    path : List ℕ
    path = path_of ds k

    below : k < length ds
    below = omega arith

    other : d.path ≢ path
    other e =
        let long : length (paths ds) ≡ length ds = length-map ds (λ d. d.path) in
        let inside : suc k < length (d.path ∷ paths ds) = omega arith in
        distinct-pairs (d.path ∷ paths ds) distinct 0 (suc k) [] (omega arith) inside (e ∙ sym (get_or-map (λ d. d.path) ds k nothing [] below))

    apart : (t : Bool) → bytes_eq path d.path ≡ t → t ≡ false
    apart true e = absurd (other (sym (bytes_eq-same path d.path e)))
    apart false e = refl

    by_test : (t : Bool) → ((n : ℕ) → strings_at (lists_from (described ds) n) path ≡ compatibles_of ds k) → strings_at (lists_from (if t then d ∷ described ds else described ds) m) path ≡ compatibles_of ds k
    by_test true rest =
        ap (λ t. option_map_or (λ s. s.strings) (cond t (Some (list_of m d)) (find (λ s. bytes_eq path s.path) (lists_from (described ds) (m + 1)))) []) (apart (bytes_eq path d.path) refl)
        ∙ rest (m + 1)
    by_test false rest = rest m

module _ (plan : List PlannedDevice) (lawful : IsLawful plan) where
  count : length (texts_of plan) ≡ length plan
  count = length-map plan (device_text plan)

  says : (n : ℕ) → n < length plan → meaning_at (all_texts plan) n ≡ Ok (Some (Device (line_of plan (n + 1) (planned plan n))))
  says n within =
      ap (meaning (n + 1)) (get_or_append_left (texts_of plan) (map strings_text (described plan)) [] n (omega (arith, count)) ∙ get_or-map (device_text plan) plan n nothing [] within)
      ∙ line-means plan lawful (n + 1) n within

  says-strings : (j : ℕ) → j < length (described plan)
      → meaning_at (all_texts plan) (length plan + j) ≡ Ok (Some (Strings (list_of (length plan + j + 1) (planned (described plan) j))))
  says-strings j within =
      let q = planned (described plan) j in
      let at = described-at plan j within in
      ap (λ n. meaning (length plan + j + 1) (get_or (all_texts plan) (n + j) [])) (sym count)
      ∙ ap (meaning (length plan + j + 1)) (get_or-append-add (texts_of plan) (map strings_text (described plan)) j [] ∙ get_or-map strings_text (described plan) j nothing [] within)
      ∙ subst (λ d. meaning (length plan + j + 1) (strings_text d) ≡ Ok (Some (Strings (list_of (length plan + j + 1) d)))) at.is
      (strings-mean plan lawful (length plan + j + 1) at.place at.within (ap has_strings at.is ∙ at.some))

  devices-are : (n : ℕ) → n ≤ length plan → devices_before (all_texts plan) n ≡ lines_to plan n
  devices-are zero within = refl
  devices-are (suc n) within =
      ap (λ ds. ds ++ option_to_list (device_on (meaning_at (all_texts plan) n))) (devices-are n (omega arith))
      ∙ ap (λ m. lines_to plan n ++ option_to_list (device_on m)) (says n (omega arith))

  no-lists : (n : ℕ) → n ≤ length plan → strings_before (all_texts plan) n ≡ []
  no-lists zero within = refl
  no-lists (suc n) within =
      ap (λ ss. ss ++ option_to_list (strings_on (meaning_at (all_texts plan) n))) (no-lists n (omega arith))
      ∙ ap (λ m. option_to_list (strings_on m)) (says n (omega arith))

  -- a further line behind those of the devices
  step : {A : Type 0} (f : ℕ → A) (j : ℕ) → f (length plan + suc j) ≡ f (suc (length plan + j))
  step f j = let same : length plan + suc j ≡ suc (length plan + j) = omega arith in ap f same

  devices-stay : (j : ℕ) → j ≤ length (described plan) → devices_before (all_texts plan) (length plan + j) ≡ lines_to plan (length plan)
  devices-stay zero within =
      let same : length plan + 0 ≡ length plan = omega arith in
      ap (devices_before (all_texts plan)) same ∙ devices-are (length plan) (omega arith)
  devices-stay (suc j) within =
      step (devices_before (all_texts plan)) j
      ∙ ap (λ m. devices_before (all_texts plan) (length plan + j) ++ option_to_list (device_on m)) (says-strings j (omega arith))
      ∙ append-nil (devices_before (all_texts plan) (length plan + j)) ∙ devices-stay j (omega arith)

  lists-are : (j : ℕ) → j ≤ length (described plan) → strings_before (all_texts plan) (length plan + j) ≡ lists_from (take j (described plan)) (length plan + 1)
  lists-are zero within =
      let same : length plan + 0 ≡ length plan = omega arith in
      ap (strings_before (all_texts plan)) same ∙ no-lists (length plan) (omega arith)
  lists-are (suc j) within =
      let qs = described plan in
      let short : length (take j qs) ≡ j = length-take-le j qs (omega arith) in
      step (strings_before (all_texts plan)) j
      ∙ ap (λ m. strings_before (all_texts plan) (length plan + j) ++ option_to_list (strings_on m)) (says-strings j (omega arith))
      ∙ ap (λ ss. ss ++ list_of (length plan + j + 1) (planned qs j) ∷ []) (lists-are j (omega arith))
      ∙ sym (ap (λ ds. lists_from ds (length plan + 1)) (take-suc qs j (omega arith)) ∙ lists-more (take j qs) (planned qs j) (length plan + 1) (length plan + j + 1) (omega (arith, short)))

  paths-to : (n : ℕ) → n ≤ length plan → line_paths (lines_to plan n) ≡ take n (paths plan)
  paths-to zero within = refl
  paths-to (suc n) within =
      let long : length (paths plan) ≡ length plan = length-map plan (λ d. d.path) in
      let here : n < length (paths plan) = omega arith in
      let below : n < length plan = omega arith in
      map-append (λ d. d.path) (lines_to plan n) (line_of plan (n + 1) (planned plan n) ∷ [])
      ∙ ap (λ ps. ps ++ path_of plan n ∷ []) (paths-to n (omega arith))
      ∙ ap (λ p. take n (paths plan) ++ p ∷ []) (sym (path-at plan lawful n below))
      ∙ sym (ap (λ k. take k (paths plan)) (sym (add-one n)) ∙ take_more (paths plan) n [] here)

  length-to : (n : ℕ) → length (lines_to plan n) ≡ n
  length-to zero = refl
  length-to (suc n) =
      let before = length-to n in
      let joined = length-append (lines_to plan n) (line_of plan (n + 1) (planned plan n) ∷ []) in
      omega arith

  line-new : (n : ℕ) → n < length plan → is_among (path_of plan n) (line_paths (lines_to plan n)) ≡ false
  line-new n within =
      let long : length (paths plan) ≡ length plan = length-map plan (λ d. d.path) in
      let here : n < length (paths plan) = omega arith in
      let below : n ≤ length plan = omega arith in
      ap (is_among (path_of plan n)) (paths-to n below) ∙ ap (λ p. is_among p (take n (paths plan))) (sym (path-at plan lawful n within))
      ∙ before-absent (paths plan) n [] lawful.distinct here

  no-fault : (n : ℕ) → n < length plan → fault_at (all_texts plan) n ≡ None
  no-fault n within =
      let few : length plan ≤ most_devices = lawful.few in
      let short = length-to n in
      let room : length (lines_to plan n) < most_devices = omega arith in
      ap (λ ds. fault_of ds (strings_before (all_texts plan) n) (meaning_at (all_texts plan) n)) (devices-are n (omega arith))
      ∙ ap (fault_of (lines_to plan n) (strings_before (all_texts plan) n)) (says n within)
      ∙ refusal-none (lines_to plan n) (line_of plan (n + 1) (planned plan n)) (line-new n within) (lt-leb most_devices (length (lines_to plan n)) room)

  faultless : (n : ℕ) → n ≤ length plan → faults_before (all_texts plan) n ≡ []
  faultless zero within = refl
  faultless (suc n) within =
      ap (λ fs. fs ++ option_to_list (fault_at (all_texts plan) n)) (faultless n (omega arith))
      ∙ ap option_to_list (no-fault n (omega arith))

  distinct : are_distinct (paths plan) ≡ true
  distinct = pairs-distinct (paths plan) lawful.distinct

  list-new : (j : ℕ) → j < length (described plan) → is_among (path_of (described plan) j) (strings_paths (lists_from (take j (described plan)) (length plan + 1))) ≡ false
  list-new j within =
      let qs = described plan in
      let long : length (paths qs) ≡ length qs = length-map qs (λ d. d.path) in
      ap (is_among (path_of qs j)) (lists-paths (take j qs) (length plan + 1) ∙ sym (take-map (λ d. d.path) j qs))
      ∙ ap (λ p. is_among p (take j (paths qs))) (sym (get_or-map (λ d. d.path) qs j nothing [] within))
      ∙ before-absent (paths qs) j [] (distinct-pairs (paths qs) (distinct-described plan distinct)) (omega arith)

  no-repeat : (j : ℕ) → j < length (described plan) → fault_at (all_texts plan) (length plan + j) ≡ None
  no-repeat j within =
      let q = planned (described plan) j in
      let lists = lists_from (take j (described plan)) (length plan + 1) in
      let n = length plan + j in
      ap (fault_of (devices_before (all_texts plan) n) (strings_before (all_texts plan) n)) (says-strings j within)
      ∙ ap (λ ss. if is_among q.path (strings_paths ss) then Some (DuplicateDevice (n + 1)) else None) (lists-are j (omega arith))
      ∙ ap (λ t. if t then Some (DuplicateDevice (n + 1)) else None) (list-new j within)

  faultless-all : (j : ℕ) → j ≤ length (described plan) → faults_before (all_texts plan) (length plan + j) ≡ []
  faultless-all zero within =
      let same : length plan + 0 ≡ length plan = omega arith in
      ap (faults_before (all_texts plan)) same ∙ faultless (length plan) (omega arith)
  faultless-all (suc j) within =
      step (faults_before (all_texts plan)) j
      ∙ ap (λ fs. fs ++ option_to_list (fault_at (all_texts plan) (length plan + j))) (faultless-all j (omega arith))
      ∙ ap option_to_list (no-repeat j (omega arith))

  -- ---- the suppliers are found where they were
  place-back : (s : ℕ) → s < length plan → place_of (paths plan) (path_of plan s) ≡ s
  place-back s within =
      let long : length (paths plan) ≡ length plan = length-map plan (λ d. d.path) in
      position_or_len_is (bytes_eq (path_of plan s)) (paths plan) s [] (omega arith)
      (λ k below. other k below (bytes_eq (path_of plan s) (get_or (paths plan) k [])) refl)
      (λ here. ap (bytes_eq (path_of plan s)) (path-at plan lawful s within) ∙ bytes_eq-refl (path_of plan s))
    where
      other : (k : ℕ) → k < s → (t : Bool) → bytes_eq (path_of plan s) (get_or (paths plan) k []) ≡ t → t ≡ false
      other k below false e = refl
      other k below true e =
          let early : k < length plan = omega arith in
          let same : s ≡ k = path-injective plan lawful s k within early (bytes_eq-same _ _ e ∙ path-at plan lawful k early) in
          absurd (omega arith)

  places-back : (qs : List ℕ) → All (λ s. s < length plan) qs → map (place_of (paths plan)) (map (path_of plan) qs) ≡ qs
  places-back [] all = refl
  places-back (q ∷ qs) all =
      ap (λ x. x ∷ map (place_of (paths plan)) (map (path_of plan) qs)) (place-back q (all 0 q (omega arith)))
      ∙ ap (λ xs. q ∷ xs) (places-back qs (λ k d within. all (suc k) d (omega arith)))

  known-back : (qs : List ℕ) → All (λ s. s < length plan) qs → are_known (paths plan) (map (path_of plan) qs) ≡ true
  known-back [] all = refl
  known-back (q ∷ qs) all =
      let long : length (paths plan) ≡ length plan = length-map plan (λ d. d.path) in
      let below : q < length plan = all 0 q (omega arith) in
      and_both _ _
      (list_any_at (bytes_eq (path_of plan q)) (paths plan) q [] (omega arith)
      (ap (bytes_eq (path_of plan q)) (path-at plan lawful q below) ∙ bytes_eq-refl (path_of plan q)))
      (known-back qs (λ k d within. all (suc k) d (omega arith)))

  all-paths : line_paths (lines_to plan (length plan)) ≡ paths plan
  all-paths =
      let long : length (paths plan) ≡ length plan = length-map plan (λ d. d.path) in
      paths-to (length plan) (omega arith) ∙ take_all (length plan) (paths plan) (omega arith)

  abbrev lists : List StringsLine
  lists = lists_from (described plan) (length plan + 1)

  planned-back : (m k : ℕ) → k < length plan → planned_of (paths plan) lists (line_of plan m (planned plan k)) ≡ planned plan k
  planned-back m k within =
      let d : PlannedDevice = planned plan k in
      let again : List ℕ → List (List ℕ) → PlannedDevice = λ s c. record { path = d.path; available = d.available; driver = d.driver; verdict = d.verdict; suppliers = s; compatibles = c } in
      ap (λ s. again s (strings_at lists d.path)) (places-back d.suppliers (lawful.suppliers k))
      ∙ ap (again d.suppliers) (strings-back plan (length plan + 1) k distinct within)

  planned-to : (n : ℕ) → n ≤ length plan → map (planned_of (paths plan) lists) (lines_to plan n) ≡ take n plan
  planned-to zero within = refl
  planned-to (suc n) within =
      map-append (planned_of (paths plan) lists) (lines_to plan n) (line_of plan (n + 1) (planned plan n) ∷ [])
      ∙ ap (λ ds. ds ++ planned_of (paths plan) lists (line_of plan (n + 1) (planned plan n)) ∷ []) (planned-to n (omega arith))
      ∙ ap (λ d. take n plan ++ d ∷ []) (planned-back (n + 1) n (omega arith))
      ∙ sym (take-suc plan n (omega arith))

  unknown-back : (m k : ℕ) → unknown_of (paths plan) (line_of plan m (planned plan k)) ≡ None
  unknown-back m k = ap (λ t. if t then None else Some (UnknownPath m)) (known-back (suppliers_of plan k) (lawful.suppliers k))

  -- ---- strings belong to unmatched devices
  line-at : (n k : ℕ) (x : DeviceLine) → k < n → get_or (lines_to plan n) k x ≡ line_of plan (k + 1) (planned plan k)
  line-at zero k x within = absurd (omega arith)
  line-at (suc n) k x within = by_test (nat_lt k n) refl (line-at n k x)
    where
      by_test : (t : Bool) → nat_lt k n ≡ t → (k < n → get_or (lines_to plan n) k x ≡ line_of plan (k + 1) (planned plan k)) → get_or (lines_to plan (suc n)) k x ≡ line_of plan (k + 1) (planned plan k)
      by_test true e rest =
          let below : k < n = ltb-true k n e in
          let short = length-to n in
          get_or_append_left (lines_to plan n) (line_of plan (n + 1) (planned plan n) ∷ []) x k (omega arith) ∙ rest below
      by_test false e rest =
          let above : n ≤ k = ltb-false k n e in
          let short = length-to n in
          let here : k ≡ length (lines_to plan n) = omega arith in
          let same : n ≡ k = omega arith in
          ap (λ i. get_or (lines_to plan (suc n)) i x) here
          ∙ get_or-append_seam (lines_to plan n) (line_of plan (n + 1) (planned plan n)) [] x ∙ ap (λ i. line_of plan (i + 1) (planned plan i)) same

  unmatched : (m k : ℕ) → k < length plan → has_strings (planned plan k) ≡ true → is_unmatched (line_of plan m (planned plan k)) ≡ true
  unmatched m k within some = by_test (planned plan k).available (planned plan k).driver refl refl
    where
      own : IsLawfulDevice (planned plan k)
      own = lawful.devices k nothing within

      no : (planned plan k).compatibles ≡ [] → ⊥
      no e = absurd (cc (ap (λ ss. not (length ss == 0)) e, some))

      by_test : (available : Bool) (driver : Option (List ℕ)) → (planned plan k).available ≡ available → (planned plan k).driver ≡ driver → (available && is_none driver) ≡ true
      by_test false driver is_available is_driver = absurd (no (own.disabled is_available))
      by_test true None is_available is_driver = refl
      by_test true (Some name) is_available is_driver = absurd (no (own.matched (ap is_some is_driver)))

  fits : (j m : ℕ) → j < length (described plan) → misfit_of (lines_to plan (length plan)) (list_of m (planned (described plan) j)) ≡ None
  fits j m within =
      let ds = lines_to plan (length plan) in
      let q = planned (described plan) j in
      let at = described-at plan j within in
      let k = at.place in
      let line = line_of plan (k + 1) (planned plan k) in
      let short = length-to (length plan) in
      let below : k < length plan = at.within in
      let inside : k < length ds = omega arith in
      let is : get_or ds k line ≡ line = line-at (length plan) k line below in
      let apart : are_distinct (line_paths ds) ≡ true = ap are_distinct all-paths ∙ distinct in
      let found : find (λ d. bytes_eq q.path d.path) ds ≡ Some line =
      find-here ds k line q.path apart inside (sym (ap (λ d. d.path) is ∙ ap (λ d. d.path) at.is)) ∙ ap Some is in
      ap (λ f. option_map_or (λ d. if is_unmatched d then None else Some (BadLine m)) f (Some (UnknownPath m))) found
      ∙ ap (λ t. if t then None else Some (BadLine m)) (unmatched (k + 1) k below (ap has_strings at.is ∙ at.some))

  fit-devices : (n : ℕ) → n ≤ length plan → late_faults_before (lines_to plan (length plan)) (all_texts plan) n ≡ []
  fit-devices zero within = refl
  fit-devices (suc n) within =
      let ds = lines_to plan (length plan) in
      ap (λ fs. fs ++ option_to_list (late_fault_of ds (meaning_at (all_texts plan) n))) (fit-devices n (omega arith))
      ∙ ap (λ m. option_to_list (late_fault_of ds m)) (says n (omega arith))
      ∙ ap (λ known. option_to_list (unknown_of known (line_of plan (n + 1) (planned plan n)))) all-paths
      ∙ ap option_to_list (unknown-back (n + 1) n)

  fit-all : (j : ℕ) → j ≤ length (described plan) → late_faults_before (lines_to plan (length plan)) (all_texts plan) (length plan + j) ≡ []
  fit-all zero within =
      let same : length plan + 0 ≡ length plan = omega arith in
      ap (late_faults_before (lines_to plan (length plan)) (all_texts plan)) same ∙ fit-devices (length plan) (omega arith)
  fit-all (suc j) within =
      let ds = lines_to plan (length plan) in
      step (late_faults_before ds (all_texts plan)) j
      ∙ ap (λ fs. fs ++ option_to_list (late_fault_of ds (meaning_at (all_texts plan) (length plan + j)))) (fit-all j (omega arith))
      ∙ ap (λ m. option_to_list (late_fault_of ds m)) (says-strings j (omega arith))
      ∙ ap option_to_list (fits j (length plan + j + 1) (omega arith))

  -- ---- the whole text
  cut : lines (text_of plan) ≡ all_texts plan
  cut =
      lines-more (device_text plan) plan (strings_lines plan)
      (λ k d within. subst (λ x. is_line (device_text plan x) ≡ true) (get_or_default plan k nothing d within) (text-lines plan lawful k within))
      ∙ ap (λ ls. texts_of plan ++ ls) (lines-joined strings_text (described plan)
      (λ j d within. let at = described-at plan j within in
      subst (λ x. is_line (strings_text x) ≡ true) (at.is ∙ get_or_default (described plan) j nothing d within) (strings-lines plan lawful at.place at.within)))

  long : length (all_texts plan) ≡ length plan + length (described plan)
  long =
      let strings = length-map (described plan) strings_text in
      let joined = length-append (texts_of plan) (map strings_text (described plan)) in
      omega (arith, count, strings, joined)

-- what lines are read as, where there are n of them
abbrev reading_of : List (List ℕ) → ℕ → Result (List PlannedDevice) PlanError
reading_of ls n =
    first_or (faults_before ls n ++ late_faults_before (devices_before ls n) ls n) (plan_of (devices_before ls n) (strings_before ls n))

pub read_back : PlanTextIsReadBack
read_back plan lawful =
    let n = length plan in
    let qs = described plan in
    let m = length qs in
    let ls = all_texts plan in
    let ds = lines_to plan n in
    let devices : devices_before ls (n + m) ≡ ds = devices-stay plan lawful m (omega arith) in
    let strings : strings_before ls (n + m) ≡ lists plan lawful =
    lists-are plan lawful m (omega arith) ∙ ap (λ xs. lists_from xs (n + 1)) (take_all m qs (omega arith)) in
    let same : plan_of ds (lists plan lawful) ≡ plan =
    ap (λ ps. map (planned_of ps (lists plan lawful)) ds) (all-paths plan lawful) ∙ planned-to plan lawful n (omega arith) ∙ take_all n plan (omega arith) in
    ap (λ k. reading_of k (length k)) (cut plan lawful) ∙ ap (reading_of ls) (long plan lawful)
    ∙ ap (λ fs. first_or (fs ++ late_faults_before (devices_before ls (n + m)) ls (n + m)) (plan_of (devices_before ls (n + m)) (strings_before ls (n + m)))) (faultless-all plan lawful m (omega arith))
    ∙ ap (λ k. first_or (late_faults_before k ls (n + m)) (plan_of k (strings_before ls (n + m)))) devices
    ∙ ap (λ fs. first_or fs (plan_of ds (strings_before ls (n + m)))) (fit-all plan lawful m (omega arith))
    ∙ ap (λ ss. Ok (plan_of ds ss)) strings ∙ ap Ok same
