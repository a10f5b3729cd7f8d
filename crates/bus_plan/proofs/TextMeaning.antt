-- A line of a plan's text means its device, or the strings of one.
use Rattle.std.proofs.Common.{◌≡◌, ◌≢◌, ◌∙◌, ap, sym, refl, ℕ, zero, suc, ◌<◌, ◌≤◌, Bool, true, false, not, ◌==◌, List, [], ◌∷◌, length, get_or, map, arith}
use Rattle.std.specs.Prelude.{All, AllPairs, IsTrue, IfSome, Option, Some, None, Ok, Err, codes, if◌then◌else◌, nat_lt, slice_index}
use Rattle.std.specs.Option.{option_map}
use Rattle.std.specs.List.{list_all}
use Rattle.std.specs.Str.{bytes_eq}
use Rattle.std.proofs.lemmas.Bool.{ltb-true, ltb-false}
use Rattle.std.proofs.lemmas.List.{get_or-map, length-map}
use Rattle.std.proofs.lemmas.List.Elements.{All-cons, All-map}
use Rattle.dt_tree.specs.Path.{is_path}
use Rattle.bus_plan.specs.declared.error.PlanError.TheVariants.{BadLine}
use Rattle.bus_plan.specs.declared.matching.Matching.{Matching}
use Rattle.bus_plan.specs.declared.verdict.Verdict.{Verdict}
use Rattle.bus_plan.specs.declared.verdict.Verdict.TheVariants.{Binds, Fails}
use Rattle.bus_plan.specs.Lines.{is_line, fields, is_skipped}
use Rattle.bus_plan.specs.Plan.{PlannedDevice, nothing, planned, path_of, suppliers_of, paths, is_device_path, is_driver_name, is_string_byte, is_compatible, IsLawful}
use Rattle.bus_plan.specs.PlanPaths.{is_among, are_distinct}
use Rattle.bus_plan.specs.declared.plan_line.PlanLine.TheVariants.{Device, Strings}
use Rattle.bus_plan.specs.PlanLines.{DeviceLine, StringsLine}
use Rattle.bus_plan.specs.PlanFile.{matching_of, device_of, strings_of, said_by, stated, meaning}
use Rattle.bus_plan.specs.PlanText.{driver_field, verdict_field, fields_behind, device_text, has_strings, strings_text}
use Rattle.bus_plan.proofs.BoolLemmas.{and-left, and-right, and_both}
use Rattle.bus_plan.proofs.DistinctLemmas.{absent, pairs-distinct}
use Rattle.bus_plan.proofs.TextBytes.{IsWord, word-name, word-path, first-path}
use Rattle.bus_plan.proofs.TextLines.{fields-spaced, line-spaced}

-- the line that the text has for a device
abbrev pub matching_in : PlannedDevice → Matching
matching_in d = record { available = d.available; driver = d.driver; verdict = d.verdict }

abbrev pub line_of : List PlannedDevice → ℕ → PlannedDevice → DeviceLine
line_of plan n d = record { number = n; path = d.path; matching = matching_in d; suppliers = map (path_of plan) d.suppliers }

-- ---- the second and third field
driver_of-name : (available : Bool) (name : List ℕ) (verdict : Verdict) → (available ≡ false → Some name ≡ None) → is_driver_name name ≡ true
    → matching_of (driver_field available (Some name)) (verdict_field (Some name) verdict) ≡ Some (record { available = available; driver = Some name; verdict = verdict })
driver_of-name false name verdict unavailable lawful = let gone : Some name ≡ None = unavailable refl in absurd (cc)
driver_of-name true name Binds unavailable lawful = ap (λ t. if t then Some (record { available = true; driver = Some name; verdict = Binds }) else None) lawful
driver_of-name true name Fails unavailable lawful = ap (λ t. if t then Some (record { available = true; driver = Some name; verdict = Fails }) else None) lawful

driver_of-none : (available : Bool) (verdict : Verdict) → verdict ≡ Binds
    → matching_of (driver_field available None) (verdict_field None verdict) ≡ Some (record { available = available; driver = None; verdict = verdict })
driver_of-none true verdict e = ap (λ v. Some (record { available = true; driver = None; verdict = v })) (sym e)
driver_of-none false verdict e = ap (λ v. Some (record { available = false; driver = None; verdict = v })) (sym e)

fields-mean : (available : Bool) (driver : Option (List ℕ)) (verdict : Verdict)
    → IfSome driver (λ name. IsTrue (is_driver_name name)) → (available ≡ false → driver ≡ None) → (driver ≡ None → verdict ≡ Binds)
    → matching_of (driver_field available driver) (verdict_field driver verdict) ≡ Some (record { available = available; driver = driver; verdict = verdict })
fields-mean available None verdict name unavailable unmatched = driver_of-none available verdict (unmatched refl)
fields-mean available (Some name) verdict lawful unavailable unmatched = driver_of-name available name verdict unavailable lawful

word-driver : (available : Bool) (driver : Option (List ℕ)) → IfSome driver (λ name. IsTrue (is_driver_name name)) → IsWord (driver_field available driver)
word-driver available (Some name) lawful = word-name name (and-left _ _ lawful)
word-driver true None lawful = record { some = omega arith; graphic = refl }
word-driver false None lawful = record { some = omega arith; graphic = refl }

word-verdict : (driver : Option (List ℕ)) (verdict : Verdict) → IsWord (verdict_field driver verdict)
word-verdict (Some name) Binds = record { some = omega arith; graphic = refl }
word-verdict (Some name) Fails = record { some = omega arith; graphic = refl }
word-verdict None verdict = record { some = omega arith; graphic = refl }

-- ---- the first field
path-other : (path : List ℕ) → is_path path ≡ true → bytes_eq path (codes "compatible") ≡ false
path-other [] h = absurd (cc)
path-other (b ∷ rest) h = ap (λ x. bytes_eq (x ∷ rest) (codes "compatible")) (first-path b rest h)

-- ---- strings
abbrev pub list_of : ℕ → PlannedDevice → StringsLine
list_of n d = record { number = n; path = d.path; strings = d.compatibles }

some-of : (f : List ℕ) → not (length f == 0) ≡ true → 0 < length f
some-of [] h = absurd (cc)
some-of (b ∷ f) h = omega arith

words-compatible : (strings : List (List ℕ)) → list_all is_compatible strings ≡ true → All IsWord strings
words-compatible [] h k d within = absurd (omega arith)
words-compatible (x ∷ xs) h zero d within =
    let own : is_compatible x ≡ true = and-left _ _ h in
    record { some = some-of x (and-left _ _ own); graphic = and-right (not (length x == 0)) (list_all is_string_byte x) own }
words-compatible (x ∷ xs) h (suc k) d within = words-compatible xs (and-right (is_compatible x) _ h) k d (omega arith)

strings-said : (n : ℕ) (path : List ℕ) (strings : List (List ℕ)) → is_device_path path ≡ true → not (length strings == 0) ≡ true
    → strings_of n (path ∷ strings) ≡ Some (record { number = n; path = path; strings = strings })
strings-said n path [] lawful some = absurd (cc)
strings-said n path (x ∷ xs) lawful some = ap (λ t. if t then Some (record { number = n; path = path; strings = x ∷ xs }) else None) lawful

-- ---- a device's line
skipped-path : (path : List ℕ) → is_path path ≡ true → (slice_index path 0 == 35) ≡ false
skipped-path [] h = absurd (cc)
skipped-path (b ∷ rest) h = ap (λ x. x == 35) (first-path b rest h)

module _ (plan : List PlannedDevice) (lawful : IsLawful plan) where
  pub path-lawful : (k : ℕ) → k < length plan → is_device_path (path_of plan k) ≡ true
  path-lawful k within = (lawful.devices k nothing within).path

  pub path-at : (k : ℕ) → k < length plan → get_or (paths plan) k [] ≡ path_of plan k
  path-at k within = get_or-map (λ d. d.path) plan k nothing [] within

  -- devices of one path are one
  pub path-injective : (a b : ℕ) → a < length plan → b < length plan → path_of plan a ≡ path_of plan b → a ≡ b
  path-injective a b wa wb e = by_test (nat_lt a b) (nat_lt b a) refl refl
    where
      long : length (paths plan) ≡ length plan
      long = length-map plan (λ d. d.path)

      by_test : (t u : Bool) → nat_lt a b ≡ t → nat_lt b a ≡ u → a ≡ b
      by_test true u first second =
          let lt : a < b = ltb-true a b first in
          let within : b < length (paths plan) = omega (arith, long) in
          absurd (lawful.distinct a b [] lt within (path-at a wa ∙ e ∙ sym (path-at b wb)))
      by_test false true first second =
          let lt : b < a = ltb-true b a second in
          let within : a < length (paths plan) = omega (arith, long) in
          absurd (lawful.distinct b a [] lt within (path-at b wb ∙ sym e ∙ sym (path-at a wa)))
      by_test false false first second =
          let above : b ≤ a = ltb-false a b first in
          let below : a ≤ b = ltb-false b a second in
          omega arith

  paths-lawful : (qs : List ℕ) → All (λ s. s < length plan) qs → list_all is_device_path (map (path_of plan) qs) ≡ true
  paths-lawful [] all = refl
  paths-lawful (q ∷ qs) all =
      and_both _ _ (path-lawful q (all 0 q (omega arith))) (paths-lawful qs (λ k d within. all (suc k) d (omega arith)))

  words : (k : ℕ) → k < length plan → All IsWord (path_of plan k ∷ fields_behind plan (planned plan k))
  words k within =
      let d = planned plan k in
      let own = lawful.devices k nothing within in
      All-cons IsWord d.path (fields_behind plan d) (word-path d.path (and-left _ _ own.path))
      (All-cons IsWord (driver_field d.available d.driver) (verdict_field d.driver d.verdict ∷ map (path_of plan) d.suppliers) (word-driver d.available d.driver own.driver)
      (All-cons IsWord (verdict_field d.driver d.verdict) (map (path_of plan) d.suppliers) (word-verdict d.driver d.verdict)
      (All-map IsWord (path_of plan) d.suppliers (λ j e inside. word-path (path_of plan (get_or d.suppliers j e)) (and-left _ _ (path-lawful (get_or d.suppliers j e) (lawful.suppliers k j e inside)))))))

  suppliers-apart : (qs : List ℕ) → All (λ s. s < length plan) qs → AllPairs (λ a b. a ≢ b) qs → AllPairs (λ a b. a ≢ b) (map (path_of plan) qs)
  suppliers-apart qs all pairs i j d lt inside = λ e.
      let long : length (map (path_of plan) qs) ≡ length qs = length-map qs (path_of plan) in
      let first : i < length qs = omega arith in
      let second : j < length qs = omega arith in
      let same : path_of plan (get_or qs i 0) ≡ path_of plan (get_or qs j 0) =
      sym (get_or-map (path_of plan) qs i 0 d first) ∙ e ∙ get_or-map (path_of plan) qs j 0 d second in
      pairs i j 0 lt second (path-injective (get_or qs i 0) (get_or qs j 0) (all i 0 first) (all j 0 second) same)

  own-absent : (k : ℕ) → k < length plan → is_among (path_of plan k) (map (path_of plan) (suppliers_of plan k)) ≡ false
  own-absent k within =
      let qs = suppliers_of plan k in
      absent (path_of plan k) (map (path_of plan) qs)
      (λ j d inside e.
      let long : length (map (path_of plan) qs) ≡ length qs = length-map qs (path_of plan) in
      let second : j < length qs = omega arith in
      let same : path_of plan k ≡ path_of plan (get_or qs j k) = e ∙ get_or-map (path_of plan) qs j k d second in
      lawful.others k (j, second, sym (path-injective k (get_or qs j k) within (lawful.suppliers k j k second) same)))
      (is_among (path_of plan k) (map (path_of plan) qs)) refl

  line-distinct : (k : ℕ) → k < length plan → are_distinct (path_of plan k ∷ map (path_of plan) (suppliers_of plan k)) ≡ true
  line-distinct k within =
      let qs = suppliers_of plan k in
      and_both _ _ (ap not (own-absent k within)) (pairs-distinct (map (path_of plan) qs) (suppliers-apart qs (lawful.suppliers k) (lawful.apart k)))

  device-means : (n k : ℕ) → k < length plan → device_of n (path_of plan k ∷ fields_behind plan (planned plan k)) ≡ Some (line_of plan n (planned plan k))
  device-means n k within =
      let d = planned plan k in
      let own = lawful.devices k nothing within in
      let make : Matching → DeviceLine = λ m. record { number = n; path = d.path; matching = m; suppliers = map (path_of plan) d.suppliers } in
      ap (λ t. if t then option_map make (matching_of (driver_field d.available d.driver) (verdict_field d.driver d.verdict)) else None)
      (and_both _ _ (path-lawful k within) (and_both _ _ (paths-lawful d.suppliers (lawful.suppliers k)) (line-distinct k within)))
      ∙ ap (option_map make) (fields-mean d.available d.driver d.verdict own.driver own.unavailable own.unmatched)

  pub line-means : (n k : ℕ) → k < length plan → meaning n (device_text plan (planned plan k)) ≡ Ok (Some (Device (line_of plan n (planned plan k))))
  line-means n k within =
      let text = device_text plan (planned plan k) in
      let more = fields_behind plan (planned plan k) in
      let fs = path_of plan k ∷ more in
      let cut : fields text ≡ fs = fields-spaced (path_of plan k) more (words k within) in
      let line : is_line text ≡ true = line-spaced (path_of plan k) more (words k within) in
      let path : is_path (path_of plan k) ≡ true = and-left _ _ (path-lawful k within) in
      let kept : is_skipped fs ≡ false = skipped-path (path_of plan k) path in
      ap (λ t. if t then (if is_skipped (fields text) then Ok None else stated n (said_by n (fields text))) else Err (BadLine n)) line
      ∙ ap (λ f. if is_skipped f then Ok None else stated n (said_by n f)) cut
      ∙ ap (λ t. if t then Ok None else stated n (said_by n fs)) kept
      ∙ ap (λ t. stated n (if t then option_map Strings (strings_of n more) else option_map Device (device_of n fs))) (path-other (path_of plan k) path)
      ∙ ap (λ d. stated n (option_map Device d)) (device-means n k within)

  pub text-lines : (k : ℕ) → k < length plan → is_line (device_text plan (planned plan k)) ≡ true
  text-lines k within = line-spaced (path_of plan k) (fields_behind plan (planned plan k)) (words k within)

  words-strings : (k : ℕ) → k < length plan → All IsWord (codes "compatible" ∷ path_of plan k ∷ (planned plan k).compatibles)
  words-strings k within =
      let d = planned plan k in
      let own = lawful.devices k nothing within in
      All-cons IsWord (codes "compatible") (d.path ∷ d.compatibles) (record { some = omega arith; graphic = refl })
      (All-cons IsWord d.path d.compatibles (word-path d.path (and-left _ _ own.path)) (words-compatible d.compatibles own.compatibles))

  pub strings-mean : (n k : ℕ) → k < length plan → has_strings (planned plan k) ≡ true → meaning n (strings_text (planned plan k)) ≡ Ok (Some (Strings (list_of n (planned plan k))))
  strings-mean n k within some =
      let d = planned plan k in
      let text = strings_text d in
      let more = d.path ∷ d.compatibles in
      let fs = codes "compatible" ∷ more in
      let cut : fields text ≡ fs = fields-spaced (codes "compatible") more (words-strings k within) in
      let line : is_line text ≡ true = line-spaced (codes "compatible") more (words-strings k within) in
      ap (λ t. if t then (if is_skipped (fields text) then Ok None else stated n (said_by n (fields text))) else Err (BadLine n)) line
      ∙ ap (λ f. if is_skipped f then Ok None else stated n (said_by n f)) cut
      ∙ ap (λ s. stated n (option_map Strings s)) (strings-said n d.path d.compatibles (path-lawful k within) some)

  pub strings-lines : (k : ℕ) → k < length plan → is_line (strings_text (planned plan k)) ≡ true
  strings-lines k within = line-spaced (codes "compatible") ((planned plan k).path ∷ (planned plan k).compatibles) (words-strings k within)
