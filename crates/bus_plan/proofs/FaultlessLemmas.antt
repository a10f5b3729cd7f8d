-- What is lawful of lines without a fault.
use Rattle.std.proofs.Common.{◌≡◌, ◌∙◌, ap, sym, refl, subst, ℕ, zero, suc, ◌+◌, ◌<◌, ◌≤◌, Bool, true, false, ◌&&◌, List, [], ◌∷◌, ◌++◌, length, length-append, arith, append-nil}
use Rattle.std.specs.Prelude.{All, Option, Some, None, Result, Ok, Err, nat_le, if◌then◌else◌, IfSome, IsTrue, codes}
use Rattle.std.specs.Option.{option_map, option_to_list}
use Rattle.std.specs.List.{list_all, slice_index_or}
use Rattle.std.specs.Str.{bytes_eq}
use Rattle.std.proofs.lemmas.Bool.{leb-false}
use Rattle.std.proofs.lemmas.List.{map-append}
use Rattle.std.proofs.lemmas.List.Elements.{All-nil, All-cons, All-append}
use Rattle.bus_plan.specs.Limits.{most_devices}
use Rattle.bus_plan.specs.declared.error.PlanError.{PlanError}
use Rattle.bus_plan.specs.declared.error.PlanError.TheVariants.{BadLine, DuplicateDevice, TooManyDevices}
use Rattle.bus_plan.specs.declared.plan_line.PlanLine.{PlanLine}
use Rattle.bus_plan.specs.declared.plan_line.PlanLine.TheVariants.{Device, Strings}
use Rattle.bus_plan.specs.declared.matching.Matching.{Matching}
use Rattle.bus_plan.specs.declared.verdict.Verdict.{Verdict}
use Rattle.bus_plan.specs.declared.verdict.Verdict.TheVariants.{Binds, Fails}
use Rattle.bus_plan.specs.Lines.{is_line, fields, is_skipped}
use Rattle.bus_plan.specs.Plan.{is_device_path, is_driver_name, is_compatible}
use Rattle.bus_plan.specs.PlanLines.{DeviceLine, StringsLine}
use Rattle.bus_plan.specs.PlanPaths.{is_among, are_distinct}
use Rattle.bus_plan.specs.PlanFile.{driven, undriven, matching_of, are_supplier_paths, device_of, strings_of, said_by, stated, meaning, meaning_at, device_on, strings_on, devices_before, strings_before, line_paths, refusal_of, fault_of, fault_at, faults_before}
use Rattle.bus_plan.proofs.BoolLemmas.{and-left, and-right, and_both}
use Rattle.bus_plan.proofs.PathLemmas.{distinct-more}
use Rattle.bus_plan.proofs.StringsLemmas.{all-compatible}

-- the second and third field of a lawful line
pub record IsLawfulMatching (m : Matching) : Type 0 where
  pub driver : IfSome m.driver (λ name. IsTrue (is_driver_name name))
  pub unavailable : m.available ≡ false → m.driver ≡ None
  pub unmatched : m.driver ≡ None → m.verdict ≡ Binds

pub record IsLawfulLine (d : DeviceLine) : Type 0 where
  pub forms : list_all is_device_path (d.path ∷ d.suppliers) ≡ true
  pub distinct : are_distinct (d.path ∷ d.suppliers) ≡ true
  pub matching : IsLawfulMatching d.matching

pub record IsLawfulStrings (s : StringsLine) : Type 0 where
  pub compatibles : list_all is_compatible s.strings ≡ true

-- what a line says is lawful
abbrev IsLawfulSaid : PlanLine → Type 0
IsLawfulSaid (Device d) = IsLawfulLine d
IsLawfulSaid (Strings s) = IsLawfulStrings s

pub record AreLawfulLines (ds : List DeviceLine) : Type 0 where
  pub few : length ds ≤ most_devices
  pub distinct : are_distinct (line_paths ds) ≡ true
  pub lines : All IsLawfulLine ds

-- ---- a line
some_of-test : (t : Bool) (x m : Matching) → (if t then Some x else None) ≡ Some m → (t ≡ true) × (x ≡ m)
some_of-test true x m e = (refl, cc)
some_of-test false x m e = absurd (cc)

lawful-driven : (driver : List ℕ) (verdict : Verdict) (m : Matching) → driven driver verdict ≡ Some m → IsLawfulMatching m
lawful-driven driver verdict m e =
    let parts = some_of-test (is_driver_name driver) (record { available = true; driver = Some driver; verdict = verdict }) m e in
    subst IsLawfulMatching parts.1 (record { driver = parts.0; unavailable = λ e. absurd (cc); unmatched = λ e. absurd (cc) })

lawful-none : (available : Bool) → IsLawfulMatching (record { available = available; driver = None; verdict = Binds })
lawful-none available = record { driver = tt; unavailable = λ e. refl; unmatched = λ e. refl }

lawful-undriven : (driver : List ℕ) (m : Matching) → undriven driver ≡ Some m → IsLawfulMatching m
lawful-undriven driver m e = by_test (bytes_eq driver (codes "-")) (bytes_eq driver (codes "!")) e
  where
    by_test : (t u : Bool) → (if t then Some (record { available = true; driver = None; verdict = Binds }) else (if u then Some (record { available = false; driver = None; verdict = Binds }) else None)) ≡ Some m → IsLawfulMatching m
    by_test true u e = subst IsLawfulMatching (cc) (lawful-none true)
    by_test false true e = subst IsLawfulMatching (cc) (lawful-none false)
    by_test false false e = absurd (cc)

lawful-matching : (driver word : List ℕ) (m : Matching) → matching_of driver word ≡ Some m → IsLawfulMatching m
lawful-matching driver word m e = by_test (bytes_eq word (codes "ok")) (bytes_eq word (codes "fail")) (bytes_eq word (codes "-")) e
  where
    by_test : (t u v : Bool) → (if t then driven driver Binds else (if u then driven driver Fails else (if v then undriven driver else None))) ≡ Some m → IsLawfulMatching m
    by_test true u v e = lawful-driven driver Binds m e
    by_test false true v e = lawful-driven driver Fails m e
    by_test false false true e = lawful-undriven driver m e
    by_test false false false e = absurd (cc)

lawful-device : (number : ℕ) (fs : List (List ℕ)) (d : DeviceLine) → device_of number fs ≡ Some d → IsLawfulLine d
lawful-device number [] d e = absurd (cc)
lawful-device number (path ∷ []) d e = absurd (cc)
lawful-device number (path ∷ driver ∷ []) d e = absurd (cc)
lawful-device number (path ∷ driver ∷ word ∷ suppliers) d e =
    by_test (is_device_path path && are_supplier_paths path suppliers) (matching_of driver word) refl refl e
  where
    by_test : (t : Bool) (found : Option Matching) → (is_device_path path && are_supplier_paths path suppliers) ≡ t → matching_of driver word ≡ found
        → (if t then option_map (λ m. record { number = number; path = path; matching = m; suppliers = suppliers }) found else None) ≡ Some d → IsLawfulLine d
    by_test true (Some m) tested found e =
        let is : record { number = number; path = path; matching = m; suppliers = suppliers } ≡ d = cc in
        subst IsLawfulLine is
        (record {
          forms = and_both _ _ (and-left (is_device_path path) (are_supplier_paths path suppliers) tested)
              (and-left (list_all is_device_path suppliers) (are_distinct (path ∷ suppliers)) (and-right (is_device_path path) (are_supplier_paths path suppliers) tested));
          distinct = and-right (list_all is_device_path suppliers) (are_distinct (path ∷ suppliers)) (and-right (is_device_path path) (are_supplier_paths path suppliers) tested);
          matching = lawful-matching driver word m found;
        })
    by_test true None tested found e = absurd (cc)
    by_test false found tested is e = absurd (cc)

lawful-strings : (number : ℕ) (fs : List (List ℕ)) (s : StringsLine) → list_all is_compatible fs ≡ true → strings_of number fs ≡ Some s → IsLawfulStrings s
lawful-strings number [] s all e = absurd (cc)
lawful-strings number (path ∷ []) s all e = absurd (cc)
lawful-strings number (path ∷ string ∷ more) s all e = by_test (is_device_path path) e
  where
    by_test : (t : Bool) → (if t then Some (record { number = number; path = path; strings = string ∷ more }) else None) ≡ Some s → IsLawfulStrings s
    by_test true e =
        let is : record { number = number; path = path; strings = string ∷ more } ≡ s = cc in
        subst IsLawfulStrings is (record { compatibles = and-right (is_compatible path) (list_all is_compatible (string ∷ more)) all })
    by_test false e = absurd (cc)

lawful-said : (number : ℕ) (fs : List (List ℕ)) (said : PlanLine) → list_all is_compatible fs ≡ true → said_by number fs ≡ Some said → IsLawfulSaid said
lawful-said number [] said all e = absurd (cc)
lawful-said number (word ∷ more) said all e =
    by_test (bytes_eq word (codes "compatible")) (strings_of number more) (device_of number (word ∷ more)) refl refl e
  where
    by_test : (t : Bool) (lists : Option StringsLine) (device : Option DeviceLine) → strings_of number more ≡ lists → device_of number (word ∷ more) ≡ device
        → (if t then option_map Strings lists else option_map Device device) ≡ Some said → IsLawfulSaid said
    by_test true (Some s) device is_lists is_device e =
        let is : Strings s ≡ said = cc in
        subst IsLawfulSaid is (lawful-strings number more s (and-right (is_compatible word) (list_all is_compatible more) all) is_lists)
    by_test true None device is_lists is_device e = absurd (cc)
    by_test false lists (Some d) is_lists is_device e =
        let is : Device d ≡ said = cc in
        subst IsLawfulSaid is (lawful-device number (word ∷ more) d is_device)
    by_test false lists None is_lists is_device e = absurd (cc)

stated-is : (number : ℕ) (found : Option PlanLine) (said : PlanLine) → stated number found ≡ Ok (Some said) → found ≡ Some said
stated-is number None said e = absurd (cc)
stated-is number (Some x) said e = cc

lawful-line : (number : ℕ) (line : List ℕ) (said : PlanLine) → meaning number line ≡ Ok (Some said) → IsLawfulSaid said
lawful-line number line said e = by_test (is_line line) (is_skipped (fields line)) refl e
  where
    by_test : (t u : Bool) → is_line line ≡ t → (if t then (if u then Ok None else stated number (said_by number (fields line))) else Err (BadLine number)) ≡ Ok (Some said) → IsLawfulSaid said
    by_test true true is e = absurd (cc)
    by_test true false is e = lawful-said number (fields line) said (all-compatible line is) (stated-is number (said_by number (fields line)) said e)
    by_test false u is e = absurd (cc)

-- ---- the lines
refusal_none : (ds : List DeviceLine) (d : DeviceLine) → option_to_list (refusal_of ds d) ≡ [] → (is_among d.path (line_paths ds) ≡ false) × (nat_le most_devices (length ds) ≡ false)
refusal_none ds d e = by_test (is_among d.path (line_paths ds)) (nat_le most_devices (length ds)) e
  where
    by_test : (t u : Bool) → option_to_list (if t then Some (DuplicateDevice d.number) else (if u then Some TooManyDevices else None)) ≡ [] → (t ≡ false) × (u ≡ false)
    by_test true u e = absurd (cc)
    by_test false true e = absurd (cc)
    by_test false false e = (refl, refl)

lawful-step : (ls : List (List ℕ)) (n : ℕ) (ds : List DeviceLine) (ss : List StringsLine) (m : Result (Option PlanLine) PlanError)
    → meaning_at ls n ≡ m → option_to_list (fault_of ds ss m) ≡ [] → AreLawfulLines ds → AreLawfulLines (ds ++ option_to_list (device_on m))
lawful-step ls n ds ss (Err e) says none lawful = absurd (cc)
lawful-step ls n ds ss (Ok None) says none lawful = subst AreLawfulLines (sym (append-nil ds)) lawful
lawful-step ls n ds ss (Ok (Some (Strings s))) says none lawful = subst AreLawfulLines (sym (append-nil ds)) lawful
lawful-step ls n ds ss (Ok (Some (Device d))) says none lawful =
    let new = refusal_none ds d none in
    let room : length ds < most_devices = leb-false most_devices (length ds) new.1 in
    let before : length ds ≤ most_devices = lawful.few in
    record {
      few = omega (arith, length-append ds (d ∷ []));
      distinct = ap are_distinct (map-append (λ d. d.path) ds (d ∷ [])) ∙ distinct-more (line_paths ds) d.path lawful.distinct new.0;
      lines = All-append IsLawfulLine ds (d ∷ []) lawful.lines
          (All-cons IsLawfulLine d [] (lawful-line (n + 1) (slice_index_or ls n []) (Device d) says) (All-nil IsLawfulLine));
    }

strings-step : (ls : List (List ℕ)) (n : ℕ) (ss : List StringsLine) (m : Result (Option PlanLine) PlanError)
    → meaning_at ls n ≡ m → All IsLawfulStrings ss → All IsLawfulStrings (ss ++ option_to_list (strings_on m))
strings-step ls n ss (Err e) says lawful = subst (All IsLawfulStrings) (sym (append-nil ss)) lawful
strings-step ls n ss (Ok None) says lawful = subst (All IsLawfulStrings) (sym (append-nil ss)) lawful
strings-step ls n ss (Ok (Some (Device d))) says lawful = subst (All IsLawfulStrings) (sym (append-nil ss)) lawful
strings-step ls n ss (Ok (Some (Strings s))) says lawful =
    All-append IsLawfulStrings ss (s ∷ []) lawful
    (All-cons IsLawfulStrings s [] (lawful-line (n + 1) (slice_index_or ls n []) (Strings s) says) (All-nil IsLawfulStrings))

pub lawful-strings_before : (ls : List (List ℕ)) (n : ℕ) → All IsLawfulStrings (strings_before ls n)
lawful-strings_before ls zero = All-nil IsLawfulStrings
lawful-strings_before ls (suc n) = strings-step ls n (strings_before ls n) (meaning_at ls n) refl (lawful-strings_before ls n)

append-empty : (xs ys : List PlanError) → xs ++ ys ≡ [] → (xs ≡ []) × (ys ≡ [])
append-empty [] ys e = (refl, e)
append-empty (x ∷ xs) ys e = absurd (cc)

pub lawful-before : (ls : List (List ℕ)) (n : ℕ) → faults_before ls n ≡ [] → AreLawfulLines (devices_before ls n)
lawful-before ls zero none = record { few = omega arith; distinct = refl; lines = All-nil IsLawfulLine }
lawful-before ls (suc n) none =
    let parts = append-empty (faults_before ls n) (option_to_list (fault_at ls n)) none in
    lawful-step ls n (devices_before ls n) (strings_before ls n) (meaning_at ls n) refl parts.1 (lawful-before ls n parts.0)
