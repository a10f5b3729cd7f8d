-- What is found once all devices are known: the first fault in line order.
use Rattle.std.proofs.Common.{◌≡◌, ◌∙◌, ap, sym, refl, subst, ℕ, zero, suc, ◌+◌, ◌≤◌, Bool, true, false, List, [], ◌∷◌, ◌++◌, append-nil, arith}
use Rattle.std.specs.Prelude.{Option, Some, None, IfSome, Result, Ok, Err, if◌then◌else◌, nat_lt, codes, ◌&&◌}
use Rattle.std.specs.Option.{option_or, option_map, option_map_or, option_to_list}
use Rattle.std.specs.List.{slice_index_or, find}
use Rattle.std.specs.Str.{bytes_eq}
use Rattle.std.proofs.lemmas.Bool.{lt-ltb, le-ltb}
use Rattle.bus_plan.specs.declared.error.PlanError.{PlanError}
use Rattle.bus_plan.specs.declared.error.PlanError.TheVariants.{BadLine, UnknownPath}
use Rattle.bus_plan.specs.declared.matching.Matching.{Matching}
use Rattle.bus_plan.specs.declared.plan_line.PlanLine.{PlanLine}
use Rattle.bus_plan.specs.declared.plan_line.PlanLine.TheVariants.{Device, Strings}
use Rattle.bus_plan.specs.Lines.{is_line, fields, is_skipped}
use Rattle.bus_plan.specs.Plan.{is_device_path}
use Rattle.bus_plan.specs.PlanLines.{DeviceLine, StringsLine}
use Rattle.bus_plan.specs.PlanPaths.{are_known}
use Rattle.bus_plan.specs.PlanFile.{are_supplier_paths, matching_of, device_of, strings_of, said_by, stated, meaning, meaning_at, device_on, strings_on, devices_before, strings_before, line_paths, is_unmatched, unknown_of, misfit_of, late_fault_of, late_faults_before}
use Rattle.bus_plan.specs.Private.Reading.{Listed, listed_before, line_or_zero, earlier, first_unknown, first_misfit, late_fault}

-- ---- each line has its number
abbrev number-of_said : PlanLine → ℕ
number-of_said (Device d) = d.number
number-of_said (Strings s) = s.number

number-device : (n : ℕ) (fs : List (List ℕ)) (d : DeviceLine) → device_of n fs ≡ Some d → d.number ≡ n
number-device n [] d e = absurd (cc)
number-device n (path ∷ []) d e = absurd (cc)
number-device n (path ∷ driver ∷ []) d e = absurd (cc)
number-device n (path ∷ driver ∷ word ∷ suppliers) d e =
    by_test (is_device_path path && are_supplier_paths path suppliers) (matching_of driver word) e
  where
    by_test : (t : Bool) (found : Option Matching)
        → (if t then option_map (λ m. record { number = n; path = path; matching = m; suppliers = suppliers }) found else None) ≡ Some d → d.number ≡ n
    by_test true (Some m) e =
        let is : record { number = n; path = path; matching = m; suppliers = suppliers } ≡ d = cc in
        sym (ap (λ x. x.number) is)
    by_test true None e = absurd (cc)
    by_test false found e = absurd (cc)

number-strings : (n : ℕ) (fs : List (List ℕ)) (s : StringsLine) → strings_of n fs ≡ Some s → s.number ≡ n
number-strings n [] s e = absurd (cc)
number-strings n (path ∷ []) s e = absurd (cc)
number-strings n (path ∷ string ∷ more) s e = by_test (is_device_path path) e
  where
    by_test : (t : Bool) → (if t then Some (record { number = n; path = path; strings = string ∷ more }) else None) ≡ Some s → s.number ≡ n
    by_test true e =
        let is : record { number = n; path = path; strings = string ∷ more } ≡ s = cc in
        sym (ap (λ x. x.number) is)
    by_test false e = absurd (cc)

number-said : (n : ℕ) (fs : List (List ℕ)) (said : PlanLine) → said_by n fs ≡ Some said → number-of_said said ≡ n
number-said n [] said e = absurd (cc)
number-said n (word ∷ more) said e = by_test (bytes_eq word (codes "compatible")) (strings_of n more) (device_of n (word ∷ more)) refl refl e
  where
    by_test : (t : Bool) (lists : Option StringsLine) (device : Option DeviceLine) → strings_of n more ≡ lists → device_of n (word ∷ more) ≡ device
        → (if t then option_map Strings lists else option_map Device device) ≡ Some said → number-of_said said ≡ n
    by_test true (Some s) device is_lists is_device e =
        let is : Strings s ≡ said = cc in
        sym (ap number-of_said is) ∙ number-strings n more s is_lists
    by_test true None device is_lists is_device e = absurd (cc)
    by_test false lists (Some d) is_lists is_device e =
        let is : Device d ≡ said = cc in
        sym (ap number-of_said is) ∙ number-device n (word ∷ more) d is_device
    by_test false lists None is_lists is_device e = absurd (cc)

stated-is : (n : ℕ) (found : Option PlanLine) (said : PlanLine) → stated n found ≡ Ok (Some said) → found ≡ Some said
stated-is n None said e = absurd (cc)
stated-is n (Some x) said e = cc

number-line : (n : ℕ) (line : List ℕ) (said : PlanLine) → meaning n line ≡ Ok (Some said) → number-of_said said ≡ n
number-line n line said e = by_test (is_line line) (is_skipped (fields line)) e
  where
    by_test : (t u : Bool) → (if t then (if u then Ok None else stated n (said_by n (fields line))) else Err (BadLine n)) ≡ Ok (Some said) → number-of_said said ≡ n
    by_test true true e = absurd (cc)
    by_test true false e = number-said n (fields line) said (stated-is n (said_by n (fields line)) said e)
    by_test false u e = absurd (cc)

-- ---- faults up to a line
abbrev IsBefore : ℕ → Option PlanError → Type 0
IsBefore n fault = IfSome fault (λ e. line_or_zero e ≤ n)

abbrev IsOn : ℕ → Option PlanError → Type 0
IsOn n fault = IfSome fault (λ e. line_or_zero e ≡ n)

unknown-on : (known : List (List ℕ)) (d : DeviceLine) → IsOn d.number (unknown_of known d)
unknown-on known d = by_test (are_known known d.suppliers)
  where
    by_test : (t : Bool) → IsOn d.number (if t then None else Some (UnknownPath d.number))
    by_test true = tt
    by_test false = refl

misfit-on : (ds : List DeviceLine) (s : StringsLine) → IsOn s.number (misfit_of ds s)
misfit-on ds s = by_found (find (λ d. bytes_eq s.path d.path) ds)
  where
    by_test : (t : Bool) → IsOn s.number (if t then None else Some (BadLine s.number))
    by_test true = tt
    by_test false = refl

    by_found : (found : Option DeviceLine) → IsOn s.number (option_map_or (λ d. if is_unmatched d then None else Some (BadLine s.number)) found (Some (UnknownPath s.number)))
    by_found None = refl
    by_found (Some d) = by_test (is_unmatched d)

before-more : (n m : ℕ) (u v : Option PlanError) → IsBefore n u → IsOn m v → m ≡ n + 1 → IsBefore (n + 1) (option_or u (option_or v None))
before-more n m (Some a) v before on is = omega (arith, before)
before-more n m None None before on is = tt
before-more n m None (Some b) before on is = omega (arith, on, is)

before-later : (n : ℕ) (u : Option PlanError) → IsBefore n u → IsBefore (n + 1) u
before-later n (Some a) before = omega (arith, before)
before-later n None before = tt

unknown-append : (known : List (List ℕ)) (xs ys : List DeviceLine) → first_unknown known (xs ++ ys) ≡ option_or (first_unknown known xs) (first_unknown known ys)
unknown-append known [] ys = refl
unknown-append known (x ∷ xs) ys = ap (option_or (unknown_of known x)) (unknown-append known xs ys) ∙ by (unknown_of known x)
  where
    by : (u : Option PlanError) → option_or u (option_or (first_unknown known xs) (first_unknown known ys)) ≡ option_or (option_or u (first_unknown known xs)) (first_unknown known ys)
    by (Some e) = refl
    by None = refl

misfit-append : (ds : List DeviceLine) (xs ys : List StringsLine) → first_misfit ds (xs ++ ys) ≡ option_or (first_misfit ds xs) (first_misfit ds ys)
misfit-append ds [] ys = refl
misfit-append ds (x ∷ xs) ys = ap (option_or (misfit_of ds x)) (misfit-append ds xs ys) ∙ by (misfit_of ds x)
  where
    by : (u : Option PlanError) → option_or u (option_or (first_misfit ds xs) (first_misfit ds ys)) ≡ option_or (option_or u (first_misfit ds xs)) (first_misfit ds ys)
    by (Some e) = refl
    by None = refl

-- ---- the first of both kinds
abbrev first_in : List PlanError → Option PlanError
first_in [] = None
first_in (e ∷ es) = Some e

first-append : (xs : List PlanError) (u : Option PlanError) → first_in (xs ++ option_to_list u) ≡ option_or (first_in xs) u
first-append [] None = refl
first-append [] (Some e) = refl
first-append (x ∷ xs) u = refl

earlier-first : (a : PlanError) (m v : Option PlanError) → option_or (earlier (Some a) m) v ≡ earlier (Some a) m
earlier-first a None v = refl
earlier-first a (Some b) v = by_test (nat_lt (line_or_zero b) (line_or_zero a))
  where
    by_test : (t : Bool) → option_or (if t then Some b else Some a) v ≡ (if t then Some b else Some a)
    by_test true = refl
    by_test false = refl

-- one more unknown path, on a later line
unknown-later : (n k : ℕ) (u m v : Option PlanError) → IsBefore n m → IsOn k v → k ≡ n + 1 → option_or (earlier u m) v ≡ earlier (option_or u (option_or v None)) m
unknown-later n k (Some a) m v before on is = earlier-first a m v
unknown-later n k None None None before on is = refl
unknown-later n k None None (Some b) before on is = refl
unknown-later n k None (Some a) None before on is = refl
unknown-later n k None (Some a) (Some b) before on is =
    sym (ap (λ t. if t then Some a else Some b) (lt-ltb (line_or_zero a) (line_or_zero b) (omega (arith, before, on, is))))

misfit-later : (n k : ℕ) (u m v : Option PlanError) → IsBefore n u → IsOn k v → k ≡ n + 1 → option_or (earlier u m) v ≡ earlier u (option_or m (option_or v None))
misfit-later n k None None None before on is = refl
misfit-later n k None None (Some b) before on is = refl
misfit-later n k None (Some a) v before on is = refl
misfit-later n k (Some a) (Some b) v before on is = earlier-first a (Some b) v
misfit-later n k (Some a) None None before on is = refl
misfit-later n k (Some a) None (Some b) before on is =
    sym (ap (λ t. if t then Some b else Some a) (le-ltb (line_or_zero b) (line_or_zero a) (omega (arith, before, on, is))))

record IsLateTo (ds : List DeviceLine) (ls : List (List ℕ)) (n : ℕ) : Type 0 where
  first : first_in (late_faults_before ds ls n) ≡ earlier (first_unknown (line_paths ds) (devices_before ls n)) (first_misfit ds (strings_before ls n))
  unknown : IsBefore n (first_unknown (line_paths ds) (devices_before ls n))
  misfit : IsBefore n (first_misfit ds (strings_before ls n))

late-step : (ds : List DeviceLine) (ls : List (List ℕ)) (n : ℕ) (m : Result (Option PlanLine) PlanError) → meaning_at ls n ≡ m → IsLateTo ds ls n
    → (fs : List PlanError) (us : List DeviceLine) (ms : List StringsLine)
    → fs ≡ late_faults_before ds ls n ++ option_to_list (late_fault_of ds m) → us ≡ devices_before ls n ++ option_to_list (device_on m)
    → ms ≡ strings_before ls n ++ option_to_list (strings_on m)
    → (first_in fs ≡ earlier (first_unknown (line_paths ds) us) (first_misfit ds ms)) × (IsBefore (n + 1) (first_unknown (line_paths ds) us)) × (IsBefore (n + 1) (first_misfit ds ms))
late-step ds ls n (Err e) says late fs us ms faults devices lists =
    let u : us ≡ devices_before ls n = devices ∙ append-nil (devices_before ls n) in
    let m : ms ≡ strings_before ls n = lists ∙ append-nil (strings_before ls n) in
    let f : fs ≡ late_faults_before ds ls n = faults ∙ append-nil (late_faults_before ds ls n) in
    rw (f, u, m) (late.first, before-later n _ late.unknown, before-later n _ late.misfit)
late-step ds ls n (Ok None) says late fs us ms faults devices lists =
    let u : us ≡ devices_before ls n = devices ∙ append-nil (devices_before ls n) in
    let m : ms ≡ strings_before ls n = lists ∙ append-nil (strings_before ls n) in
    let f : fs ≡ late_faults_before ds ls n = faults ∙ append-nil (late_faults_before ds ls n) in
    rw (f, u, m) (late.first, before-later n _ late.unknown, before-later n _ late.misfit)
late-step ds ls n (Ok (Some (Device d))) says late fs us ms faults devices lists =
    let known = line_paths ds in
    let v = unknown_of known d in
    let number : d.number ≡ n + 1 = number-line (n + 1) (slice_index_or ls n []) (Device d) says in
    let m : ms ≡ strings_before ls n = lists ∙ append-nil (strings_before ls n) in
    let u : first_unknown known us ≡ option_or (first_unknown known (devices_before ls n)) (option_or v None) =
    ap (first_unknown known) devices ∙ unknown-append known (devices_before ls n) (d ∷ []) in
    rw (u, m) (
      ap first_in faults ∙ first-append (late_faults_before ds ls n) v ∙ ap (λ t. option_or t v) late.first
          ∙ unknown-later n d.number (first_unknown known (devices_before ls n)) (first_misfit ds (strings_before ls n)) v late.misfit (unknown-on known d) number,
      before-more n d.number (first_unknown known (devices_before ls n)) v late.unknown (unknown-on known d) number,
      before-later n _ late.misfit,
    )
late-step ds ls n (Ok (Some (Strings s))) says late fs us ms faults devices lists =
    let known = line_paths ds in
    let v = misfit_of ds s in
    let number : s.number ≡ n + 1 = number-line (n + 1) (slice_index_or ls n []) (Strings s) says in
    let u : us ≡ devices_before ls n = devices ∙ append-nil (devices_before ls n) in
    let m : first_misfit ds ms ≡ option_or (first_misfit ds (strings_before ls n)) (option_or v None) =
    ap (first_misfit ds) lists ∙ misfit-append ds (strings_before ls n) (s ∷ []) in
    rw (u, m) (
      ap first_in faults ∙ first-append (late_faults_before ds ls n) v ∙ ap (λ t. option_or t v) late.first
          ∙ misfit-later n s.number (first_unknown known (devices_before ls n)) (first_misfit ds (strings_before ls n)) v late.unknown (misfit-on ds s) number,
      before-later n _ late.unknown,
      before-more n s.number (first_misfit ds (strings_before ls n)) v late.misfit (misfit-on ds s) number,
    )

late-to : (ds : List DeviceLine) (ls : List (List ℕ)) (n : ℕ) → IsLateTo ds ls n
late-to ds ls zero = record { first = refl; unknown = tt; misfit = tt }
late-to ds ls (suc n) =
    let step = late-step ds ls n (meaning_at ls n) refl (late-to ds ls n) (late_faults_before ds ls (suc n)) (devices_before ls (suc n)) (strings_before ls (suc n)) refl refl refl in
    record {
      first = step.0;
      unknown = subst (λ k. IsBefore k (first_unknown (line_paths ds) (devices_before ls (suc n)))) (omega arith) step.1;
      misfit = subst (λ k. IsBefore k (first_misfit ds (strings_before ls (suc n)))) (omega arith) step.2;
    }

first-none : (fs : List PlanError) → first_in fs ≡ None → fs ≡ []
first-none [] e = refl
first-none (x ∷ fs) e = absurd (cc)

first-some : (fs : List PlanError) (e : PlanError) → first_in fs ≡ Some e → (more : List PlanError) × (fs ≡ e ∷ more)
first-some [] e is = absurd (cc)
first-some (x ∷ fs) e is = let same : x ≡ e = cc in (fs, ap (λ y. y ∷ fs) same)

pub late-none : (ls : List (List ℕ)) (n : ℕ) → late_fault (listed_before ls n) ≡ None → late_faults_before (devices_before ls n) ls n ≡ []
late-none ls n e = first-none _ ((late-to (devices_before ls n) ls n).first ∙ e)

pub late-some : (ls : List (List ℕ)) (n : ℕ) (e : PlanError) → late_fault (listed_before ls n) ≡ Some e → (more : List PlanError) × (late_faults_before (devices_before ls n) ls n ≡ e ∷ more)
late-some ls n e is = first-some _ e ((late-to (devices_before ls n) ls n).first ∙ is)

-- ---- where there is none, there is none of either kind
earlier-none : (u m : Option PlanError) → earlier u m ≡ None → (u ≡ None) × (m ≡ None)
earlier-none None m e = (refl, e)
earlier-none (Some a) None e = absurd (cc)
earlier-none (Some a) (Some b) e = by_test (nat_lt (line_or_zero b) (line_or_zero a)) e
  where
    by_test : (t : Bool) → (if t then Some b else Some a) ≡ None → (Some a ≡ None) × (Some b ≡ None)
    by_test true e = absurd (cc)
    by_test false e = absurd (cc)

pub none-late : (l : Listed) → late_fault l ≡ None → (first_unknown (line_paths l.devices) l.devices ≡ None) × (first_misfit l.devices l.lists ≡ None)
none-late l e = earlier-none _ _ e
