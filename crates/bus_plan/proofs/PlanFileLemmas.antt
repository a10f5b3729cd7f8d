-- What a plan file's lines list, as they are read.
use Rattle.std.proofs.Common.{◌≡◌, ◌∙◌, ap, ℕ, zero, suc, ◌+◌, ◌<◌, ◌≤◌, true, false, List, [], ◌∷◌, ◌++◌, length, drop, get_or, sym, arith, add-one, length-drop, ◌-◌}
use Rattle.std.specs.Prelude.{Option, Some, None, Result, if◌then◌else◌, nat_le}
use Rattle.std.specs.Option.{option_to_list}
use Rattle.bus_plan.specs.Limits.{most_devices}
use Rattle.bus_plan.specs.declared.error.PlanError.{PlanError}
use Rattle.bus_plan.specs.declared.error.PlanError.TheVariants.{DuplicateDevice, TooManyDevices}
use Rattle.bus_plan.specs.PlanPaths.{is_among}
use Rattle.bus_plan.specs.declared.plan_line.PlanLine.{PlanLine}
use Rattle.bus_plan.specs.PlanLines.{DeviceLine, StringsLine}
use Rattle.bus_plan.specs.PlanFile.{line_paths, refusal_of, meaning, meaning_at, device_on, strings_on, devices_before, strings_before, fault_of, fault_at, faults_before}
use Rattle.bus_plan.specs.Private.Reading.{IsFirst, Listed, listed_before}

-- ---- the refusals of a further device
pub refusal-there : (ds : List DeviceLine) (d : DeviceLine) → is_among d.path (line_paths ds) ≡ true → refusal_of ds d ≡ Some (DuplicateDevice d.number)
refusal-there ds d there = ap (λ t. if t then Some (DuplicateDevice d.number) else (if nat_le most_devices (length ds) then Some TooManyDevices else None)) there

pub refusal-full : (ds : List DeviceLine) (d : DeviceLine) → is_among d.path (line_paths ds) ≡ false → nat_le most_devices (length ds) ≡ true → refusal_of ds d ≡ Some TooManyDevices
refusal-full ds d new full =
    ap (λ t. if t then Some (DuplicateDevice d.number) else (if nat_le most_devices (length ds) then Some TooManyDevices else None)) new
    ∙ ap (λ t. if t then Some TooManyDevices else None) full

pub refusal-none : (ds : List DeviceLine) (d : DeviceLine) → is_among d.path (line_paths ds) ≡ false → nat_le most_devices (length ds) ≡ false → refusal_of ds d ≡ None
refusal-none ds d new room =
    ap (λ t. if t then Some (DuplicateDevice d.number) else (if nat_le most_devices (length ds) then Some TooManyDevices else None)) new
    ∙ ap (λ t. if t then Some TooManyDevices else None) room

-- ---- a walk over the lines
-- the first n lines are read without a fault, and these are left
pub record IsReadTo (ls : List (List ℕ)) (n : ℕ) (left : List (List ℕ)) (listed : Listed) : Type 0 where
  pub left_is : left ≡ drop n ls
  pub within : n ≤ length ls
  pub devices_are : listed.devices ≡ devices_before ls n
  pub lists_are : listed.lists ≡ strings_before ls n
  pub faultless : faults_before ls n ≡ []

pub IsReadTo-at : (ls : List (List ℕ)) (n : ℕ) (left rest : List (List ℕ)) (l : Listed) → IsReadTo ls n left l → left ≡ rest → IsReadTo ls n rest l
IsReadTo-at ls n left rest l walk e = record {
  left_is = sym e ∙ walk.left_is;
  within = walk.within;
  devices_are = walk.devices_are;
  lists_are = walk.lists_are;
  faultless = walk.faultless;
}

-- the line at which a walk stands
next : (ls : List (List ℕ)) (n : ℕ) (line : List ℕ) (rest : List (List ℕ)) → line ∷ rest ≡ drop n ls → (n < length ls) × (get_or ls n [] ≡ line) × (rest ≡ drop (suc n) ls)
next [] zero line rest e = absurd (cc)
next [] (suc n) line rest e = absurd (cc)
next (l ∷ ls) zero line rest e = (omega arith, cc, cc)
next (l ∷ ls) (suc n) line rest e = let k = next ls n line rest e in (omega arith, k.1, k.2)

devices-step : (ls : List (List ℕ)) (n : ℕ) (m : Result (Option PlanLine) PlanError) → meaning_at ls n ≡ m
    → devices_before ls (n + 1) ≡ devices_before ls n ++ option_to_list (device_on m)
devices-step ls n m says = ap (devices_before ls) (add-one n) ∙ ap (λ k. devices_before ls n ++ option_to_list (device_on k)) says

lists-step : (ls : List (List ℕ)) (n : ℕ) (m : Result (Option PlanLine) PlanError) → meaning_at ls n ≡ m
    → strings_before ls (n + 1) ≡ strings_before ls n ++ option_to_list (strings_on m)
lists-step ls n m says = ap (strings_before ls) (add-one n) ∙ ap (λ k. strings_before ls n ++ option_to_list (strings_on k)) says

faults-step : (ls : List (List ℕ)) (n : ℕ) (l : Listed) (m : Result (Option PlanLine) PlanError)
    → meaning_at ls n ≡ m → l.devices ≡ devices_before ls n → l.lists ≡ strings_before ls n → faults_before ls n ≡ []
    → faults_before ls (n + 1) ≡ option_to_list (fault_of l.devices l.lists m)
faults-step ls n l m says are lists none =
    ap (faults_before ls) (add-one n) ∙ ap (λ fs. fs ++ option_to_list (fault_at ls n)) none
    ∙ ap (λ k. option_to_list (fault_of k (strings_before ls n) (meaning_at ls n))) (sym are)
    ∙ ap (λ k. option_to_list (fault_of l.devices k (meaning_at ls n))) (sym lists) ∙ ap (λ k. option_to_list (fault_of l.devices l.lists k)) says

-- it has no fault: it is skipped, or gives what may be there
pub read-line : (ls : List (List ℕ)) (n : ℕ) (line : List ℕ) (rest : List (List ℕ)) (l new : Listed)
    → IsReadTo ls n (line ∷ rest) l → fault_of l.devices l.lists (meaning (n + 1) line) ≡ None
    → new.devices ≡ l.devices ++ option_to_list (device_on (meaning (n + 1) line))
    → new.lists ≡ l.lists ++ option_to_list (strings_on (meaning (n + 1) line)) → IsReadTo ls (n + 1) rest new
read-line ls n line rest l new walk lawful devices lists =
    let at = next ls n line rest walk.left_is in
    let within : n < length ls = at.0 in
    let says : meaning_at ls n ≡ meaning (n + 1) line = ap (meaning (n + 1)) at.1 in
    record {
      left_is = at.2 ∙ ap (λ k. drop k ls) (sym (add-one n));
      within = omega arith;
      devices_are = devices ∙ ap (λ t. t ++ option_to_list (device_on (meaning (n + 1) line))) walk.devices_are ∙ sym (devices-step ls n (meaning (n + 1) line) says);
      lists_are = lists ∙ ap (λ t. t ++ option_to_list (strings_on (meaning (n + 1) line))) walk.lists_are ∙ sym (lists-step ls n (meaning (n + 1) line) says);
      faultless = faults-step ls n l (meaning (n + 1) line) says walk.devices_are walk.lists_are walk.faultless ∙ ap option_to_list lawful;
    }

-- the first fault stays the first
first-stays : (ls : List (List ℕ)) (n : ℕ) (e : PlanError) → IsFirst (faults_before ls n) e → (k m : ℕ) → k + n ≡ m → IsFirst (faults_before ls m) e
first-stays ls n e first zero m is = let same : m ≡ n = omega arith in (first.0, ap (faults_before ls) same ∙ first.1)
first-stays ls n e first (suc k) zero is = absurd (omega arith)
first-stays ls n e first (suc k) (suc m) is =
    let before = first-stays ls n e first k m (omega arith) in
    (before.0 ++ option_to_list (fault_at ls m), ap (λ fs. fs ++ option_to_list (fault_at ls m)) before.1)

-- it has a fault
pub read-fault : (ls : List (List ℕ)) (n : ℕ) (line : List ℕ) (rest : List (List ℕ)) (l : Listed) (e : PlanError)
    → IsReadTo ls n (line ∷ rest) l → fault_of l.devices l.lists (meaning (n + 1) line) ≡ Some e → IsFirst (faults_before ls (length ls)) e
read-fault ls n line rest l e walk fault =
    let at = next ls n line rest walk.left_is in
    let within : n < length ls = at.0 in
    let says : meaning_at ls n ≡ meaning (n + 1) line = ap (meaning (n + 1)) at.1 in
    let here : faults_before ls (n + 1) ≡ e ∷ [] =
    faults-step ls n l (meaning (n + 1) line) says walk.devices_are walk.lists_are walk.faultless ∙ ap option_to_list fault in
    first-stays ls (n + 1) e ([], here) (length ls - (n + 1)) (length ls) (omega arith)

-- none is left
listed-is : (l : Listed) (ds : List DeviceLine) (ss : List StringsLine) → l.devices ≡ ds → l.lists ≡ ss → l ≡ record { devices = ds; lists = ss }
listed-is l ds ss devices lists = ap (λ d. record { devices = d; lists = l.lists }) devices ∙ ap (λ s. record { devices = ds; lists = s }) lists

pub read-all : (ls : List (List ℕ)) (n : ℕ) (l : Listed)
    → IsReadTo ls n [] l → (l ≡ listed_before ls (length ls)) × (faults_before ls (length ls) ≡ [])
read-all ls n l walk =
    let gone : length (drop n ls) ≡ 0 = ap length (sym walk.left_is) in
    let within : n ≤ length ls = walk.within in
    let all : n ≡ length ls = omega (arith, length-drop n ls) in
    (listed-is l _ _ walk.devices_are walk.lists_are ∙ ap (listed_before ls) all, ap (faults_before ls) (sym all) ∙ walk.faultless)
