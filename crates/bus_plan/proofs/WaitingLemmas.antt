-- Devices that are listed by their strings.
use Rattle.std.proofs.Common.{◌≡◌, ◌≢◌, ◌∙◌, ap, sym, refl, ℕ, zero, suc, ◌+◌, ◌<◌, ◌≤◌, Bool, true, false, cond, not, ◌&&◌, ◌||◌, List, [], ◌∷◌, ◌++◌, length, get_or, set, arith}
use Rattle.std.specs.Prelude.{if◌then◌else◌, ◌==◌, nat_lt, is_some, is_none, Option, Some, None}
use Rattle.std.specs.Str.{bytes_eq}
use Rattle.std.proofs.lemmas.Bool.{lt-ltb, ltb-true, ltb-false, eqb-true, eq-eqb}
use Rattle.std.proofs.lemmas.List.{get_or-set_same, get_or-set_other, get_or_append_left, get_or_push, length-append}
use Rattle.bus_plan.specs.Plan.{PlannedDevice, nothing, planned, compatibles_of, IsLawfulDevice, IsLawful}
use Rattle.bus_plan.specs.PlanPaths.{is_among, place_of}
use Rattle.bus_plan.specs.Private.Places.{is_in}
use Rattle.bus_plan.specs.Private.Waiting.{WaitingDevices, listed_by, is_unmatched, AreListed}
use Rattle.bus_plan.proofs.BoolLemmas.{and_false, and_true, or_false}
use Rattle.bus_plan.proofs.DistinctLemmas.{bytes_eq-same, bytes_eq-refl, place-within, place-holds}
use Rattle.bus_plan.proofs.PathLemmas.{found-is, is_among-append}

abbrev pub table : List (List ℕ) → List (List ℕ) → WaitingDevices
table strings lists = record { strings = strings; lists = lists }

-- ---- the place of a string
absent-past : (strings : List (List ℕ)) (s : List ℕ) → is_among s strings ≡ false → length strings ≤ place_of strings s
absent-past strings s gone = ltb-false (place_of strings s) (length strings) (found-is (bytes_eq s) strings ∙ gone)

within-there : (strings : List (List ℕ)) (s : List ℕ) → place_of strings s < length strings → is_among s strings ≡ true
within-there strings s within = sym (found-is (bytes_eq s) strings) ∙ lt-ltb (place_of strings s) (length strings) within

module _ (more : List (List ℕ)) (s : List ℕ) where
  place-kept : (strings : List (List ℕ)) → is_among s strings ≡ true → place_of (strings ++ more) s ≡ place_of strings s
  place-kept [] there = absurd (cc)
  place-kept (x ∷ xs) there = by (bytes_eq s x) refl (place-kept xs)
    where
      by : (t : Bool) → bytes_eq s x ≡ t → (is_among s xs ≡ true → place_of (xs ++ more) s ≡ place_of xs s) → place_of (x ∷ (xs ++ more)) s ≡ place_of (x ∷ xs) s
      by true e later = ap (λ t. cond (not t) (1 + place_of (xs ++ more) s) 0) e ∙ sym (ap (λ t. cond (not t) (1 + place_of xs s) 0) e)
      by false e later =
          let rest : is_among s xs ≡ true = sym (ap (λ t. t || is_among s xs) e) ∙ there in
          ap (λ t. cond (not t) (1 + place_of (xs ++ more) s) 0) e ∙ ap (λ n. 1 + n) (later rest)
          ∙ sym (ap (λ t. cond (not t) (1 + place_of xs s) 0) e)

  place-behind : (strings : List (List ℕ)) → is_among s strings ≡ false → place_of (strings ++ more) s ≡ length strings + place_of more s
  place-behind [] gone = omega arith
  place-behind (x ∷ xs) gone = by (bytes_eq s x) refl (place-behind xs)
    where
      by : (t : Bool) → bytes_eq s x ≡ t → (is_among s xs ≡ false → place_of (xs ++ more) s ≡ length xs + place_of more s) → place_of (x ∷ (xs ++ more)) s ≡ length (x ∷ xs) + place_of more s
      by true e later = absurd (cc (sym (ap (λ t. t || is_among s xs) e) ∙ gone))
      by false e later =
          let rest : is_among s xs ≡ false = sym (ap (λ t. t || is_among s xs) e) ∙ gone in
          let behind : place_of (xs ++ more) s ≡ length xs + place_of more s = later rest in
          ap (λ t. cond (not t) (1 + place_of (xs ++ more) s) 0) e ∙ omega (arith, behind)

-- a string that is put last
pub place-last : (strings : List (List ℕ)) (s : List ℕ) → is_among s strings ≡ false → place_of (strings ++ s ∷ []) s ≡ length strings
place-last strings s gone =
    let first : place_of (s ∷ []) s ≡ 0 = ap (λ t. cond (not t) 1 0) (bytes_eq-refl s) in
    let behind : place_of (strings ++ s ∷ []) s ≡ length strings + place_of (s ∷ []) s = place-behind (s ∷ []) s strings gone in
    omega (arith, behind, first)

pub last-there : (strings : List (List ℕ)) (s : List ℕ) → is_among s (strings ++ s ∷ []) ≡ true
last-there strings s =
    is_among-append s strings (s ∷ []) ∙ ap (λ t. is_among s strings || (t || false)) (bytes_eq-refl s) ∙ or-true (is_among s strings)
  where
    or-true : (b : Bool) → (b || true) ≡ true
    or-true true = refl
    or-true false = refl

-- ---- the list of a string
past-end : (lists : List (List ℕ)) (i : ℕ) → length lists ≤ i → get_or lists i [] ≡ []
past-end [] i past = refl
past-end (l ∷ ls) zero past = absurd (omega arith)
past-end (l ∷ ls) (suc i) past = past-end ls i (omega arith)

past-empty : (lists : List (List ℕ)) (i : ℕ) → length lists ≤ i → get_or (lists ++ [] ∷ []) i [] ≡ []
past-empty [] zero past = refl
past-empty [] (suc i) past = refl
past-empty (l ∷ ls) zero past = absurd (omega arith)
past-empty (l ∷ ls) (suc i) past = past-empty ls i (omega arith)

module _ (strings lists : List (List ℕ)) (even : length lists ≡ length strings) where
  -- none, where the string isn't there
  pub listed-none : (s : List ℕ) → is_among s strings ≡ false → listed_by (table strings lists) s ≡ []
  listed-none s gone = let past = absent-past strings s gone in past-end lists (place_of strings s) (omega arith)

  -- a new string has an empty list
  pub listed-new : (q s : List ℕ) → listed_by (table (strings ++ q ∷ []) (lists ++ [] ∷ [])) s ≡ listed_by (table strings lists) s
  listed-new q s = by (is_among s strings) refl
    where
      by : (t : Bool) → is_among s strings ≡ t → listed_by (table (strings ++ q ∷ []) (lists ++ [] ∷ [])) s ≡ listed_by (table strings lists) s
      by true e =
          let within : place_of strings s < length strings = place-within strings s e in
          ap (λ i. get_or (lists ++ [] ∷ []) i []) (place-kept (q ∷ []) s strings e) ∙ get_or_append_left lists ([] ∷ []) [] (place_of strings s) (omega arith)
      by false e =
          let behind : place_of (strings ++ q ∷ []) s ≡ length strings + place_of (q ∷ []) s = place-behind (q ∷ []) s strings e in
          past-empty lists (place_of (strings ++ q ∷ []) s) (omega arith) ∙ sym (listed-none s e)

  -- a list that is put in the place of one: those of all other strings stay
  pub listed-set : (q s list : List ℕ) → is_among q strings ≡ true
      → listed_by (table strings (set lists (place_of strings q) list)) s ≡ (if bytes_eq s q then list else listed_by (table strings lists) s)
  listed-set q s list there = by (bytes_eq s q) refl
    where
      within : place_of strings q < length strings
      within = place-within strings q there

      by : (t : Bool) → bytes_eq s q ≡ t → get_or (set lists (place_of strings q) list) (place_of strings s) [] ≡ (if t then list else listed_by (table strings lists) s)
      by true e =
          ap (λ x. get_or (set lists (place_of strings q) list) (place_of strings x) []) (bytes_eq-same s q e)
          ∙ get_or-set_same lists (place_of strings q) list [] (let below = within in omega arith)
      by false e = get_or-set_other lists (place_of strings q) (place_of strings s) list []
          (λ same.
          let below : place_of strings q < length strings = within in
          let known : is_among s strings ≡ true = within-there strings s (omega (arith, same, below)) in
          let is : s ≡ q = sym (place-holds strings s [] known) ∙ ap (λ i. get_or strings i []) same ∙ place-holds strings q [] there in
          absurd (cc (sym e ∙ ap (λ x. bytes_eq x q) is ∙ bytes_eq-refl q)))

  -- one that isn't there has none to be emptied
  pub listed-absent : (q s : List ℕ) → is_among q strings ≡ false
      → listed_by (table strings lists) s ≡ (if bytes_eq s q then [] else listed_by (table strings lists) s)
  listed-absent q s gone = by (bytes_eq s q) refl
    where
      by : (t : Bool) → bytes_eq s q ≡ t → listed_by (table strings lists) s ≡ (if t then [] else listed_by (table strings lists) s)
      by true e = ap (listed_by (table strings lists)) (bytes_eq-same s q e) ∙ listed-none q gone
      by false e = refl

-- ---- a device more
-- it is listed by one string
pub listed-more : (w : WaitingDevices) (q s list new : List ℕ) (device : ℕ) → ((d : ℕ) → is_in d list ≡ (is_in d (listed_by w q) || (d == device)))
    → new ≡ (if bytes_eq s q then list else listed_by w s) → (d : ℕ) → is_in d new ≡ (is_in d (listed_by w s) || (bytes_eq s q && (d == device)))
listed-more w q s list new device put is d = by (bytes_eq s q) refl
  where
    by : (t : Bool) → bytes_eq s q ≡ t → is_in d new ≡ (is_in d (listed_by w s) || (bytes_eq s q && (d == device)))
    by true e =
        ap (is_in d) (is ∙ ap (λ t. if t then list else listed_by w s) e) ∙ put d
        ∙ ap (λ x. is_in d (listed_by w x) || (d == device)) (sym (bytes_eq-same s q e))
        ∙ ap (λ t. is_in d (listed_by w s) || (t && (d == device))) (sym e)
    by false e =
        ap (is_in d) (is ∙ ap (λ t. if t then list else listed_by w s) e) ∙ sym (or_false (is_in d (listed_by w s)))
        ∙ ap (λ t. is_in d (listed_by w s) || (t && (d == device))) (sym e)

-- the strings of the last device of a plan
past-plan : (plan : List PlannedDevice) (d : ℕ) → length plan ≤ d → planned plan d ≡ nothing
past-plan [] d past = refl
past-plan (x ∷ xs) zero past = absurd (omega arith)
past-plan (x ∷ xs) (suc d) past = past-plan xs d (omega arith)

pub among-last : (plan : List PlannedDevice) (last : PlannedDevice) (d : ℕ) (s : List ℕ)
    → is_among s (compatibles_of (plan ++ last ∷ []) d) ≡ (is_among s (compatibles_of plan d) || (is_among s last.compatibles && (d == length plan)))
among-last plan last d s = by (d == length plan) refl
  where
    other : (t : Bool) → nat_lt d (length plan) ≡ t → d ≢ length plan → planned (plan ++ last ∷ []) d ≡ planned plan d
    other true e apart = get_or_append_left plan (last ∷ []) nothing d (ltb-true d (length plan) e)
    other false e apart =
        let past : length plan ≤ d = ltb-false d (length plan) e in
        let long : length (plan ++ last ∷ []) ≡ length plan + 1 = length-append plan (last ∷ []) in
        past-plan (plan ++ last ∷ []) d (omega (arith, past, long, apart)) ∙ sym (past-plan plan d past)

    by : (t : Bool) → (d == length plan) ≡ t
        → is_among s (compatibles_of (plan ++ last ∷ []) d) ≡ (is_among s (compatibles_of plan d) || (is_among s last.compatibles && (d == length plan)))
    by true e =
        let same : d ≡ length plan = eqb-true d (length plan) e in
        let here : planned (plan ++ last ∷ []) d ≡ last = get_or_push plan last nothing d (sym same) in
        let before : planned plan d ≡ nothing = past-plan plan d (omega arith) in
        ap (λ x. is_among s x.compatibles) here
        ∙ sym (ap (λ x. is_among s x.compatibles || (is_among s last.compatibles && (d == length plan))) before
        ∙ ap (λ t. is_among s last.compatibles && t) e ∙ and_true (is_among s last.compatibles))
    by false e =
        let apart : d ≢ length plan = λ same. absurd (cc (sym e ∙ eq-eqb d (length plan) same)) in
        ap (λ x. is_among s x.compatibles) (other (nat_lt d (length plan)) refl apart)
        ∙ sym (ap (λ t. is_among s (compatibles_of plan d) || (is_among s last.compatibles && t)) e
        ∙ ap (λ t. is_among s (compatibles_of plan d) || t) (and_false (is_among s last.compatibles)) ∙ or_false (is_among s (compatibles_of plan d)))

-- ---- the devices of a lawful plan: only one without a driver has strings
lawful-unmatched : (device : PlannedDevice) (s : List ℕ) → IsLawfulDevice device → is_among s device.compatibles ≡ true → is_unmatched device ≡ true
lawful-unmatched device s lawful waits = by device.available device.driver refl refl
  where
    gone : device.compatibles ≡ [] → true ≡ false
    gone none = sym waits ∙ ap (is_among s) none

    by : (a : Bool) (o : Option (List ℕ)) → device.available ≡ a → device.driver ≡ o → (device.available && is_none device.driver) ≡ true
    by false o a_is o_is = absurd (cc (gone (lawful.disabled a_is)))
    by true None a_is o_is = ap (λ t. t && is_none device.driver) a_is ∙ ap is_none o_is
    by true (Some name) a_is o_is = absurd (cc (gone (lawful.matched (ap is_some o_is))))

pub listed-all : (plan : List PlannedDevice) (w : WaitingDevices) → IsLawful plan → ((d : ℕ) (s : List ℕ) → is_in d (listed_by w s) ≡ is_among s (compatibles_of plan d)) → AreListed plan w
listed-all plan w lawful are d s = ap (λ t. t && is_unmatched (planned plan d)) (are d s) ∙ by (is_among s (compatibles_of plan d)) refl
  where
    there : (t : Bool) → nat_lt d (length plan) ≡ t → is_among s (compatibles_of plan d) ≡ true → is_unmatched (planned plan d) ≡ true
    there true e waits = lawful-unmatched (planned plan d) s (lawful.devices d nothing (ltb-true d (length plan) e)) waits
    there false e waits = absurd (cc (sym waits ∙ ap (λ x. is_among s x.compatibles) (past-plan plan d (ltb-false d (length plan) e))))

    by : (t : Bool) → is_among s (compatibles_of plan d) ≡ t → (t && is_unmatched (planned plan d)) ≡ t
    by true e = there (nat_lt d (length plan)) refl e
    by false e = refl
