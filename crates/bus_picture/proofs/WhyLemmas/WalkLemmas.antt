-- Each step of a walk leaves it sound, and a walk that is back has the order.
use Rattle.std.proofs.Common.{◌≡◌, ◌≢◌, ◌⊎◌, inl, inr, ℕ, zero, suc, ◌+◌, ◌-◌, ◌<◌, ◌≤◌, Bool, true, false, List, [], ◌∷◌, ◌++◌, length, get_or, set, take, cond, refl, sym, ap, ◌∙◌, subst, true≢false, arith, length-set, length-append}
use Rattle.std.specs.Prelude.{All, ◌==◌}
use Rattle.std.proofs.lemmas.Bool.{cases_eq, cases_lt, cases_Bool}
use Rattle.std.proofs.lemmas.List.{get_or-set_same, get_or-set_other, get_or_append_left, get_or_push, take_at, take-append-le, get_or_default, get_or_past}
use Rattle.bus_plan.specs.Plan.{PlannedDevice, suppliers_of}
use Rattle.bus_plan.specs.Reach.Takes.{Takes, HasSuppliers}
use Rattle.bus_picture.specs.Why.Order.{times, AreBehindSuppliers, IsOrderFor}
use Rattle.bus_picture.specs.Why.Private.Walk.{IsSound, IsFrom, ungone}
use Rattle.bus_picture.proofs.WhyLemmas.TimesLemmas.{bit, times_push, times_push_here, times_push_apart, times_none, place_of_times, times_of_place}

-- a device takes the suppliers of what it takes
pub takes_supplier : (plan : List PlannedDevice) (device d k : ℕ) → Takes plan device d → k < length (suppliers_of plan d) → Takes plan device (get_or (suppliers_of plan d) k 0)
takes_supplier plan device d k taken within set has closed = closed d (taken set has closed) k 0 within

one_from_true : (b : Bool) → b ≡ true → bit b ≡ 1
one_from_true b is = ap bit is

true_from_some : (b : Bool) → 0 < bit b → b ≡ true
true_from_some true some = refl
true_from_some false some = absurd (omega arith)

kept : (entered : List Bool) (s d : ℕ) → get_or entered d false ≡ true → get_or (set entered s true) d false ≡ true
kept entered s d was = elim (cases_eq d s) [
  | inl same ↦ elim (cases_lt s (length entered)) [
    | inl within ↦ ap (λ x. get_or (set entered s true) x false) same ∙ get_or-set_same entered s true false within
    | inr past ↦ absurd (true≢false (sym was ∙ get_or_past entered d false (omega arith)))
  ]
  | inr other ↦ get_or-set_other entered s d true false other ∙ was
]

-- what stands on the path was entered
pub on_path : (plan : List PlannedDevice) (entered : List Bool) (gone path left : List ℕ) → IsSound plan entered gone path left
    → (i : ℕ) → i < length path → get_or entered (get_or path i 0) false ≡ true
on_path plan entered gone path left sound i within =
    let d : ℕ = get_or path i 0
    in let some : 0 < times d path = times_of_place path i within
    in let placed : times d left + times d path ≡ bit (get_or entered d false) = sound.placed d
    in true_from_some (get_or entered d false) (omega arith)

module _ (plan : List PlannedDevice) (entered : List Bool) (gone path left : List ℕ) (sound : IsSound plan entered gone path left)
    (n d k s : ℕ) (long : length path ≡ n + 1) (top : get_or path n 0 ≡ d) (known : d < length plan)
    (here : get_or gone d 0 ≡ k) (more : k < length (suppliers_of plan d)) (at : get_or (suppliers_of plan d) k 0 ≡ s) where
  went_on : (after : List Bool) → ((x : ℕ) → get_or entered x false ≡ true → get_or after x false ≡ true) → get_or after s false ≡ true
      → (x j : ℕ) → j < get_or (set gone d (get_or gone d 0 + 1)) x 0 → get_or after (get_or (suppliers_of plan x) j 0) false ≡ true
  went_on after stays new x j below = elim (cases_eq x d) [
    | inl same ↦
        let long : length gone ≡ length plan = sound.gone_long
        in let counted : get_or (set gone d (get_or gone d 0 + 1)) x 0 ≡ get_or gone d 0 + 1 =
        ap (λ y. get_or (set gone d (get_or gone d 0 + 1)) y 0) same ∙ get_or-set_same gone d (get_or gone d 0 + 1) 0 (omega arith)
        in let supplier : get_or after (get_or (suppliers_of plan d) j 0) false ≡ true = elim (cases_eq j k) [
          | inl last ↦ ap (λ i. get_or after (get_or (suppliers_of plan d) i 0) false) last ∙ ap (λ y. get_or after y false) at ∙ new
          | inr before ↦ stays (get_or (suppliers_of plan d) j 0) (sound.went d j (omega arith))
        ]
        in ap (λ y. get_or after (get_or (suppliers_of plan y) j 0) false) same ∙ supplier
    | inr other ↦ stays (get_or (suppliers_of plan x) j 0) (sound.went x j (subst (λ m. j < m) (get_or-set_other gone d x (get_or gone d 0 + 1) 0 other) below))
  ]

  -- to a supplier that was entered before
  pub sound_again : get_or entered s false ≡ true → IsSound plan entered (set gone d (get_or gone d 0 + 1)) path left
  sound_again was = record {
    entered_long = sound.entered_long;
    gone_long = length-set gone d (get_or gone d 0 + 1) ∙ sound.gone_long;
    placed = sound.placed;
    above = sound.above;
    went = went_on entered (λ x is. is) was;
    followed = sound.followed;
    behind = sound.behind;
  }

  -- to one that wasn't
  pub sound_enter : get_or entered s false ≡ false → s < length plan → IsSound plan (set entered s true) (set gone d (get_or gone d 0 + 1)) (path ++ s ∷ []) left
  sound_enter fresh within = record {
    entered_long = length-set entered s true ∙ sound.entered_long;
    gone_long = length-set gone d (get_or gone d 0 + 1) ∙ sound.gone_long;
    placed = placed;
    above = above;
    went = went_on (set entered s true) (kept entered s) marked;
    followed = λ x some j e below. kept entered s (get_or (suppliers_of plan x) j e) (sound.followed x some j e below);
    behind = sound.behind;
  }
    where
      marked : get_or (set entered s true) s false ≡ true
      marked = get_or-set_same entered s true false (omega (arith, sound.entered_long))

      placed : (x : ℕ) → times x left + times x (path ++ s ∷ []) ≡ bit (get_or (set entered s true) x false)
      placed x = elim (cases_eq x s) [
        | inl same ↦
            let before : times x left + times x path ≡ bit (get_or entered x false) = sound.placed x
            in let none : bit (get_or entered x false) ≡ 0 = ap (λ y. bit (get_or entered y false)) same ∙ ap bit fresh
            in let one : bit (get_or (set entered s true) x false) ≡ 1 = ap (λ y. bit (get_or (set entered s true) y false)) same ∙ one_from_true (get_or (set entered s true) s false) marked
            in let pushed : times x (path ++ s ∷ []) ≡ times x path + 1 = times_push_here x path s (sym same)
            in omega arith
        | inr other ↦
            let before : times x left + times x path ≡ bit (get_or entered x false) = sound.placed x
            in let same : bit (get_or (set entered s true) x false) ≡ bit (get_or entered x false) = ap bit (get_or-set_other entered s x true false other)
            in let pushed : times x (path ++ s ∷ []) ≡ times x path = times_push_apart x path s (λ e. other (sym e))
            in omega arith
      ]

      above : (i j : ℕ) → i ≤ j → j < length (path ++ s ∷ []) → Takes plan (get_or (path ++ s ∷ []) i 0) (get_or (path ++ s ∷ []) j 0)
      above i j le below = elim (cases_lt j (length path)) [
        | inl inside ↦
            let from : get_or (path ++ s ∷ []) i 0 ≡ get_or path i 0 = get_or_append_left path (s ∷ []) 0 i (omega arith)
            in let to : get_or (path ++ s ∷ []) j 0 ≡ get_or path j 0 = get_or_append_left path (s ∷ []) 0 j inside
            in coe 1 0 (i. Takes plan (from i) (to i)) (sound.above i j le inside)
        | inr past ↦
            let count : length (path ++ s ∷ []) ≡ length path + 1 = length-append path (s ∷ [])
            in let last : length path ≡ j = omega arith
            in let to : get_or (path ++ s ∷ []) j 0 ≡ s = get_or_push path s 0 j last
            in elim (cases_lt i (length path)) [
              | inl inside ↦
                  let from : get_or (path ++ s ∷ []) i 0 ≡ get_or path i 0 = get_or_append_left path (s ∷ []) 0 i inside
                  in let there : Takes plan (get_or path i 0) d = subst (λ y. Takes plan (get_or path i 0) y) top (sound.above i n (omega arith) (omega arith))
                  in let supplier : Takes plan (get_or path i 0) s = subst (λ y. Takes plan (get_or path i 0) y) at (takes_supplier plan (get_or path i 0) d k there more)
                  in coe 1 0 (i. Takes plan (from i) (to i)) supplier
              | inr other ↦
                  let from : get_or (path ++ s ∷ []) i 0 ≡ s = get_or_push path s 0 i (omega arith)
                  in let itself : Takes plan s s = λ set has closed. has
                  in coe 1 0 (i. Takes plan (from i) (to i)) itself
            ]
      ]

  pub from_enter : (device : ℕ) → s < length plan → IsFrom plan device entered path left → IsFrom plan device (set entered s true) (path ++ s ∷ []) left
  from_enter device within from = record {
    began = kept entered s device from.began;
    taken = taken;
    first = λ _. get_or_append_left path (s ∷ []) 0 0 (omega arith) ∙ from.first (omega arith);
    last = λ empty. absurd (omega (arith, length-append path (s ∷ [])));
  }
    where
      taken : (x : ℕ) → get_or (set entered s true) x false ≡ true → Takes plan device x
      taken x was = elim (cases_eq x s) [
        | inl same ↦
            let on : get_or entered d false ≡ true = subst (λ y. get_or entered y false ≡ true) top (on_path plan entered gone path left sound n (omega arith))
            in subst (λ y. Takes plan device y) (at ∙ sym same) (takes_supplier plan device d k (from.taken d on) more)
        | inr other ↦ from.taken x (sym (get_or-set_other entered s x true false other) ∙ was)
      ]

-- back from a device to whose suppliers the walk went
module _ (plan : List PlannedDevice) (entered : List Bool) (gone rest left : List ℕ) (d : ℕ)
    (sound : IsSound plan entered gone (rest ++ d ∷ []) left) (all : length (suppliers_of plan d) ≤ get_or gone d 0) where
  went_all : All (λ s. get_or entered s false ≡ true) (suppliers_of plan d)
  went_all j e below =
      subst (λ s. get_or entered s false ≡ true) (get_or_default (suppliers_of plan d) j 0 e below) (sound.went d j (omega arith))

  last_behind : All (λ s. (0 < times s left) ⊎ Takes plan s d) (suppliers_of plan d)
  last_behind j e below =
      let s : ℕ = get_or (suppliers_of plan d) j e
      in let placed : times s left + times s (rest ++ d ∷ []) ≡ 1 = sound.placed s ∙ one_from_true (get_or entered s false) (went_all j e below)
      in elim (cases_lt 0 (times s left)) [
        | inl before ↦ inl before
        | inr none ↦
            let found : (i : ℕ) × (i < length (rest ++ d ∷ [])) × (get_or (rest ++ d ∷ []) i 0 ≡ s) = place_of_times s (rest ++ d ∷ []) (omega arith)
            in let count : length (rest ++ d ∷ []) ≡ length rest + 1 = length-append rest (d ∷ [])
            in let within : found.0 < length (rest ++ d ∷ []) = found.1
            in let last : get_or (rest ++ d ∷ []) (length rest) 0 ≡ d = get_or_push rest d 0 (length rest) refl
            in let led : Takes plan (get_or (rest ++ d ∷ []) found.0 0) (get_or (rest ++ d ∷ []) (length rest) 0) = sound.above found.0 (length rest) (omega arith) (omega arith)
            in inr (coe 0 1 (i. Takes plan (found.2 i) (last i)) led)
      ]

  abbrev IsBehind : List ℕ → ℕ → Type 0
  IsBehind before x = All (λ s. (0 < times s before) ⊎ Takes plan s x) (suppliers_of plan x)

  pub sound_leave : IsSound plan entered gone rest (left ++ d ∷ [])
  sound_leave = record {
    entered_long = sound.entered_long;
    gone_long = sound.gone_long;
    placed = placed;
    above = above;
    went = sound.went;
    followed = followed;
    behind = behind;
  }
    where
      placed : (x : ℕ) → times x (left ++ d ∷ []) + times x rest ≡ bit (get_or entered x false)
      placed x =
          let before : times x left + times x (rest ++ d ∷ []) ≡ bit (get_or entered x false) = sound.placed x
          in let one : times x (left ++ d ∷ []) ≡ times x left + bit (d == x) = times_push x left d
          in let other : times x (rest ++ d ∷ []) ≡ times x rest + bit (d == x) = times_push x rest d
          in omega arith

      above : (i j : ℕ) → i ≤ j → j < length rest → Takes plan (get_or rest i 0) (get_or rest j 0)
      above i j le below =
          let from : get_or (rest ++ d ∷ []) i 0 ≡ get_or rest i 0 = get_or_append_left rest (d ∷ []) 0 i (omega arith)
          in let to : get_or (rest ++ d ∷ []) j 0 ≡ get_or rest j 0 = get_or_append_left rest (d ∷ []) 0 j below
          in let count : length (rest ++ d ∷ []) ≡ length rest + 1 = length-append rest (d ∷ [])
          in coe 0 1 (i. Takes plan (from i) (to i)) (sound.above i j le (omega arith))

      followed : (x : ℕ) → 0 < times x (left ++ d ∷ []) → All (λ s. get_or entered s false ≡ true) (suppliers_of plan x)
      followed x some = elim (cases_eq d x) [
        | inl same ↦ subst (λ y. All (λ s. get_or entered s false ≡ true) (suppliers_of plan y)) same went_all
        | inr other ↦ sound.followed x (subst (λ m. 0 < m) (times_push_apart x left d other) some)
      ]

      behind : AreBehindSuppliers plan (left ++ d ∷ [])
      behind i below = elim (cases_lt i (length left)) [
        | inl inside ↦
            let at : get_or (left ++ d ∷ []) i 0 ≡ get_or left i 0 = get_or_append_left left (d ∷ []) 0 i inside
            in let before : take i (left ++ d ∷ []) ≡ take i left = take-append-le i left (d ∷ []) (omega arith)
            in coe 1 0 (i. IsBehind (before i) (at i)) (sound.behind i inside)
        | inr past ↦
            let count : length (left ++ d ∷ []) ≡ length left + 1 = length-append left (d ∷ [])
            in let last : length left ≡ i = omega arith
            in let at : get_or (left ++ d ∷ []) i 0 ≡ d = get_or_push left d 0 i last
            in let before : take i (left ++ d ∷ []) ≡ left = take_at left (d ∷ []) i last
            in coe 1 0 (i. IsBehind (before i) (at i)) last_behind
      ]

  pub from_leave : (device : ℕ) → IsFrom plan device entered (rest ++ d ∷ []) left → IsFrom plan device entered rest (left ++ d ∷ [])
  from_leave device from = record {
    began = from.began;
    taken = from.taken;
    first = λ some. sym (get_or_append_left rest (d ∷ []) 0 0 some) ∙ from.first (omega (arith, length-append rest (d ∷ [])));
    last = λ empty before count.
        let long : length (left ++ d ∷ []) ≡ length left + 1 = length-append left (d ∷ [])
        in get_or_push left d 0 before (omega arith) ∙ sym (get_or_push rest d 0 0 empty) ∙ from.first (omega (arith, length-append rest (d ∷ [])));
  }

-- a supplier less to go to
pub ungone_less : (plan : List PlannedDevice) (gone : List ℕ) (d : ℕ) → length gone ≡ length plan → d < length plan → get_or gone d 0 < length (suppliers_of plan d)
    → ungone plan (set gone d (get_or gone d 0 + 1)) + 1 ≡ ungone plan gone
ungone_less [] gone d long known more = absurd (omega arith)
ungone_less (p ∷ ps) [] d long known more = absurd (omega arith)
ungone_less (p ∷ ps) (n ∷ ns) zero long known more =
    let below : n < length p.suppliers = more
    in let less : ((length p.suppliers - (n + 1)) + ungone ps ns) + 1 ≡ (length p.suppliers - n) + ungone ps ns = omega arith
    in less
ungone_less (p ∷ ps) (n ∷ ns) (suc d) long known more =
    let rest : ungone ps (set ns d (get_or ns d 0 + 1)) + 1 ≡ ungone ps ns = ungone_less ps ns d (omega arith) (omega arith) more
    in let less : ((length p.suppliers - n) + ungone ps (set ns d (get_or ns d 0 + 1))) + 1 ≡ (length p.suppliers - n) + ungone ps ns = omega arith
    in less

-- a device on the path is the plan's
pub known_on_path : (plan : List PlannedDevice) (entered : List Bool) (gone path left : List ℕ) → IsSound plan entered gone path left
    → (i : ℕ) → i < length path → get_or path i 0 < length plan
known_on_path plan entered gone path left sound i within = elim (cases_lt (get_or path i 0) (length plan)) [
  | inl known ↦ known
  | inr past ↦
      let was : get_or entered (get_or path i 0) false ≡ true = on_path plan entered gone path left sound i within
      in absurd (true≢false (sym was ∙ get_or_past entered (get_or path i 0) false (omega (arith, sound.entered_long))))
]

-- ---- the steps as the code takes them
module _ (plan : List PlannedDevice) (entered : List Bool) (gone path left : List ℕ) (sound : IsSound plan entered gone path left)
    (n d k s : ℕ) (long : length path ≡ n + 1) (top : get_or path n 0 ≡ d) (known : d < length plan)
    (here : get_or gone d 0 ≡ k) (more : k < length (suppliers_of plan d)) (at : get_or (suppliers_of plan d) k 0 ≡ s) (within : s < length plan)
    (entered' : List Bool) (gone' path' left' : List ℕ)
    (g : gone' ≡ set gone d (get_or gone d 0 + 1)) (l : left' ≡ left)
    (e : entered' ≡ cond (get_or entered s false) entered (set entered s true))
    (p : path' ≡ cond (get_or entered s false) path (path ++ s ∷ [])) where
  pub gone_sound : IsSound plan entered' gone' path' left'
  gone_sound = by_test (get_or entered s false) refl
    where
      by_test : (b : Bool) → get_or entered s false ≡ b → IsSound plan entered' gone' path' left'
      by_test true was =
          let e' : entered' ≡ entered = e ∙ ap (λ b. cond b entered (set entered s true)) was
          in let p' : path' ≡ path = p ∙ ap (λ b. cond b path (path ++ s ∷ [])) was
          in coe 1 0 (i. IsSound plan (e' i) (g i) (p' i) (l i)) (sound_again plan entered gone path left sound n d k s long top known here more at was)
      by_test false fresh =
          let e' : entered' ≡ set entered s true = e ∙ ap (λ b. cond b entered (set entered s true)) fresh
          in let p' : path' ≡ path ++ s ∷ [] = p ∙ ap (λ b. cond b path (path ++ s ∷ [])) fresh
          in coe 1 0 (i. IsSound plan (e' i) (g i) (p' i) (l i)) (sound_enter plan entered gone path left sound n d k s long top known here more at fresh within)

  pub gone_from : (device : ℕ) → IsFrom plan device entered path left → IsFrom plan device entered' path' left'
  gone_from device from = by_test (get_or entered s false) refl
    where
      by_test : (b : Bool) → get_or entered s false ≡ b → IsFrom plan device entered' path' left'
      by_test true was =
          let e' : entered' ≡ entered = e ∙ ap (λ b. cond b entered (set entered s true)) was
          in let p' : path' ≡ path = p ∙ ap (λ b. cond b path (path ++ s ∷ [])) was
          in coe 1 0 (i. IsFrom plan device (e' i) (p' i) (l i)) from
      by_test false fresh =
          let e' : entered' ≡ set entered s true = e ∙ ap (λ b. cond b entered (set entered s true)) fresh
          in let p' : path' ≡ path ++ s ∷ [] = p ∙ ap (λ b. cond b path (path ++ s ∷ [])) fresh
          in coe 1 0 (i. IsFrom plan device (e' i) (p' i) (l i)) (from_enter plan entered gone path left sound n d k s long top known here more at device within from)

  pub gone_fewer : (ungone plan gone' + ungone plan gone') + length path' < (ungone plan gone + ungone plan gone) + length path
  gone_fewer =
      let less : ungone plan (set gone d (get_or gone d 0 + 1)) + 1 ≡ ungone plan gone = ungone_less plan gone d sound.gone_long known (omega arith)
      in let same : ungone plan gone' ≡ ungone plan (set gone d (get_or gone d 0 + 1)) = ap (ungone plan) g
      in by_test (get_or entered s false) refl less same
    where
      by_test : (b : Bool) → get_or entered s false ≡ b → ungone plan (set gone d (get_or gone d 0 + 1)) + 1 ≡ ungone plan gone → ungone plan gone' ≡ ungone plan (set gone d (get_or gone d 0 + 1))
          → (ungone plan gone' + ungone plan gone') + length path' < (ungone plan gone + ungone plan gone) + length path
      by_test true was less same =
          let p' : length path' ≡ length path = ap length (p ∙ ap (λ b. cond b path (path ++ s ∷ [])) was)
          in omega arith
      by_test false fresh less same =
          let p' : length path' ≡ length path + 1 = ap length (p ∙ ap (λ b. cond b path (path ++ s ∷ [])) fresh) ∙ length-append path (s ∷ [])
          in omega arith

module _ (plan : List PlannedDevice) (entered : List Bool) (gone path left : List ℕ) (sound : IsSound plan entered gone path left) (d : ℕ)
    (all : length (suppliers_of plan d) ≤ get_or gone d 0)
    (entered' : List Bool) (gone' path' left' : List ℕ)
    (g : gone' ≡ gone) (l : left' ≡ left ++ d ∷ []) (e : entered' ≡ entered) (p : path ≡ path' ++ d ∷ []) where
  left_before : IsSound plan entered gone (path' ++ d ∷ []) left
  left_before = subst (λ x. IsSound plan entered gone x left) p sound

  pub left_sound : IsSound plan entered' gone' path' left'
  left_sound = coe 1 0 (i. IsSound plan (e i) (g i) path' (l i)) (sound_leave plan entered gone path' left d left_before all)

  pub left_from : (device : ℕ) → IsFrom plan device entered path left → IsFrom plan device entered' path' left'
  left_from device from =
      coe 1 0 (i. IsFrom plan device (e i) path' (l i)) (from_leave plan entered gone path' left d left_before all device (subst (λ x. IsFrom plan device entered x left) p from))

-- a walk that is back has the order
pub order_of : (plan : List PlannedDevice) (device : ℕ) (entered : List Bool) (gone path left : List ℕ)
    → IsSound plan entered gone path left → IsFrom plan device entered path left → length path ≡ 0 → IsOrderFor plan device left
order_of plan device entered gone path left sound from empty = record {
  exact = λ x. (to x, back x);
  once = once;
  behind = sound.behind;
  last = from.last empty;
}
  where
    all_left : (x : ℕ) → times x left ≡ bit (get_or entered x false)
    all_left x =
        let placed : times x left + times x path ≡ bit (get_or entered x false) = sound.placed x
        in let none : times x path ≡ 0 = times_none x path empty
        in omega arith

    to : (x : ℕ) → times x left ≡ 1 → Takes plan device x
    to x one = from.taken x (true_from_some (get_or entered x false) (omega (arith, all_left x)))

    back : (x : ℕ) → Takes plan device x → times x left ≡ 1
    back x taken =
        let closed : HasSuppliers plan (λ y. get_or entered y false) = λ y was. sound.followed y (omega (arith, all_left y, one_from_true (get_or entered y false) was))
        in all_left x ∙ one_from_true (get_or entered x false) (taken (λ y. get_or entered y false) from.began closed)

    once : (x : ℕ) → times x left < 2
    once x = elim (cases_Bool (get_or entered x false)) [
      | inl is ↦ omega (arith, all_left x, ap bit is)
      | inr is ↦ omega (arith, all_left x, ap bit is)
    ]
