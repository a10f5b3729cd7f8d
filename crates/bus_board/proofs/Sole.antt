-- What the view of the only seat says of the words.
use Rattle.std.proofs.Common.{◌≡◌, ◌≢◌, ◌⊎◌, ℕ, zero, suc, ◌+◌, ◌<◌, ◌≤◌, Bool, true, false, not, List, [], ◌∷◌, length, Option, Some, None, refl, sym, ap, ◌∙◌, subst, inl, inr, arith, eqb, eq-eqb, eqb-true, ne_eqb, true≢false}
use Rattle.std.specs.Prelude.{if◌then◌else◌, slice_index}
use mathlib.Core.Logic.{dite}
use mathlib.Core.Option.{some}
use native.Mathlib.Decide.{ℕ_discrete}
use lib.ListN.{get_elem?}
use Rattle.bus_plan.specs.Plan.{PlannedDevice, is_matched}
use Rattle.bus_core.proofs.HistoryLemmas.{ready-matched}
use Rattle.bus_core.specs.History.{IsBusHistory, bound_in, is_settled}
use Rattle.bus_core.specs.Ready.{is_ready}
use Rattle.bus_board.proofs.Histories.{bound_outcome, ready_bound, unsettled_none}
use Rattle.bus_board.proofs.Flights.{pairs_among}
use Rattle.bus_board.proofs.Moves.{is_true, settled_as-bound, sole_seen}
use Rattle.bus_board.proofs.Openings.{failed, idle_number, settled_as-failed}
use Rattle.bus_board.proofs.Shares.{others_spent, total-sole}
use Rattle.bus_board.proofs.Turns.{flies_none}
use Rattle.bus_board.specs.Ends.{HasBegun, begins_told, flown_word, told_word}
use Rattle.bus_board.specs.Lists.{Among, pairs, times}
use Rattle.bus_board.specs.Opening.{was_begun}
use Rattle.bus_board.specs.Outcomes.{History, outcome_of}
use Rattle.bus_board.specs.Rule.{Kept, Tells, begins_before}
use Rattle.bus_board.specs.Shares.{IsWhole}
use Rattle.bus_board.specs.Steps.{IsPast}
use Rattle.bus_board.specs.Views.{claims, flies, flies_in, owes, spent}
use Rattle.bus_board.specs.Words.{begins_of, flights_of, flying_word, number_of, word_of}
use Rattle.bus_board.specs.declared.view.Flight.{Flight}
use Rattle.bus_board.specs.declared.view.Opening.{Opening}
use Rattle.bus_board.specs.declared.view.View.{View}
use Rattle.bus_board.specs.declared.words.Word.{Word}
use Rattle.bus_board.specs.declared.words.Word.TheVariants as word

-- the word of the number of a word
pub word_number : (x : Word) → word_of (number_of x) ≡ x
word_number word.Fresh = refl
word_number word.Trying = refl
word_number word.Waiting = refl
word_number word.Woken = refl
word_number word.Retrying = refl
word_number word.Bound = refl
word_number word.Failed = refl
word_number word.Unmatched = refl

-- the word of a device that isn't in flight, from what it is made of
abbrev idle_by : Bool → Bool → Word
idle_by fresh ready = if fresh then word.Fresh else (if ready then word.Woken else word.Waiting)

abbrev idle_told : View → ℕ → Word
idle_told v d = idle_by (eqb (begins_told v d) 0) (is_ready v.plan (bound_in v.seen) d)

told_is : (v : View) (d : ℕ) (b s m : Bool) (o : Option Flight) → bound_in v.seen d ≡ b → is_settled v.seen d ≡ s → is_matched v.plan d ≡ m → v.flight ≡ o
    → told_word v d ≡ (if b then word.Bound else (if s then word.Failed else (if not m then word.Unmatched else flown_word o d (idle_told v d))))
told_is v d b s m o eb es em eo = λ i. if eb i then word.Bound else (if es i then word.Failed else (if not (em i) then word.Unmatched else flown_word (eo i) d (idle_told v d)))

in_flight : (again : Bool) → flying_word again ≡ number_of (if again then word.Retrying else word.Trying)
in_flight true = refl
in_flight false = refl

-- where a seat is the only one, the words tell of its view alone
pub sole_tells : (p : List PlannedDevice) (words : List ℕ) (views : List View) (k : Kept p words views) (id : ℕ) (v : View) (d w : ℕ) → get_elem? views id ≡ some v → v.live ≡ true → IsWhole v.share
    → Tells p k.opening k.log views d w → Tells v.plan v.opening v.seen (v ∷ []) d w
sole_tells p words views k id v d w me live whole tells =
    let only : (j : ℕ) (u : View) → j ≢ id → get_elem? views j ≡ some u → u ≡ spent = others_spent views id v me live whole k.seats in
    let t : Tells p k.opening k.log (v ∷ []) d w = record {
      small = tells.small;
      settled = tells.settled;
      flown = omega (arith, total-sole (flies d) refl views id v me only, tells.flown);
      begun = omega (arith, total-sole (claims d 0) refl views id v me only, tells.begun);
      retried = omega (arith, total-sole (claims d 3) refl views id v me only, tells.retried);
      unmatched = tells.unmatched;
      matched = tells.matched;
      woken = tells.woken;
      waiting = λ e all. omega (arith, total-sole (owes d) refl views id v me only, tells.waiting e all);
    } in
    let a : Tells v.plan k.opening k.log (v ∷ []) d w = subst (λ (q : List PlannedDevice). Tells q k.opening k.log (v ∷ []) d w) (sym ((k.fits id v me).plan_is live)) t in
    let b : Tells v.plan v.opening k.log (v ∷ []) d w = subst (λ (o : Opening). Tells v.plan o k.log (v ∷ []) d w) (sym (k.opened id v me live)) a in
    subst (λ (h : History). Tells v.plan v.opening h (v ∷ []) d w) (sym (sole_seen p words views k id v me live whole)) b

-- the word of a device that isn't in flight
idle_only : (v : View) (d w : ℕ) → IsBusHistory v.plan v.seen → Tells v.plan v.opening v.seen (v ∷ []) d w → is_settled v.seen d ≡ false → is_matched v.plan d ≡ true
    → flies d v ≡ 0 → owes d v ≡ 0 → w ≡ number_of (idle_told v d)
idle_only v d w lawful tells es em flown none =
    at (eqb (begins_told v d) 0) (is_ready v.plan (bound_in v.seen) d) refl refl (idle_number w tells.small (sym tells.settled ∙ unsettled_none v.seen d es) (omega (arith, tells.flown, flown)) (λ seven. true≢false (sym em ∙ tells.unmatched seven)))
  where
    at : (g r : Bool) → eqb (begins_told v d) 0 ≡ g → is_ready v.plan (bound_in v.seen) d ≡ r → (w ≡ 0) ⊎ (w ≡ 2) ⊎ (w ≡ 3) → w ≡ number_of (idle_by g r)
    at true r eg er n = elim n [
      | inl fresh ↦ fresh
      | inr begun ↦ elim begun [
        | inl two ↦ absurd (omega (arith, tells.begun, ap begins_of two, eqb-true (begins_told v d) 0 eg))
        | inr three ↦ absurd (omega (arith, tells.begun, ap begins_of three, eqb-true (begins_told v d) 0 eg))
      ]
    ]
    at false true eg er n = elim n [
      | inl fresh ↦ absurd (true≢false (sym (eq-eqb (begins_told v d) 0 (omega (arith, tells.begun, ap begins_of fresh))) ∙ eg))
      | inr begun ↦ elim begun [
        | inl two ↦ absurd (omega (arith, tells.waiting two (ready_bound v.plan v.seen d lawful er), none))
        | inr three ↦ three
      ]
    ]
    at false false eg er n = elim n [
      | inl fresh ↦ absurd (true≢false (sym (eq-eqb (begins_told v d) 0 (omega (arith, tells.begun, ap begins_of fresh))) ∙ eg))
      | inr begun ↦ elim begun [
        | inl two ↦ two
        | inr three ↦ absurd (true≢false (sym (tells.woken three) ∙ er))
      ]
    ]

-- the word of a device that has a driver and hasn't settled
open_only : (v : View) (d w : ℕ) → IsBusHistory v.plan v.seen → Tells v.plan v.opening v.seen (v ∷ []) d w → is_settled v.seen d ≡ false → is_matched v.plan d ≡ true → owes d v ≡ 0
    → ((f : Flight) → v.flight ≡ Some f → f.device ≡ d → w ≡ flying_word f.again) → (o : Option Flight) → v.flight ≡ o → w ≡ number_of (flown_word o d (idle_told v d))
open_only v d w lawful tells es em none flies-as None eo = idle_only v d w lawful tells es em (ap (λ (o : Option Flight). flies_in o d) eo) none
open_only v d w lawful tells es em none flies-as (Some f) eo = dite (ℕ_discrete f.device d)
    (λ same. flies-as f eo same ∙ in_flight f.again ∙ sym (ap (λ (b : Bool). number_of (if b then (if f.again then word.Retrying else word.Trying) else idle_told v d)) (eq-eqb f.device d same)))
    (λ other. idle_only v d w lawful tells es em (flies_none v.flight f d eo other) none ∙ sym (ap (λ (b : Bool). number_of (if b then (if f.again then word.Retrying else word.Trying) else idle_told v d)) (ne_eqb f.device d other)))

-- the rule leaves one word for a device that the only seat doesn't owe
told_only : (v : View) (d w : ℕ) → IsBusHistory v.plan v.seen → Tells v.plan v.opening v.seen (v ∷ []) d w → owes d v ≡ 0
    → ((f : Flight) → v.flight ≡ Some f → f.device ≡ d → w ≡ flying_word f.again) → w ≡ number_of (told_word v d)
told_only v d w lawful tells none flies-as = at (bound_in v.seen d) (is_settled v.seen d) (is_matched v.plan d) refl refl refl
  where
    at : (b s m : Bool) → bound_in v.seen d ≡ b → is_settled v.seen d ≡ s → is_matched v.plan d ≡ m → w ≡ number_of (told_word v d)
    at true s m eb es em = settled_as-bound w (sym tells.settled ∙ bound_outcome v.plan v.seen lawful d eb) ∙ sym (ap number_of (told_is v d true s m v.flight eb es em refl))
    at false true m eb es em =
        settled_as-failed w tells.small (sym tells.settled ∙ failed v.seen d (outcome_of v.seen d) refl eb es) ∙ sym (ap number_of (told_is v d false true m v.flight eb es em refl))
    at false false false eb es em = tells.matched em ∙ sym (ap number_of (told_is v d false false false v.flight eb es em refl))
    at false false true eb es em =
        open_only v d w lawful tells es em none flies-as v.flight refl ∙ sym (ap number_of (told_is v d false false true v.flight eb es em refl))

-- the number in the table of a device that the only seat doesn't owe
pub sole_word : (p : List PlannedDevice) (words : List ℕ) (views : List View) (k : Kept p words views) (id : ℕ) (v : View) (d : ℕ) → get_elem? views id ≡ some v → v.live ≡ true → IsWhole v.share
    → d < length v.plan → owes d v ≡ 0 → slice_index words d ≡ number_of (told_word v d)
sole_word p words views k id v d me live whole inside none =
    let fit = k.fits id v me in
    let plan = fit.plan_is live in
    let lawful : IsBusHistory v.plan v.seen = subst (λ (h : History). IsBusHistory v.plan h) (sym (sole_seen p words views k id v me live whole)) (subst (λ (q : List PlannedDevice). IsBusHistory q k.log) (sym plan) k.lawful) in
    told_only v d (slice_index words d) lawful (sole_tells p words views k id v d (slice_index words d) me live whole (k.words_tell d (subst (λ (q : List PlannedDevice). d < length q) plan inside))) none
    (λ f flight device. ap (λ (e : ℕ). slice_index words e) (sym device) ∙ (fit.flight f flight).word)

-- a device that stands among the pairs
among_pairs : (xs : List (ℕ × ℕ)) (d w : ℕ) → 0 < pairs d w xs → Among xs d w
among_pairs [] d w lt = absurd (omega arith)
among_pairs (x ∷ xs) d w lt =
    let on : 0 < pairs d w xs → Among (x ∷ xs) d w = λ more. let t = among_pairs xs d w more in (suc t.0, t.1) in
    dite (ℕ_discrete x.0 d)
    (λ same. dite (ℕ_discrete x.1 w)
    (λ both. (0, λ i. Some (same i, both i)))
    (λ other. on (omega (arith, lt, ap {B = ℕ} (λ (b : Bool). if b then (if eqb x.1 w then 1 else 0) else 0) (eq-eqb x.0 d same), ap {B = ℕ} (λ (b : Bool). if b then 1 else 0) (ne_eqb x.1 w other)))))
    (λ other. on (omega (arith, lt, ap {B = ℕ} (λ (b : Bool). if b then (if eqb x.1 w then 1 else 0) else 0) (ne_eqb x.0 d other))))

-- a word from which a device can't be claimed as never begun
begun_word : (w : ℕ) → w ≢ 0 → w ≢ 7 → begins_of w ≡ 1
begun_word w fresh off = ap {B = ℕ} (λ (b : Bool). if b then 0 else (if eqb w 7 then 0 else 1)) (ne_eqb w 0 fresh) ∙ ap {B = ℕ} (λ (b : Bool). if b then 0 else 1) (ne_eqb w 7 off)

begun_here : (v : View) (d : ℕ) → begins_told v d ≡ 1 → HasBegun v.plan v d
begun_here v d one = at (was_begun v.plan v.opening d) refl
  where
    at : (b : Bool) → was_begun v.plan v.opening d ≡ b → HasBegun v.plan v d
    at true is = inl is
    at false is = inr (among_pairs v.claimed d 0 (omega (arith, one, ap {B = ℕ} (λ (b : Bool). if b then 1 else 0) is)))

begun_counts : (v : View) (d : ℕ) → HasBegun v.plan v d → 0 < begins_told v d
begun_counts v d (inl before) = omega (arith, ap {B = ℕ} (λ (b : Bool). if b then 1 else 0) before)
begun_counts v d (inr claimed) = omega (arith, pairs_among v.claimed d 0 claimed)

-- a claim that the only seat loses
pub lost_past : (p : List PlannedDevice) (words : List ℕ) (views : List View) (k : Kept p words views) (id : ℕ) (v : View) (d old : ℕ) → get_elem? views id ≡ some v → v.live ≡ true → v.flight ≡ None
    → d < length p → slice_index words d ≢ old → IsWhole v.share → v.owed ≡ [] → IsPast v d old
lost_past p words views k id v d old me live idle inside miss whole owed =
    let w : ℕ = slice_index words d in
    let tells : Tells v.plan v.opening v.seen (v ∷ []) d w = sole_tells p words views k id v d w me live whole (k.words_tell d inside) in
    let plan = (k.fits id v me).plan_is live in
    let lawful : IsBusHistory v.plan v.seen = subst (λ (h : History). IsBusHistory v.plan h) (sym (sole_seen p words views k id v me live whole)) (subst (λ (q : List PlannedDevice). IsBusHistory q k.log) (sym plan) k.lawful) in
    let none : owes d v ≡ 0 = ap (times d) owed in
    let grounded : flies d v ≡ 0 = ap (λ (o : Option Flight). flies_in o d) idle in (
      (λ fresh matched. begun_here v d (omega (arith, tells.begun, begun_word w (λ e. miss (e ∙ sym fresh)) (λ e. true≢false (sym matched ∙ tells.unmatched e))))),
      λ woken begun ready. is_true _ (λ open-yet.
          let matched : is_matched v.plan d ≡ true = ready-matched v.plan (bound_in v.seen) d ready in
          elim (idle_number w tells.small (sym tells.settled ∙ unsettled_none v.seen d open-yet) (omega (arith, tells.flown, grounded)) (λ seven. true≢false (sym matched ∙ tells.unmatched seven))) [
            | inl fresh ↦ omega (arith, tells.begun, ap begins_of fresh, begun_counts v d begun)
            | inr later ↦ elim later [
              | inl two ↦ omega (arith, tells.waiting two (ready_bound v.plan v.seen d lawful ready), none)
              | inr three ↦ miss (three ∙ sym woken)
            ]
          ]),
    )
