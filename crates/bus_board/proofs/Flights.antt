-- Whose flight a TRYING or RETRYING word tells of.
use Rattle.std.proofs.Common.{◌≡◌, ◌≢◌, ℕ, zero, suc, ◌<◌, ◌≤◌, Bool, true, false, List, [], ◌∷◌, length, Option, Some, None, refl, sym, ap, ◌∙◌, subst, arith, eq-eqb}
use Rattle.std.specs.Prelude.{slice_get, slice_index, if◌then◌else◌}
use mathlib.Core.Logic.{dite}
use mathlib.Core.Option.{some, some-injective}
use native.Mathlib.Decide.{ℕ_discrete}
use lib.ListN.{get_elem?}
use Rattle.bus_plan.specs.Plan.{PlannedDevice}
use Rattle.bus_board.proofs.Moves.{flying, pairs-same}
use Rattle.bus_board.proofs.Sums.{term_le, terms_le}
use Rattle.bus_board.proofs.Turns.{flies_none, flies_one}
use Rattle.bus_board.specs.Lists.{Among, pairs, total}
use Rattle.bus_board.specs.Opening.{was_begun}
use Rattle.bus_board.specs.Rule.{FlightFits, Kept, begins_before}
use Rattle.bus_board.specs.Views.{claims, flies, flies_in}
use Rattle.bus_board.specs.Words.{begins_of, claimed_word, flights_of, flying_word, most_retries}
use Rattle.bus_board.specs.declared.view.Flight.{Flight}
use Rattle.bus_board.specs.declared.view.Opening.{Opening}
use Rattle.bus_board.specs.declared.view.View.{View}

-- a sum that isn't 0 has a term that isn't
total_some : {A : Type 0} (g : A → ℕ) (l : List A) → 0 < total g l → (j : ℕ) × (v : A) × (get_elem? l j ≡ some v) × (0 < g v)
total_some g [] lt = absurd (omega arith)
total_some g (x ∷ xs) lt = dite (ℕ_discrete (g x) 0)
    (λ none-here. let t = total_some g xs (omega (arith, none-here)) in (suc t.0, t.1, t.2, t.3))
    (λ some-here. (0, x, refl, omega arith))

flies_has : (o : Option Flight) (d : ℕ) → 0 < flies_in o d → (f : Flight) × (o ≡ Some f) × (f.device ≡ d)
flies_has None d lt = absurd (omega arith)
flies_has (Some f) d lt = dite (ℕ_discrete f.device d)
    (λ same. (f, refl, same))
    (λ other. absurd (omega (arith, flies_none (Some f) f d refl other)))

-- the seat and the flight that such a word tells of
pub flight_of : (p : List PlannedDevice) (words : List ℕ) (views : List View) (k : Kept p words views) (d : ℕ) (again : Bool) → d < length p → slice_index words d ≡ flying_word again
    → (j : ℕ) × (u : View) × (f : Flight) × (get_elem? views j ≡ some u) × (u.flight ≡ Some f) × (f.device ≡ d)
flight_of p words views k d again inside is =
    let one : total (flies d) views ≡ 1 = (k.words_tell d inside).flown ∙ ap flights_of is ∙ (flying again).3 in
    let t = total_some (flies d) views (omega (arith, one)) in
    let f = flies_has t.1.flight d t.3 in
    (t.0, t.1, f.0, t.2, f.1, f.2)

pub again_is : (a b : Bool) → flying_word a ≡ flying_word b → a ≡ b
again_is true true e = refl
again_is true false e = absurd (omega (arith, e))
again_is false true e = absurd (omega (arith, e))
again_is false false e = refl

-- a pair that stands in a list is counted
pub pairs_among : (xs : List (ℕ × ℕ)) (d w : ℕ) → Among xs d w → 0 < pairs d w xs
pairs_among xs d w a = at xs a.0 a.1
  where
    at : (xs : List (ℕ × ℕ)) (i : ℕ) → slice_get xs i ≡ Some (d, w) → 0 < pairs d w xs
    at [] i e = absurd (let none-there : (let o : Option (ℕ × ℕ) = None in o ≡ Some (d, w)) = e in cc)
    at (x ∷ xs) zero e =
        let is : Some x ≡ Some (d, w) = e in
        let same : x ≡ (d, w) = cc in
        omega (arith, ap (λ (y : ℕ × ℕ). pairs d w (y ∷ xs)) same, pairs-same xs d d w w refl, ap {B = ℕ} (λ (b : Bool). if b then 1 else 0) (eq-eqb w w refl))
    at (x ∷ xs) (suc i) e = omega (arith, at xs i e)

-- no device is claimed twice from one word while it flies
claims_once : (p : List PlannedDevice) (words : List ℕ) (views : List View) (k : Kept p words views) (d : ℕ) (again : Bool) → d < length p → slice_index words d ≡ flying_word again
    → total (claims d (claimed_word again)) views ≤ 1
claims_once p words views k d true inside is = omega (arith, (k.words_tell d inside).retried, ap most_retries is)
claims_once p words views k d false inside is = omega (arith, (k.words_tell d inside).begun, ap begins_of is)

-- the seat of a flight has claimed its device from the word before
claimed_of : (p : List PlannedDevice) (words : List ℕ) (views : List View) (k : Kept p words views) (d : ℕ) (again : Bool) (u : View) (j : ℕ) (f : Flight)
    → get_elem? views j ≡ some u → u.flight ≡ Some f → f.device ≡ d → slice_index words d ≡ flying_word again → Among u.claimed d (claimed_word again)
claimed_of p words views k d again u j f at flight device is =
    let fits : FlightFits p k.log words u.seen f = (k.fits j u at).flight f flight in
    let same : f.again ≡ again = again_is f.again again (sym fits.word ∙ ap (λ (e : ℕ). slice_index words e) device ∙ is) in
    subst (λ (a : Bool). Among u.claimed d (claimed_word a)) same (subst (λ (e : ℕ). Among u.claimed e (claimed_word f.again)) device ((k.fits j u at).begun f flight))

-- a seat that claimed the device from the word before has the flight
pub own_flight : (p : List PlannedDevice) (words : List ℕ) (views : List View) (k : Kept p words views) (id : ℕ) (v : View) (d : ℕ) (again : Bool) → d < length p → slice_index words d ≡ flying_word again
    → get_elem? views id ≡ some v → Among v.claimed d (claimed_word again) → flies d v ≡ 1
own_flight p words views k id v d again inside is me mine =
    let t = flight_of p words views k d again inside is in
    let u : View = t.1 in
    let f : Flight = t.2 in
    let theirs : Among u.claimed d (claimed_word again) = claimed_of p words views k d again u t.0 f t.3 t.4 t.5 is in
    let w : ℕ = claimed_word again in
    dite (ℕ_discrete t.0 id)
    (λ here. subst (λ (x : View). flies d x ≡ 1) (some-injective u v (sym t.3 ∙ ap (get_elem? views) here ∙ me)) (flies_one u.flight f d t.4 t.5))
    (λ apart. absurd (omega (arith, terms_le (claims d w) views id t.0 v u apart me t.3, pairs_among v.claimed d w mine, pairs_among u.claimed d w theirs, claims_once p words views k d again inside is)))

-- how often a device was begun before, as a seat knows it
begun_once : (p : List PlannedDevice) (words : List ℕ) (views : List View) (k : Kept p words views) (id : ℕ) (v : View) (d : ℕ) → get_elem? views id ≡ some v → v.live ≡ true
    → was_begun p v.opening d ≡ true → begins_before p k.opening d ≡ 1
begun_once p words views k id v d me live before =
    ap (λ (o : Opening). begins_before p o d) (sym (k.opened id v me live)) ∙ ap {B = ℕ} (λ (b : Bool). if b then 1 else 0) before

-- a device that was begun before isn't FRESH
pub begun_before : (p : List PlannedDevice) (words : List ℕ) (views : List View) (k : Kept p words views) (id : ℕ) (v : View) (d : ℕ) → d < length p → get_elem? views id ≡ some v → v.live ≡ true
    → was_begun p v.opening d ≡ true → slice_index words d ≢ 0
begun_before p words views k id v d inside me live before fresh =
    omega (arith, (k.words_tell d inside).begun, ap begins_of fresh, begun_once p words views k id v d me live before)

-- nor TRYING
pub not_tried : (p : List PlannedDevice) (words : List ℕ) (views : List View) (k : Kept p words views) (id : ℕ) (v : View) (d : ℕ) → d < length p → get_elem? views id ≡ some v → v.live ≡ true
    → was_begun p v.opening d ≡ true → slice_index words d ≢ 1
not_tried p words views k id v d inside me live before trying =
    let t = flight_of p words views k d false inside trying in
    let u : View = t.1 in
    let theirs : Among u.claimed d 0 = claimed_of p words views k d false u t.0 t.2 t.3 t.4 t.5 trying in
    omega (arith, (k.words_tell d inside).begun, ap begins_of trying, begun_once p words views k id v d me live before, term_le (claims d 0) views t.0 u t.3, pairs_among u.claimed d 0 theirs)
