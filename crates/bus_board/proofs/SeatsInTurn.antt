-- A seat is cut in two, and two seats are joined.
use Rattle.std.proofs.Common.{◌≡◌, ◌≢◌, ◌⊎◌, ℕ, zero, suc, ◌+◌, ◌<◌, ◌≤◌, Bool, true, false, List, [], ◌∷◌, ◌++◌, length, set, Option, Some, None, refl, sym, ap, ◌∙◌, subst, inl, inr, ⊎_elim, arith, length-append, eq-eqb, ne_eqb}
use Rattle.std.specs.Prelude.{slice_get, slice_index, nat_le, if◌then◌else◌}
use Rattle.std.proofs.lemmas.Bool.Decides.{leb_tells}
use mathlib.Core.Logic.{dite}
use native.Mathlib.Decide.{ℕ_discrete}
use mathlib.Core.Option.{some, some-injective, some-ne-none}
use lib.ListN.{get_elem?}
use Rattle.atomic_table.proofs.Lists.{at_longer, at_set, at_snoc, set_again, set_else}
use Rattle.atomic_table.specs.Table.{Joins, Splits}
use Rattle.bus_plan.specs.Plan.{PlannedDevice}
use Rattle.bus_core.specs.CoreState.{CoreValue, was_begun}
use Rattle.bus_core.specs.History.{IsBusHistory, is_settled}
use Rattle.bus_core.specs.declared.settle.Outcome.TheVariants.{Bound}
use Rattle.bus_core.specs.declared.settle.Settle.{Settle}
use Rattle.bus_board.proofs.Histories.{append-nil, front_outcome, front_whole, lawful_front, none_in_front}
use Rattle.bus_board.proofs.Openings.{opening_only, opening_tells}
use Rattle.bus_board.proofs.Shares.{shares_joined, shares_split}
use Rattle.bus_board.proofs.Sums.{total-append, total-set}
use Rattle.bus_board.proofs.Turns.{opened_set, set_at, times-append}
use Rattle.bus_board.specs.Learns.{JoinedBy, Stands}
use Rattle.bus_board.specs.Lists.{Among, pairs, times}
use Rattle.bus_board.specs.Opening.{AreFirst, opening_of}
use Rattle.bus_board.specs.Outcomes.{History, IsFront, longer, shorter}
use Rattle.bus_board.specs.Rule.{Fits, HasShare, Holds, Kept, OpensAs, SeenBySome, Tells}
use Rattle.bus_board.specs.Views.{both, claims, flies, flies_in, lender, newcomer, of_devices, opener, owes, spent}
use Rattle.bus_board.specs.Words.{claimed_word}
use Rattle.bus_board.specs.declared.view.Flight.{Flight}
use Rattle.bus_board.specs.declared.view.Opening.{Opening}
use Rattle.bus_board.specs.declared.view.View.{View}

pub not-among : (d w : ℕ) → Among [] d w → ⊥
not-among d w a = let e : (let o : Option (ℕ × ℕ) = None in o ≡ Some (d, w)) = a.1 in absurd (cc)

pub among_append : (xs ys : List (ℕ × ℕ)) (d w : ℕ) → Among (xs ++ ys) d w → Among xs d w ⊎ Among ys d w
among_append [] ys d w a = inr a
among_append (x ∷ xs) ys d w a = at (λ i e. among_append xs ys d w (i, e)) a.0 a.1
  where
    at : ((i : ℕ) → slice_get (xs ++ ys) i ≡ Some (d, w) → Among xs d w ⊎ Among ys d w) → (i : ℕ) → slice_get ((x ∷ xs) ++ ys) i ≡ Some (d, w) → Among (x ∷ xs) d w ⊎ Among ys d w
    at more zero e = inl (0, e)
    at more (suc i) e = ⊎_elim (λ (t : Among xs d w). inl (suc t.0, t.1)) (λ (t : Among ys d w). inr t) (more i e)

pub among_left : (xs ys : List (ℕ × ℕ)) (d w : ℕ) → Among xs d w → Among (xs ++ ys) d w
among_left [] ys d w a = absurd (not-among d w a)
among_left (x ∷ xs) ys d w a = at (λ i e. among_left xs ys d w (i, e)) a.0 a.1
  where
    at : ((i : ℕ) → slice_get xs i ≡ Some (d, w) → Among (xs ++ ys) d w) → (i : ℕ) → slice_get (x ∷ xs) i ≡ Some (d, w) → Among ((x ∷ xs) ++ ys) d w
    at more zero e = (0, e)
    at more (suc i) e = let t = more i e in (suc t.0, t.1)

pub among_right : (xs ys : List (ℕ × ℕ)) (d w : ℕ) → Among ys d w → Among (xs ++ ys) d w
among_right [] ys d w a = a
among_right (x ∷ xs) ys d w a = let t = among_right xs ys d w a in (suc t.0, t.1)

pairs-append : (d w : ℕ) (xs ys : List (ℕ × ℕ)) → pairs d w (xs ++ ys) ≡ pairs d w xs + pairs d w ys
pairs-append d w [] ys = omega arith
pairs-append d w (x ∷ xs) ys = omega (arith, pairs-append d w xs ys)

-- the seat that is cut in two has seen what it had
split_whole : (views : List View) (id : ℕ) (v : View) (log : History) → get_elem? views id ≡ some v → SeenBySome views log → SeenBySome (set views id (lender v) ++ newcomer v ∷ []) log
split_whole views id v log me whole =
    let l : View = lender v in
    dite (ℕ_discrete whole.0 id)
    (λ same. (id, l, at_longer (set views id l) (newcomer v ∷ []) id l (set_at views id v l me), ap (λ (x : View). x.seen) (some-injective v whole.1 (sym me ∙ ap (get_elem? views) (sym same) ∙ whole.2)) ∙ whole.3))
    (λ ne. (whole.0, whole.1, at_longer (set views id l) (newcomer v ∷ []) whole.0 whole.1 (set_else views id whole.0 l ne ∙ whole.2), whole.3))

pub split_allowed : (p : List PlannedDevice) (id : ℕ) (v : View) → v.live ≡ true → Splits (Holds p) id v (lender v) (newcomer v)
split_allowed p id v live s k me =
    let l : View = lender v in
    let n : View = newcomer v in
    let mid : List View = set s.views id l in
    let fit : Fits p k.log s.words v = k.fits id v me in
    let fit_lender : Fits p k.log s.words l = record {
      plan_is = fit.plan_is;
      seen = fit.seen;
      told = fit.told;
      mine = fit.mine;
      claimed = fit.claimed;
      retried = fit.retried;
      passed = fit.passed;
      flight = fit.flight;
      begun = fit.begun;
    } in
    let fit_new : Fits p k.log s.words n = record {
      plan_is = λ _. fit.plan_is live;
      seen = fit.seen;
      told = (k.log, refl);
      mine = λ d _. refl;
      claimed = λ d w a. absurd (not-among d w a);
      retried = λ d a. absurd (not-among d 3 a);
      passed = λ d a. absurd (not-among d 0 a);
      flight = λ f e'. absurd (cc);
      begun = λ f e'. absurd (cc);
    } in
    record {
      opening = k.opening;
      log = k.log;
      lawful = k.lawful;
      later = k.later;
      opened = λ j u e lives. ⊎_elim
          (λ (t : get_elem? mid j ≡ some u). opened_set s.views k.opening id v l me (refl, refl) k.opened j u t lives)
          (λ (t : n ≡ u). subst (λ (x : View). x.opening ≡ k.opening) t (k.opened id v me live))
          (at_snoc mid n u j e);
      seats = shares_split s.views id v me live k.seats;
      whole = split_whole s.views id v k.log me k.whole;
      wide = k.wide;
      words_tell = λ d lt. let was = k.words_tell d lt in record {
        small = was.small;
        settled = was.settled;
        flown = omega (arith, total-append (flies d) mid (n ∷ []), total-set (flies d) s.views id v l me, was.flown);
        begun = omega (arith, total-append (claims d 0) mid (n ∷ []), total-set (claims d 0) s.views id v l me, was.begun);
        retried = omega (arith, total-append (claims d 3) mid (n ∷ []), total-set (claims d 3) s.views id v l me, was.retried);
        unmatched = was.unmatched;
        matched = was.matched;
        woken = was.woken;
        waiting = λ e all. omega (arith, total-append (owes d) mid (n ∷ []), total-set (owes d) s.views id v l me, was.waiting e all);
      };
      owned = λ d. omega (arith, total-append (λ (x : View). times d x.mine) mid (n ∷ []), total-set (λ (x : View). times d x.mine) s.views id v l me, k.owned d);
      fits = λ j u e. ⊎_elim
          (λ (t : get_elem? mid j ≡ some u). ⊎_elim
          (λ (y : (j ≡ id) × (l ≡ u)). subst (Fits p k.log s.words) y.1 fit_lender)
          (λ (y : (j ≢ id) × (get_elem? s.views j ≡ some u)). k.fits j u y.1)
          (at_set s.views id j l u t))
          (λ (t : n ≡ u). subst (Fits p k.log s.words) t fit_new)
          (at_snoc mid n u j e);
    }

longer_cases : (P : History → Type 0) (f g : History) → P f → P g → P (longer f g)
longer_cases P f g a b = at (nat_le (length g) (length f))
  where
    at : (c : Bool) → P (if c then f else g)
    at true = a
    at false = b

shorter_cases : (P : History → Type 0) (f g : History) → P f → P g → P (shorter f g)
shorter_cases P f g a b = at (nat_le (length g) (length f))
  where
    at : (c : Bool) → P (if c then g else f)
    at true = b
    at false = a

-- of two fronts of one history the shorter begins the longer
fronts : (f g r t : History) → f ++ r ≡ g ++ t → length g ≤ length f → IsFront g f
fronts f [] r t e le = (f, refl)
fronts [] (y ∷ g) r t e le = absurd (omega arith)
fronts (x ∷ f) (y ∷ g) r t e le =
    let same : x ≡ y = cc in
    let rest : f ++ r ≡ g ++ t = cc in
    let more : IsFront g f = fronts f g r t rest (omega arith) in
    (more.0, λ i. same i ∷ more.1 i)

pub front_in : (f g h : History) → IsFront f h → IsFront g h → length g ≤ length f → IsFront g f
front_in f g h a b le = fronts f g a.0 b.0 (sym a.1 ∙ b.1) le

-- each of the two begins the longer
pub joined_fronts : (f g h : History) → IsFront f h → IsFront g h → IsFront f (longer f g) × IsFront g (longer f g)
joined_fronts f g h a b =
    ⊎_elim
    (λ (t : (nat_le (length g) (length f) ≡ true) × (length g ≤ length f)).
    let is : longer f g ≡ f = ap (λ (c : Bool). if c then f else g) t.0 in
    (subst (IsFront f) (sym is) ([], sym (append-nil f)), subst (IsFront g) (sym is) (front_in f g h a b t.1)))
    (λ (t : (nat_le (length g) (length f) ≡ false) × (length f < length g)).
    let is : longer f g ≡ g = ap (λ (c : Bool). if c then f else g) t.0 in
    (subst (IsFront f) (sym is) (front_in g f h b a (omega arith)), subst (IsFront g) (sym is) ([], sym (append-nil g))))
    (leb_tells (length g) (length f))

front_all : (f h : History) → IsFront f h → length h ≤ length f → f ≡ h
front_all f h t le = sym (t.1 ∙ ap (λ (r : History). f ++ r) (none-left t.0 (omega (arith, ap (length {A = Settle}) t.1, length-append f t.0))) ∙ append-nil f)
  where
    none-left : (r : History) → length r ≡ 0 → r ≡ []
    none-left [] e = refl
    none-left (x ∷ r) e = absurd (omega arith)

longer_all : (f g h : History) → IsFront f h → IsFront g h → (f ≡ h) ⊎ (g ≡ h) → longer f g ≡ h
longer_all f g h a b one =
    let j = joined_fronts f g h a b in
    let r = longer_cases (λ (l : History). IsFront l h) f g a b in
    front_all (longer f g) h r (⊎_elim
    (λ (e : f ≡ h). omega (arith, ap (length {A = Settle}) e, ap (length {A = Settle}) j.0.1, length-append f j.0.0))
    (λ (e : g ≡ h). omega (arith, ap (length {A = Settle}) e, ap (length {A = Settle}) j.1.1, length-append g j.1.0)) one)

join_whole : (views : List View) (id : ℕ) (v : View) (other : ℕ) (w : View) (log : History) → get_elem? views id ≡ some v → get_elem? views other ≡ some w → ¬ (other ≡ id)
    → IsFront v.seen log → IsFront w.seen log → SeenBySome views log → SeenBySome (set (set views id (both v w)) other spent) log
join_whole views id v other w log me was apart mine theirs whole =
    let b : View = both v w in
    let here : get_elem? (set (set views id b) other spent) id ≡ some b = set_else (set views id b) other id spent (λ e. apart (sym e)) ∙ set_at views id v b me in
    dite (ℕ_discrete whole.0 id)
    (λ same. (id, b, here, longer_all v.seen w.seen log mine theirs (inl (ap (λ (x : View). x.seen) (some-injective v whole.1 (sym me ∙ ap (get_elem? views) (sym same) ∙ whole.2)) ∙ whole.3))))
    (λ ne. dite (ℕ_discrete whole.0 other)
    (λ same. (id, b, here, longer_all v.seen w.seen log mine theirs (inr (ap (λ (x : View). x.seen) (some-injective w whole.1 (sym was ∙ ap (get_elem? views) (sym same) ∙ whole.2)) ∙ whole.3))))
    (λ no. (whole.0, whole.1, set_else (set views id b) other whole.0 spent no ∙ set_else views id whole.0 b ne ∙ whole.2, whole.3)))

pub join_allowed : (p : List PlannedDevice) (id : ℕ) (v : View) (other : ℕ) (w : View) → v.live ≡ true → w.flight ≡ None → Joins (Holds p) id v other w (both v w) spent
join_allowed p id v other w live idle s k me apart there =
    let b : View = both v w in
    let mid : List View = set s.views id b in
    let fit : Fits p k.log s.words v = k.fits id v me in
    let was : get_elem? s.views other ≡ some w = ⊎_elim (λ (t : (other ≡ id) × (b ≡ w)). absurd (apart t.0)) (λ (t : (other ≢ id) × (get_elem? s.views other ≡ some w)). t.1) (at_set s.views id other b w there) in
    let theirs : Fits p k.log s.words w = k.fits other w was in
    let ends = joined_fronts v.seen w.seen k.log fit.seen theirs.seen in
    let none-flies : (d : ℕ) → flies d w ≡ 0 = λ d. ap (λ (o : Option Flight). flies_in o d) idle in
    let fit_both : Fits p k.log s.words b = record {
      plan_is = fit.plan_is;
      seen = longer_cases (λ (f : History). IsFront f k.log) v.seen w.seen fit.seen theirs.seen;
      told = shorter_cases (λ (f : History). IsFront f k.log) v.seen w.seen fit.seen theirs.seen;
      mine = λ d out. omega (arith, times-append d v.mine w.mine, fit.mine d (none_in_front v.seen b.seen d ends.0 out), theirs.mine d (none_in_front w.seen b.seen d ends.1 out));
      claimed = λ d x a. ⊎_elim (λ t. fit.claimed d x t) (λ t. theirs.claimed d x t) (among_append v.claimed w.claimed d x a);
      retried = λ d a. ⊎_elim (λ (t : Among v.claimed d 3). fit.retried d t) (λ (t : Among w.claimed d 3). theirs.retried d t) (among_append v.claimed w.claimed d 3 a);
      passed = λ d a. ⊎_elim (λ t. fit.passed d t) (λ t. theirs.passed d t) (among_append v.passed w.passed d 0 a);
      flight = λ f e. let r = fit.flight f e in record {
        within = r.within;
        at = r.at;
        word = r.word;
        matched = r.matched;
        bound = λ t x. front_outcome v.seen b.seen t Bound ends.0 (r.bound t x);
        missed = r.missed;
        retried = r.retried;
      };
      begun = λ f e. among_left v.claimed w.claimed f.device (claimed_word f.again) (fit.begun f e);
    } in
    let fit_blank : Fits p k.log s.words spent = record {
      plan_is = λ e. absurd (cc);
      seen = (k.log, refl);
      told = (k.log, refl);
      mine = λ d _. refl;
      claimed = λ d x a. absurd (not-among d x a);
      retried = λ d a. absurd (not-among d 3 a);
      passed = λ d a. absurd (not-among d 0 a);
      flight = λ f e. absurd (cc);
      begun = λ f e. absurd (cc);
    } in
    record {
      opening = k.opening;
      log = k.log;
      lawful = k.lawful;
      later = k.later;
      opened = λ j u e l. ⊎_elim
          (λ (t : (j ≡ other) × (spent ≡ u)). let off : false ≡ true = ap (λ (x : View). x.live) t.1 ∙ l in absurd (cc))
          (λ (t : (j ≢ other) × (get_elem? mid j ≡ some u)). opened_set s.views k.opening id v b me (refl, refl) k.opened j u t.1 l)
          (at_set mid other j spent u e);
      seats = shares_joined s.views id v other w me there was live k.seats;
      whole = join_whole s.views id v other w k.log me was (λ x. apart x) fit.seen theirs.seen k.whole;
      wide = k.wide;
      words_tell = λ d lt. let x = k.words_tell d lt in record {
        small = x.small;
        settled = x.settled;
        flown = omega (arith, total-set (flies d) s.views id v b me, total-set (flies d) mid other w spent there, none-flies d, x.flown);
        begun = omega (arith, total-set (claims d 0) s.views id v b me, total-set (claims d 0) mid other w spent there, pairs-append d 0 v.claimed w.claimed, x.begun);
        retried = omega (arith, total-set (claims d 3) s.views id v b me, total-set (claims d 3) mid other w spent there, pairs-append d 3 v.claimed w.claimed, x.retried);
        unmatched = x.unmatched;
        matched = x.matched;
        woken = x.woken;
        waiting = λ e all. omega (arith, total-set (owes d) s.views id v b me, total-set (owes d) mid other w spent there, times-append d v.owed w.owed, x.waiting e all);
      };
      owned = λ d. omega (arith, total-set (λ (x : View). times d x.mine) s.views id v b me, total-set (λ (x : View). times d x.mine) mid other w spent there, times-append d v.mine w.mine, k.owned d);
      fits = λ j u e. ⊎_elim
          (λ (t : (j ≡ other) × (spent ≡ u)). subst (Fits p k.log s.words) t.1 fit_blank)
          (λ (t : (j ≢ other) × (get_elem? mid j ≡ some u)). ⊎_elim
          (λ (y : (j ≡ id) × (b ≡ u)). subst (Fits p k.log s.words) y.1 fit_both)
          (λ (y : (j ≢ id) × (get_elem? s.views j ≡ some u)). k.fits j u y.1)
          (at_set s.views id j b u t.1))
          (at_set mid other j spent u e);
    }

pub fronts_of_both : (f g h : History) → IsFront (longer f g) h → IsFront (shorter f g) h → IsFront f h × IsFront g h
fronts_of_both f g h a b =
    ⊎_elim
    (λ (t : (nat_le (length g) (length f) ≡ true) × (length g ≤ length f)).
    (subst (λ (l : History). IsFront l h) (ap (λ (c : Bool). if c then f else g) t.0) a, subst (λ (l : History). IsFront l h) (ap (λ (c : Bool). if c then g else f) t.0) b))
    (λ (t : (nat_le (length g) (length f) ≡ false) × (length f < length g)).
    (subst (λ (l : History). IsFront l h) (ap (λ (c : Bool). if c then g else f) t.0) b, subst (λ (l : History). IsFront l h) (ap (λ (c : Bool). if c then f else g) t.0) a))
    (leb_tells (length g) (length f))

get_elem_one : (v u : View) (j : ℕ) → get_elem? (v ∷ []) j ≡ some u → v ≡ u
get_elem_one v u zero e = some-injective v u e
get_elem_one v u (suc j) e = absurd (some-ne-none u (sym e))

pub opening_holds : (core : CoreValue) (words : List ℕ) → AreFirst core words → IsBusHistory core.plan core.state.history
    → ((d : ℕ) → is_settled core.state.history d ≡ true → was_begun core.state d ≡ true) → Kept core.plan words (opener core ∷ [])
opening_holds core words first lawful begun =
    let h : History = core.state.history in
    record {
      opening = opening_of core.state;
      log = h;
      lawful = lawful;
      later = front_whole h;
      opened = λ j u e _. ap (λ (x : View). x.opening) (sym (get_elem_one (opener core) u j e));
      seats = record {
        halvings = 0;
        each = λ j u e. subst (HasShare 0) (get_elem_one (opener core) u j e) (inr (refl, omega arith, omega arith));
        whole = refl;
      };
      whole = (0, opener core, refl, refl);
      wide = omega (arith, first.0);
      words_tell = λ d lt. subst (Tells core.plan (opening_of core.state) h (opener core ∷ []) d) (sym (first.1 d lt)) (opening_tells core d lawful begun);
      owned = λ d. omega arith;
      fits = λ j u e. subst (Fits core.plan h words) (get_elem_one (opener core) u j e) record {
        plan_is = λ _. refl;
        seen = front_whole h;
        told = (h, refl);
        mine = λ d _. refl;
        claimed = λ d w a. absurd (not-among d w a);
        retried = λ d a. absurd (not-among d 3 a);
        passed = λ d a. absurd (not-among d 0 a);
        flight = λ f e'. absurd (cc);
        begun = λ f e'. absurd (cc);
      };
    }

-- where the first seat is the only one, the rule leaves one list of words
opening_pins : (core : CoreValue) (v : View) → v ≡ opener core → IsBusHistory core.plan core.state.history → (words : List ℕ) → Kept core.plan words (v ∷ []) → AreFirst core words
opening_pins core v is lawful words kept =
    let k : Kept core.plan words (opener core ∷ []) = subst (λ (x : View). Kept core.plan words (x ∷ [])) is kept in
    let first : opener core ≡ k.whole.1 = get_elem_one (opener core) k.whole.1 k.whole.0 k.whole.2 in
    let log-is : k.log ≡ core.state.history = sym k.whole.3 ∙ ap (λ (x : View). x.seen) (sym first) in
    let opening-is : k.opening ≡ opening_of core.state = sym (k.opened 0 (opener core) refl refl) in
    let T : ℕ → Opening → History → Type 0 = λ d o h. Tells core.plan o h (opener core ∷ []) d (slice_index words d) in (
      omega (arith, k.wide),
      λ d lt. opening_only core d (slice_index words d) lawful (subst (λ (h : History). T d (opening_of core.state) h) log-is (subst (λ (o : Opening). T d o k.log) opening-is (k.words_tell d lt))),
    )

pub opens_as : (core : CoreValue) (v : View) → v ≡ opener core → IsBusHistory core.plan core.state.history
    → ((d : ℕ) → is_settled core.state.history d ≡ true → was_begun core.state d ≡ true) → OpensAs core v
opens_as core v is lawful begun words = (
  opening_pins core v is lawful words,
  λ first. subst (λ (x : View). Kept core.plan words (x ∷ [])) (sym is) (opening_holds core words first lawful begun),
)

in_front : (f h : History) (x : Settle) → IsFront f h → Stands f x → Stands h x
in_front f h x t there = subst (λ (l : History). Stands l x) (sym t.1) (longer_stands f t.0 there.0 there.1)
  where
    longer_stands : (f g : History) (i : ℕ) → slice_get f i ≡ Some x → Stands (f ++ g) x
    longer_stands [] g i e = absurd (cc)
    longer_stands (y ∷ f) g zero e = (0, e)
    longer_stands (y ∷ f) g (suc i) e = let t = longer_stands f g i e in (suc t.0, t.1)

of_devices-in : (mine : List ℕ) (h : History) (x : Settle) (i : ℕ) → slice_get (of_devices mine h) i ≡ Some x → Stands h x × (times x.device mine ≢ 0)
of_devices-in mine [] x i e = absurd (cc)
of_devices-in mine (y ∷ h) x i e = dite (ℕ_discrete (times y.device mine) 0)
    (λ none-mine.
    let is : of_devices mine (y ∷ h) ≡ of_devices mine h = ap (λ (b : Bool). if b then of_devices mine h else (y ∷ of_devices mine h)) (eq-eqb (times y.device mine) 0 none-mine) in
    let t = of_devices-in mine h x i (subst (λ (l : History). slice_get l i ≡ Some x) is e) in ((suc t.0.0, t.0.1), t.1))
    (λ some-mine.
    let is : of_devices mine (y ∷ h) ≡ y ∷ of_devices mine h = ap (λ (b : Bool). if b then of_devices mine h else (y ∷ of_devices mine h)) (ne_eqb (times y.device mine) 0 some-mine) in
    at (λ k d. of_devices-in mine h x k d) some-mine i (subst (λ (l : History). slice_get l i ≡ Some x) is e))
  where
    at : ((k : ℕ) → slice_get (of_devices mine h) k ≡ Some x → Stands h x × (times x.device mine ≢ 0)) → times y.device mine ≢ 0 → (k : ℕ) → slice_get (y ∷ of_devices mine h) k ≡ Some x → Stands (y ∷ h) x × (times x.device mine ≢ 0)
    at more some-mine zero d = let same : y ≡ x = cc in ((0, d), subst (λ (z : Settle). times z.device mine ≢ 0) same some-mine)
    at more some-mine (suc k) d = let t = more k d in ((suc t.0.0, t.0.1), t.1)

of_devices-has : (mine : List ℕ) (h : History) (x : Settle) (i : ℕ) → slice_get h i ≡ Some x → times x.device mine ≢ 0 → Stands (of_devices mine h) x
of_devices-has mine [] x i e some-mine = absurd (cc)
of_devices-has mine (y ∷ h) x zero e some-mine =
    let same : y ≡ x = cc in
    let is : of_devices mine (y ∷ h) ≡ y ∷ of_devices mine h = ap (λ (b : Bool). if b then of_devices mine h else (y ∷ of_devices mine h)) (ne_eqb (times y.device mine) 0 (subst (λ (z : Settle). times z.device mine ≢ 0) (sym same) some-mine)) in
    subst (λ (l : History). Stands l x) (sym is) (0, e)
of_devices-has mine (y ∷ h) x (suc i) e some-mine =
    let t = of_devices-has mine h x i e some-mine in
    dite (ℕ_discrete (times y.device mine) 0)
    (λ none-mine. subst (λ (l : History). Stands l x) (sym (ap (λ (b : Bool). if b then of_devices mine h else (y ∷ of_devices mine h)) (eq-eqb (times y.device mine) 0 none-mine))) t)
    (λ yes. subst (λ (l : History). Stands l x) (sym (ap (λ (b : Bool). if b then of_devices mine h else (y ∷ of_devices mine h)) (ne_eqb (times y.device mine) 0 yes))) (suc t.0, t.1))

more_made_of : (mine all : List ℕ) (f h : History) → IsFront f h → ((d : ℕ) → times d mine ≢ 0 → times d all ≢ 0) → (x : Settle) → Stands (of_devices mine f) x → Stands (of_devices all h) x
more_made_of mine all f h front more x there =
    let t = of_devices-in mine f x there.0 there.1 in
    let u = in_front f h x front t.0 in
    of_devices-has all h x u.0 u.1 (more x.device t.1)

pub joined_told : (v w x : View) (log : History) → x ≡ both v w → IsBusHistory v.plan log → IsFront (longer v.seen w.seen) log → IsFront (shorter v.seen w.seen) log → JoinedBy v w x
joined_told v w x log is lawful seen told =
    let f = fronts_of_both v.seen w.seen log seen told in
    let j = joined_fronts v.seen w.seen log f.0 f.1 in
    subst (JoinedBy v w) (sym is) record {
      view = refl;
      left = j.0;
      right = j.1;
      lawful = lawful_front v.plan [] (longer v.seen w.seen) seen.0 (subst (IsBusHistory v.plan) seen.1 lawful);
      made_left = more_made_of v.mine (v.mine ++ w.mine) v.seen (longer v.seen w.seen) j.0 (λ d some-mine e. some-mine (omega (arith, times-append d v.mine w.mine)));
      made_right = more_made_of w.mine (v.mine ++ w.mine) w.seen (longer v.seen w.seen) j.1 (λ d some-mine e. some-mine (omega (arith, times-append d v.mine w.mine)));
    }
