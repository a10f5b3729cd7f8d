-- Components are given device by device.
use Rattle.std.proofs.Common.{◌≡◌, ◌⊎◌, inl, inr, ℕ, ◌+◌, ◌<◌, Bool, true, false, List, [], ◌∷◌, length, get_or, set, refl, sym, ap, ◌∙◌, subst, arith, length-set}
use Rattle.std.specs.Prelude.{All, ◌==◌, ◌||◌, ◌&&◌, if◌then◌else◌}
use Rattle.std.proofs.lemmas.Bool.{eq-eqb, ne_eqb, cases_eq}
use Rattle.std.proofs.lemmas.List.{get_or-set_same, get_or-set_other}
use Rattle.std.proofs.lemmas.List.Elements.{All-head, All-tail}
use Rattle.bus_plan.specs.Plan.{PlannedDevice}
use Rattle.bus_plan.specs.declared.reach.direction.Direction.{Direction}
use Rattle.bus_plan.specs.declared.reach.direction.Direction.TheVariants.{Suppliers, Consumers}
use Rattle.bus_plan.specs.Reach.Components.{TakeEachOther, AreComponents}
use Rattle.bus_plan.specs.Reach.Reached.{is_in}
use Rattle.bus_plan.specs.Reach.Private.Walk.{IsWalked, AreStamped}
use Rattle.bus_plan.specs.Reach.Private.Classes.{AreClasses}
use Rattle.bus_plan.specs.Reach.Private.Given.{with_component, with_components, AreGiven, IsGiven}
use Rattle.bus_plan.proofs.ReachLemmas.ClassLemmas.{found_both}
use Rattle.bus_plan.proofs.ReachLemmas.InLemmas.{all_in}
use Rattle.bus_plan.proofs.ReachLemmas.TakesLemmas.{each_other, each_other_back, each_other_on}

module _ (stamps : List ℕ) (stamp component : ℕ) where
  pub with_long : (ds components : List ℕ) → length (with_components stamps stamp component components ds) ≡ length components
  with_long [] components = refl
  with_long (d ∷ ds) components = with_long ds (with_component stamps stamp component components d) ∙ by (get_or stamps d 0 == stamp) where
    by : (t : Bool) → length (if t then set components d component else components) ≡ length components
    by true = length-set components d component
    by false = refl

  one_given : (components : List ℕ) (x d : ℕ) → x < length components
      → get_or (with_component stamps stamp component components x) d 0 ≡ (if (x == d) && (get_or stamps d 0 == stamp) then component else get_or components d 0)
  one_given components x d within = by (get_or stamps x 0 == stamp) refl (cases_eq d x) where
    by : (t : Bool) → (get_or stamps x 0 == stamp) ≡ t → (d ≡ x) ⊎ (d ≡ x → ⊥)
        → get_or (if t then set components x component else components) d 0 ≡ (if (x == d) && (get_or stamps d 0 == stamp) then component else get_or components d 0)
    by true is (inl same) =
        ap (λ (y : ℕ). get_or (set components x component) y 0) same ∙ get_or-set_same components x component 0 within
        ∙ sym (ap (λ (t : Bool). if t && (get_or stamps d 0 == stamp) then component else get_or components d 0) (eq-eqb x d (sym same))
        ∙ ap (λ (t : Bool). if t then component else get_or components d 0) (ap (λ (y : ℕ). get_or stamps y 0 == stamp) same ∙ is))
    by false is (inl same) =
        sym (ap (λ (t : Bool). if t && (get_or stamps d 0 == stamp) then component else get_or components d 0) (eq-eqb x d (sym same))
        ∙ ap (λ (t : Bool). if t then component else get_or components d 0) (ap (λ (y : ℕ). get_or stamps y 0 == stamp) same ∙ is))
    by true is (inr other) =
        get_or-set_other components x d component 0 other
        ∙ sym (ap (λ (t : Bool). if t && (get_or stamps d 0 == stamp) then component else get_or components d 0) (ne_eqb x d (λ e. other (sym e))))
    by false is (inr other) = sym (ap (λ (t : Bool). if t && (get_or stamps d 0 == stamp) then component else get_or components d 0) (ne_eqb x d (λ e. other (sym e))))

  merged : (a b s : Bool) (u v : ℕ) → (if b && s then u else (if a && s then u else v)) ≡ (if (a || b) && s then u else v)
  merged true true true u v = refl
  merged true true false u v = refl
  merged true false true u v = refl
  merged true false false u v = refl
  merged false true true u v = refl
  merged false true false u v = refl
  merged false false true u v = refl
  merged false false false u v = refl

  pub given_at : (ds components : List ℕ) → All (λ x. x < length components) ds → (d : ℕ)
      → get_or (with_components stamps stamp component components ds) d 0 ≡ (if is_in ds d && (get_or stamps d 0 == stamp) then component else get_or components d 0)
  given_at [] components known d = refl
  given_at (x ∷ ds) components known d =
      let here : x < length components = All-head (λ y. y < length components) x ds known in
      let long : length (with_component stamps stamp component components x) ≡ length components = with_long (x ∷ []) components in
      given_at ds (with_component stamps stamp component components x)
      (subst (λ (n : ℕ). All (λ y. y < n) ds) (sym long) (All-tail (λ y. y < length components) x ds known)) d
      ∙ ap (λ (c : ℕ). if is_in ds d && (get_or stamps d 0 == stamp) then component else c) (one_given components x d here)
      ∙ merged (x == d) (is_in ds d) (get_or stamps d 0 == stamp) component (get_or components d 0)

module _ (plan : List PlannedDevice) where
  pub known_in : (direction : Direction) (classes : List ℕ) (root : ℕ) (found components : List ℕ) → length components ≡ length plan
      → IsWalked direction plan classes root found → All (λ d. d < length components) found
  known_in direction classes root found components long w =
      subst (λ (n : ℕ). All (λ d. d < n) found) (sym long) (all_in (λ d. d < length plan) found (λ d e. (w.each d e).0))

  pub is_given : (classes : List ℕ) → AreClasses plan classes → (stamps components taken taking : List ℕ) (place : ℕ)
      → length stamps ≡ length plan → length components ≡ length plan → All (λ d. d < length components) taking
      → AreStamped (place + 1) stamps taken → IsWalked Suppliers plan classes place taken → IsWalked Consumers plan classes place taking
      → IsGiven plan components (with_components stamps (place + 1) place components taking) place
  is_given classes are stamps components taken taking place long long_components known stamped ahead behind = record {
    long = with_long stamps (place + 1) place taking components;
    test = λ d. is_in taking d && is_in taken d;
    exact = λ d within. found_both plan classes are place taken taking ahead behind d;
    value = λ d within.
        given_at stamps (place + 1) place taking components known d
        ∙ ap (λ (t : Bool). if is_in taking d && t then place else get_or components d 0) (stamped d (subst (λ (n : ℕ). d < n) (sym long) within));
  }

  pub given_skipped : (components : List ℕ) (place : ℕ) → place < length plan → get_or components place 0 < place → AreGiven plan components place → AreGiven plan components (place + 1)
  given_skipped components place known before g = record {
    long = g.long;
    sound = g.sound;
    settled = λ a b below in_a in_b e. by a b below in_a in_b e (cases_eq a place);
  }
    where
      first : ℕ
      first = get_or components place 0

      of_place : (b : ℕ) → b < length plan → TakeEachOther plan place b → get_or components b 0 ≡ get_or components place 0
      of_place b in_b e =
          let sound : (first < length plan) × TakeEachOther plan first place = g.sound place known in
          g.settled first b before sound.0 in_b (each_other_on plan first place b sound.1 e) ∙ sym (g.settled first place before sound.0 known sound.1)

      by : (a b : ℕ) → a < place + 1 → a < length plan → b < length plan → TakeEachOther plan a b → (a ≡ place) ⊎ (a ≡ place → ⊥) → get_or components b 0 ≡ get_or components a 0
      by a b below in_a in_b e (inl same) =
          subst (λ (x : ℕ). get_or components b 0 ≡ get_or components x 0) (sym same) (of_place b in_b (subst (λ (x : ℕ). TakeEachOther plan x b) same e))
      by a b below in_a in_b e (inr other) = g.settled a b (omega arith) in_a in_b e

  pub given_more : (old new : List ℕ) (place : ℕ) → place < length plan → AreGiven plan old place → IsGiven plan old new place → AreGiven plan new (place + 1)
  given_more old new place known g is = record {
    long = is.long ∙ g.long;
    sound = λ d within. sound_at d within (is.test d) refl;
    settled = λ a b below in_a in_b e. by a b below in_a in_b e (is.test a) (is.test b) refl refl;
  }
    where
      sound_at : (d : ℕ) → d < length plan → (t : Bool) → is.test d ≡ t → (get_or new d 0 < length plan) × TakeEachOther plan (get_or new d 0) d
      sound_at d within true on =
          let at : get_or new d 0 ≡ place = is.value d within ∙ ap (λ (t : Bool). if t then place else get_or old d 0) on in
          (subst (λ (c : ℕ). c < length plan) (sym at) known, subst (λ (c : ℕ). TakeEachOther plan c d) (sym at) ((is.exact d within).0 on))
      sound_at d within false off =
          let at : get_or new d 0 ≡ get_or old d 0 = is.value d within ∙ ap (λ (t : Bool). if t then place else get_or old d 0) off in
          (subst (λ (c : ℕ). c < length plan) (sym at) (g.sound d within).0, subst (λ (c : ℕ). TakeEachOther plan c d) (sym at) (g.sound d within).1)

      value_on : (d : ℕ) → d < length plan → is.test d ≡ true → get_or new d 0 ≡ place
      value_on d within on = is.value d within ∙ ap (λ (t : Bool). if t then place else get_or old d 0) on

      value_off : (d : ℕ) → d < length plan → is.test d ≡ false → get_or new d 0 ≡ get_or old d 0
      value_off d within off = is.value d within ∙ ap (λ (t : Bool). if t then place else get_or old d 0) off

      no_two : (t : Bool) → t ≡ true → t ≡ false → ⊥
      no_two true on off = let bad : true ≡ false = off in cc bad
      no_two false on off = let bad : false ≡ true = on in cc bad

      by : (a b : ℕ) → a < place + 1 → a < length plan → b < length plan → TakeEachOther plan a b → (s t : Bool) → is.test a ≡ s → is.test b ≡ t → get_or new b 0 ≡ get_or new a 0
      by a b below in_a in_b e true true on_a on_b = value_on b in_b on_b ∙ sym (value_on a in_a on_a)
      by a b below in_a in_b e true false on_a off_b =
          absurd (no_two (is.test b) ((is.exact b in_b).1 (each_other_on plan place a b ((is.exact a in_a).0 on_a) e)) off_b)
      by a b below in_a in_b e false true off_a on_b =
          absurd (no_two (is.test a) ((is.exact a in_a).1 (each_other_on plan place b a ((is.exact b in_b).0 on_b) (each_other_back plan a b e))) off_a)
      by a b below in_a in_b e false false off_a off_b = of (cases_eq a place) where
        of : (a ≡ place) ⊎ (a ≡ place → ⊥) → get_or new b 0 ≡ get_or new a 0
        of (inl same) = absurd (no_two (is.test a) ((is.exact a in_a).1 (subst (λ (x : ℕ). TakeEachOther plan place x) (sym same) (each_other plan place))) off_a)
        of (inr other) = value_off b in_b off_b ∙ g.settled a b (omega arith) in_a in_b e ∙ sym (value_off a in_a off_a)

  pub given_none : (components : List ℕ) → length components ≡ length plan → ((d : ℕ) → d < length plan → get_or components d 0 ≡ d) → AreGiven plan components 0
  given_none components long same = record {
    long = long;
    sound = λ d within.
        (subst (λ (c : ℕ). c < length plan) (sym (same d within)) within, subst (λ (c : ℕ). TakeEachOther plan c d) (sym (same d within)) (each_other plan d));
    settled = λ a b below in_a in_b e. absurd (omega arith);
  }

  pub given_all : (components : List ℕ) → AreGiven plan components (length plan) → AreComponents plan components
  given_all components g = record {
    long = g.long;
    same = λ a b in_a in_b. (
      (λ e. each_other_on plan a (get_or components a 0) b (each_other_back plan (get_or components a 0) a (g.sound a in_a).1)
          (subst (λ (c : ℕ). TakeEachOther plan c b) (sym e) (g.sound b in_b).1)),
      λ e. sym (g.settled a b in_a in_a in_b e),
    );
  }
