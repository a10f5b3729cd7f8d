-- The longest front that passes a test.
use Rattle.std.proofs.Common.{◌≡◌, ℕ, zero, suc, ◌+◌, ◌<◌, ◌≤◌, Bool, true, false, leb, List, [], ◌∷◌, length, take, drop, get_or, Option, Some, None, refl, sym, ap, subst, ◌∙◌, arith, add-one, inl, inr, ◌⊎◌}
use Rattle.std.specs.Prelude.{◌&&◌, ◌||◌, option_map}
use Rattle.std.specs.List.{list_all}
use Rattle.std.proofs.Math.Seq.{drop-cons}
use Rattle.std.proofs.lemmas.List.{drop_all, take_all, length-take}
use Rattle.std.proofs.lemmas.List.Folds.{list_all_kept, list_all_more}
use Rattle.std.proofs.lemmas.Bool.{and_from, and_right, cases_lt, le-leb, lt-leb}
use Rattle.dt_text.specs.Lexeme.Fronts.{Front, IsFront, is_empty, at_most, ends}
use Rattle.dt_text.specs.Lexeme.Families.{IsLongest, Longest}

-- ---- tests

pub and_first : (a b : Bool) → (a && b) ≡ true → a ≡ true
and_first true b e = refl
and_first false b e = absurd cc

pub and_second : (a b : Bool) → (a && b) ≡ true → b ≡ true
and_second true b e = e
and_second false b e = absurd cc

-- ---- a byte in front

-- i bytes in front
abbrev pub shifted : ℕ → Option ℕ → Option ℕ
shifted i o = option_map (λ n. i + n) o

pub front_same : (b a : List ℕ → Bool) (s : List ℕ) (n : ℕ) → ((m : ℕ) → b (take m s) ≡ a (take m s)) → IsFront a s n → IsFront b s n
front_same b a s n same h = record { within = h.within; is = same n ∙ h.is; longest = λ m lt le. same m ∙ h.longest m lt le }

pub front_same_any : (b a : List ℕ → Bool) (s : List ℕ) (r : Option ℕ) → ((m : ℕ) → b (take m s) ≡ a (take m s)) → Front a s r → Front b s r
front_same_any b a s None same h = λ m le. same m ∙ h m le
front_same_any b a s (Some n) same h = front_same b a s n same h

pub front_some : (b a : List ℕ → Bool) (c : ℕ) (t : List ℕ) (n : ℕ) → ((u : List ℕ) → b (c ∷ u) ≡ a u) → IsFront a t n → IsFront b (c ∷ t) (suc n)
front_some b a c t n same h = record { within = omega (arith, h.within); is = same (take n t) ∙ h.is; longest = go }
  where
    go : (m : ℕ) → suc n < m → m ≤ length (c ∷ t) → b (take m (c ∷ t)) ≡ false
    go zero lt le = absurd (omega arith)
    go (suc m) lt le = same (take m t) ∙ h.longest m (omega arith) (omega arith)

pub front_more : (b a : List ℕ → Bool) (c : ℕ) (t : List ℕ) (r : Option ℕ) → b [] ≡ false → ((u : List ℕ) → b (c ∷ u) ≡ a u) → Front a t r → Front b (c ∷ t) (shifted 1 r)
front_more b a c t None empty same h = go
  where
    go : (m : ℕ) → m ≤ length (c ∷ t) → b (take m (c ∷ t)) ≡ false
    go zero le = empty
    go (suc m) le = same (take m t) ∙ h m (omega arith)
front_more b a c t (Some n) empty same h =
    let e : 1 + n ≡ suc n = omega arith in
    rw e (front_some b a c t n same h)

pub front_one : (b : List ℕ → Bool) (c : ℕ) (t : List ℕ) → ((u : List ℕ) → b (c ∷ u) ≡ is_empty u) → IsFront b (c ∷ t) 1
front_one b c t same = record { within = omega arith; is = same []; longest = go t }
  where
    go : (t : List ℕ) (m : ℕ) → 1 < m → m ≤ length (c ∷ t) → b (take m (c ∷ t)) ≡ false
    go t zero lt le = absurd (omega arith)
    go t (suc zero) lt le = absurd (omega arith)
    go [] (suc (suc m)) lt le = absurd (omega arith)
    go (d ∷ t) (suc (suc m)) lt le = same (d ∷ take m t)

pub front_none : (b : List ℕ → Bool) (c : ℕ) (t : List ℕ) → b [] ≡ false → ((u : List ℕ) → b (c ∷ u) ≡ false) → Front b (c ∷ t) None
front_none b c t empty same zero le = empty
front_none b c t empty same (suc m) le = same (take m t)

pub front_empty : (b : List ℕ → Bool) → b [] ≡ false → Front b [] None
front_empty b empty zero le = empty
front_empty b empty (suc m) le = absurd (omega arith)

-- ---- a loop over the bytes

-- What is so of the rest by the second test is so of the whole by the first, i bytes further.
pub record Leads (b a : List ℕ → Bool) (s : List ℕ) (i : ℕ) : Type 0 where
  pub on : (r : Option ℕ) → Front a (drop i s) r → Front b s (shifted i r)

pub leads_start : (b : List ℕ → Bool) (s : List ℕ) → Leads b b s 0
leads_start b s = record { on = go }
  where
    go : (r : Option ℕ) → Front b (drop 0 s) r → Front b s (shifted 0 r)
    go None h = h
    go (Some n) h = let e : 0 + n ≡ n = omega arith in rw e h

split_at : (s : List ℕ) (i : ℕ) → i < length s → drop i s ≡ get_or s i 0 ∷ drop (i + 1) s
split_at s i lt = rw (add-one) (drop-cons s i 0 lt)

pub leads_step : (b a a' : List ℕ → Bool) (s : List ℕ) (i : ℕ) → i < length s → a [] ≡ false → ((u : List ℕ) → a (get_or s i 0 ∷ u) ≡ a' u) → Leads b a s i → Leads b a' s (i + 1)
leads_step b a a' s i lt empty same c = record { on = go }
  where
    go : (r : Option ℕ) → Front a' (drop (i + 1) s) r → Front b s (shifted (i + 1) r)
    go None h = c.on None (subst (λ (l : List ℕ). Front a l None) (sym (split_at s i lt)) (front_more a a' (get_or s i 0) (drop (i + 1) s) None empty same h))
    go (Some n) h =
        let e : i + (1 + n) ≡ i + 1 + n = omega arith in
        subst (λ (k : ℕ). Front b s (Some k)) e (c.on (Some (1 + n)) (subst (λ (l : List ℕ). Front a l (Some (1 + n))) (sym (split_at s i lt)) (front_more a a' (get_or s i 0) (drop (i + 1) s) (Some n) empty same h)))

-- at the byte that ends it
pub leads_here : (b a : List ℕ → Bool) (s : List ℕ) (i : ℕ) → i < length s → ((u : List ℕ) → a (get_or s i 0 ∷ u) ≡ is_empty u) → Leads b a s i → IsFront b s (i + 1)
leads_here b a s i lt same c =
    c.on (Some 1) (subst (λ (l : List ℕ). Front a l (Some 1)) (sym (split_at s i lt)) (front_one a (get_or s i 0) (drop (i + 1) s) same))

-- at a byte that can't stand in it
pub leads_stop : (b a : List ℕ → Bool) (s : List ℕ) (i : ℕ) → i < length s → a [] ≡ false → ((u : List ℕ) → a (get_or s i 0 ∷ u) ≡ false) → Leads b a s i → Front b s None
leads_stop b a s i lt empty same c =
    c.on None (subst (λ (l : List ℕ). Front a l None) (sym (split_at s i lt)) (front_none a (get_or s i 0) (drop (i + 1) s) empty same))

-- at the end of the text
pub leads_over : (b a : List ℕ → Bool) (s : List ℕ) (i : ℕ) → length s ≤ i → a [] ≡ false → Leads b a s i → Front b s None
leads_over b a s i le empty c =
    let e : drop i s ≡ [] = drop_all i s le in
    c.on None (subst (λ (l : List ℕ). Front a l None) (sym e) (front_empty a empty))

-- ---- the same where fronts were found before

-- The longest front is one that was found, but for those further on.
abbrev pub shifted_or : ℕ → Option ℕ → Option ℕ → Option ℕ
shifted_or i found None = found
shifted_or i found (Some n) = Some (i + n)

-- What is so of the rest by the second test is so of the whole by the first, i bytes further, or else by what was found.
pub record LeadsOr (b a : List ℕ → Bool) (s : List ℕ) (i : ℕ) (found : Option ℕ) : Type 0 where
  pub on : (r : Option ℕ) → Front a (drop i s) r → Front b s (shifted_or i found r)

pub leads_or_start : (b : List ℕ → Bool) (s : List ℕ) → LeadsOr b b s 0 None
leads_or_start b s = record { on = go }
  where
    go : (r : Option ℕ) → Front b (drop 0 s) r → Front b s (shifted_or 0 None r)
    go None h = h
    go (Some n) h = let e : 0 + n ≡ n = omega arith in rw e h

pub leads_or_step : (b a a' : List ℕ → Bool) (s : List ℕ) (i : ℕ) (found : Option ℕ) → i < length s → a [] ≡ false → ((u : List ℕ) → a (get_or s i 0 ∷ u) ≡ a' u) → LeadsOr b a s i found → LeadsOr b a' s (i + 1) found
leads_or_step b a a' s i found lt empty same c = record { on = go }
  where
    go : (r : Option ℕ) → Front a' (drop (i + 1) s) r → Front b s (shifted_or (i + 1) found r)
    go None h = c.on None (subst (λ (l : List ℕ). Front a l None) (sym (split_at s i lt)) (front_more a a' (get_or s i 0) (drop (i + 1) s) None empty same h))
    go (Some n) h =
        let e : i + (1 + n) ≡ i + 1 + n = omega arith in
        subst (λ (k : ℕ). Front b s (Some k)) e (c.on (Some (1 + n)) (subst (λ (l : List ℕ). Front a l (Some (1 + n))) (sym (split_at s i lt)) (front_more a a' (get_or s i 0) (drop (i + 1) s) (Some n) empty same h)))

-- at a byte that may end it
front_either : (a a' : List ℕ → Bool) (x : ℕ) (t : List ℕ) (r : Option ℕ) → a' [] ≡ false → ((u : List ℕ) → a (x ∷ u) ≡ (is_empty u || a' u)) → Front a' t r → Front a (x ∷ t) (shifted_or 1 (Some 1) r)
front_either a a' x t r empty same h = go r h
  where
    longer : (k : ℕ) (t : List ℕ) → 0 < k → k ≤ length t → is_empty (take k t) ≡ false
    longer zero t lt le = absurd (omega arith)
    longer (suc k) [] lt le = absurd (omega arith)
    longer (suc k) (d ∷ t) lt le = refl

    over : (m : ℕ) → 1 < m → m ≤ length (x ∷ t) → ((k : ℕ) → m ≡ suc k → a' (take k t) ≡ false) → a (take m (x ∷ t)) ≡ false
    over zero lt le less = absurd (omega arith)
    over (suc m) lt le less =
        let e = longer m t (omega arith) (omega arith) in
        let f = less m refl in
        same (take m t) ∙ rw (e, f) refl

    here : (b : Bool) → b ≡ true → (d : Bool) → (d || b) ≡ true
    here true e true = refl
    here true e false = refl
    here false e d = absurd cc

    go : (r : Option ℕ) → Front a' t r → Front a (x ∷ t) (shifted_or 1 (Some 1) r)
    go None h = record { within = omega arith; is = same []; longest = λ m lt le. over m lt le (λ k e. h k (omega arith)) }
    go (Some n) h =
        let e : 1 + n ≡ suc n = omega arith in
        rw e (record {
          within = omega (arith, h.within);
          is = same (take n t) ∙ here (a' (take n t)) h.is (is_empty (take n t));
          longest = λ m lt le. over m (omega arith) le (λ k f. h.longest k (omega arith) (omega arith));
        })

pub leads_or_either : (b a a' : List ℕ → Bool) (s : List ℕ) (i : ℕ) (found : Option ℕ) → i < length s → a' [] ≡ false → ((u : List ℕ) → a (get_or s i 0 ∷ u) ≡ (is_empty u || a' u)) → LeadsOr b a s i found → LeadsOr b a' s (i + 1) (Some (i + 1))
leads_or_either b a a' s i found lt empty same c = record { on = go }
  where
    back : (r : Option ℕ) → Front a' (drop (i + 1) s) r → Front a (drop i s) (shifted_or 1 (Some 1) r)
    back r h = subst (λ (l : List ℕ). Front a l (shifted_or 1 (Some 1) r)) (sym (split_at s i lt)) (front_either a a' (get_or s i 0) (drop (i + 1) s) r empty same h)

    go : (r : Option ℕ) → Front a' (drop (i + 1) s) r → Front b s (shifted_or (i + 1) (Some (i + 1)) r)
    go None h = c.on (Some 1) (back None h)
    go (Some n) h =
        let e : i + (1 + n) ≡ i + 1 + n = omega arith in
        subst (λ (k : ℕ). Front b s (Some k)) e (c.on (Some (1 + n)) (back (Some n) h))

pub leads_or_here : (b a : List ℕ → Bool) (s : List ℕ) (i : ℕ) (found : Option ℕ) → i < length s → ((u : List ℕ) → a (get_or s i 0 ∷ u) ≡ is_empty u) → LeadsOr b a s i found → IsFront b s (i + 1)
leads_or_here b a s i found lt same c =
    c.on (Some 1) (subst (λ (l : List ℕ). Front a l (Some 1)) (sym (split_at s i lt)) (front_one a (get_or s i 0) (drop (i + 1) s) same))

pub leads_or_over : (b a : List ℕ → Bool) (s : List ℕ) (i : ℕ) (found : Option ℕ) → length s ≤ i → a [] ≡ false → LeadsOr b a s i found → Front b s found
leads_or_over b a s i found le empty c =
    let e : drop i s ≡ [] = drop_all i s le in
    c.on None (subst (λ (l : List ℕ). Front a l None) (sym e) (front_empty a empty))

-- ---- a run of bytes that pass

module _ (p : ℕ → Bool) where
  pub all_more : (s : List ℕ) (i : ℕ) → i < length s → list_all p (take i s) ≡ true → p (get_or s i 0) ≡ true → list_all p (take (i + 1) s) ≡ true
  all_more s i lt h e = list_all_more p s i 0 lt ∙ and_from (list_all p (take i s)) (p (get_or s i 0)) h e

  pub all_fails : (s : List ℕ) (i : ℕ) → i < length s → p (get_or s i 0) ≡ false → (m : ℕ) → i < m → list_all p (take m s) ≡ false
  all_fails s i lt e zero le = absurd (omega arith)
  all_fails s i lt e (suc m) le =
      elim (cases_lt i m) [
        | inl lt' ↦ let k : m + 1 ≡ suc m = omega arith in subst (λ (n : ℕ). list_all p (take n s) ≡ false) k (list_all_kept p s m (all_fails s i lt e m lt'))
        | inr le' ↦ let k : i + 1 ≡ suc m = omega arith in subst (λ (n : ℕ). list_all p (take n s) ≡ false) k (list_all_more p s i 0 lt ∙ and_right (list_all p (take i s)) (p (get_or s i 0)) e)
      ]

  pub all_here : (s : List ℕ) (i : ℕ) → i < length s → p (get_or s i 0) ≡ false → list_all p (take i s) ≡ true → IsFront (list_all p) s i
  all_here s i lt e h = record { within = omega arith; is = h; longest = λ m l k. all_fails s i lt e m l }

  pub all_over : (s : List ℕ) (i : ℕ) → length s ≤ i → list_all p (take i s) ≡ true → IsFront (list_all p) s (length s)
  all_over s i le h = record { within = omega arith; is = ap (list_all p) (take_all (length s) s (omega arith) ∙ sym (take_all i s le)) ∙ h; longest = λ m l k. absurd (omega arith) }

-- ---- at most so many bytes

pub take_within : (m n : ℕ) (s : List ℕ) → m ≤ n → take m (take n s) ≡ take m s
take_within zero n s le = refl
take_within (suc m) zero s le = absurd (omega arith)
take_within (suc m) (suc n) [] le = refl
take_within (suc m) (suc n) (c ∷ s) le = ap (λ (t : List ℕ). c ∷ t) (take_within m n s (omega arith))

capped_same : (cap : ℕ) (b : List ℕ → Bool) (s : List ℕ) (m : ℕ) → m ≤ cap → at_most cap b (take m s) ≡ b (take m (take cap s))
capped_same cap b s m le =
    let e : take m (take cap s) ≡ take m s = take_within m cap s le in
    let f : leb (length (take m s)) cap ≡ true = le-leb _ _ (omega (arith, length-take m s)) in
    rw (e, f) (right (b (take m s)))
  where
    right : (x : Bool) → (x && true) ≡ x
    right true = refl
    right false = refl

capped_long : (cap : ℕ) (b : List ℕ → Bool) (s : List ℕ) (m : ℕ) → cap < m → m ≤ length s → at_most cap b (take m s) ≡ false
capped_long cap b s m lt le = and_right (b (take m s)) (leb (length (take m s)) cap) (lt-leb _ _ (omega (arith, length-take m s)))

capped_else : (cap : ℕ) (b : List ℕ → Bool) (s : List ℕ) (m : ℕ) → m ≤ length s → (m ≤ cap → b (take m (take cap s)) ≡ false) → at_most cap b (take m s) ≡ false
capped_else cap b s m le h =
    elim (cases_lt cap m) [
      | inl lt ↦ capped_long cap b s m lt le
      | inr le' ↦ capped_same cap b s m le' ∙ h le'
    ]

pub capped : (cap : ℕ) (b : List ℕ → Bool) (s : List ℕ) (r : Option ℕ) → Front b (take cap s) r → Front (at_most cap b) s r
capped cap b s None h = λ m le. capped_else cap b s m le (λ small. h m (omega (arith, length-take cap s)))
capped cap b s (Some n) h =
    let w : n ≤ cap = omega (arith, h.within, length-take cap s) in
    record {
      within = omega (arith, h.within, length-take cap s);
      is = capped_same cap b s n w ∙ h.is;
      longest = λ m lt le. capped_else cap b s m le (λ small. h.longest m lt (omega (arith, length-take cap s)));
    }

-- ---- a run with an end

module _ (p q : ℕ → Bool) where
  pub ends_hit : (c : ℕ) (u : List ℕ) → q c ≡ true → ends p q (c ∷ u) ≡ is_empty u
  unfolding ends
  ends_hit c u e = rw e refl

  pub ends_miss : (c : ℕ) (u : List ℕ) → q c ≡ false → p c ≡ false → ends p q (c ∷ u) ≡ false
  unfolding ends
  ends_miss c u e f = rw (e, f) refl

  pub ends_pass : (c : ℕ) (u : List ℕ) → q c ≡ false → p c ≡ true → ends p q (c ∷ u) ≡ ends p q u
  unfolding ends
  ends_pass c u e f = rw (e, f) refl

  pub ends_nil : ends p q [] ≡ false
  unfolding ends
  ends_nil = refl

  -- what ends a run stands at its end
  pub ends_at : (s : List ℕ) (n : ℕ) → n ≤ length s → ends p q (take n s) ≡ true → (i : ℕ) × (n ≡ suc i) × (q (get_or s i 0) ≡ true)
  ends_at s zero le e = absurd (cc (ends_nil))
  ends_at [] (suc n) le e = absurd (omega arith)
  ends_at (c ∷ s) (suc n) le e = go (q c) refl (p c) refl (ends_at s n (omega arith))
    where
      go : (a : Bool) → q c ≡ a → (d : Bool) → p c ≡ d → (ends p q (take n s) ≡ true → (i : ℕ) × (n ≡ suc i) × (q (get_or s i 0) ≡ true)) → (i : ℕ) × (suc n ≡ suc i) × (q (get_or (c ∷ s) i 0) ≡ true)
      go true f d g next = (zero, ap suc (none n s (omega arith) (sym (ends_hit c (take n s) f) ∙ e)), f)
        where
          none : (n : ℕ) (s : List ℕ) → n ≤ length s → is_empty (take n s) ≡ true → n ≡ 0
          none zero s le e = refl
          none (suc n) [] le e = absurd (omega arith)
          none (suc n) (c ∷ s) le e = absurd cc
      go false f true g next =
          let r = next (sym (ends_pass c (take n s) f g) ∙ e) in
          (suc r.0, ap suc r.1, r.2)
      go false f false g next = absurd (cc (ends_miss c (take n s) f g))

  -- A run has one end.
  pub ends_once : (s : List ℕ) (m n : ℕ) → ends p q (take m s) ≡ true → m < n → n ≤ length s → ends p q (take n s) ≡ false
  ends_once s zero n e lt le = absurd (cc (ends_nil))
  ends_once s (suc m) zero e lt le = absurd (omega arith)
  ends_once [] (suc m) (suc n) e lt le = absurd (omega arith)
  ends_once (c ∷ s) (suc m) (suc n) e lt le = go (q c) refl (p c) refl (λ h. ends_once s m n h (omega arith) (omega arith))
    where
      more : (n : ℕ) (s : List ℕ) → 0 < n → n ≤ length s → is_empty (take n s) ≡ false
      more zero s lt le = absurd (omega arith)
      more (suc n) [] lt le = absurd (omega arith)
      more (suc n) (c ∷ s) lt le = refl

      go : (a : Bool) → q c ≡ a → (d : Bool) → p c ≡ d → (ends p q (take m s) ≡ true → ends p q (take n s) ≡ false) → ends p q (c ∷ take n s) ≡ false
      go true f d g next = ends_hit c (take n s) f ∙ more n s (omega arith) (omega arith)
      go false f true g next = ends_pass c (take n s) f g ∙ next (sym (ends_pass c (take m s) f g) ∙ e)
      go false f false g next = ends_miss c (take n s) f g

-- ---- the longest front of a kind

pub kind_more : {K : Type 0} (f g : List ℕ → Option K) (c : ℕ) (t : List ℕ) (k : K) (n : ℕ) → ((u : List ℕ) → f (c ∷ u) ≡ g u) → IsLongest g t k n → IsLongest f (c ∷ t) k (n + 1)
kind_more f g c t k n same h =
    let e : n + 1 ≡ suc n = omega arith in
    rw e (record { within = omega (arith, h.within); is = same (take n t) ∙ h.is; longest = go })
  where
    go : (m : ℕ) → suc n < m → m ≤ length (c ∷ t) → f (take m (c ∷ t)) ≡ None
    go zero lt le = absurd (omega arith)
    go (suc m) lt le = same (take m t) ∙ h.longest m (omega arith) (omega arith)

pub kind_none : {K : Type 0} (f g : List ℕ → Option K) (c : ℕ) (t : List ℕ) → f [] ≡ None → ((u : List ℕ) → f (c ∷ u) ≡ g u) → Longest g t None → Longest f (c ∷ t) None
kind_none f g c t empty same h zero le = empty
kind_none f g c t empty same h (suc m) le = same (take m t) ∙ h m (omega arith)

same_length : {K : Type 0} (f : List ℕ → Option K) (s : List ℕ) (k j : K) (n m : ℕ) → IsLongest f s k n → IsLongest f s j m → n < m → ⊥
same_length f s k j n m h g lt = cc (h.longest m lt g.within, g.is)

some_is : {K : Type 0} (k j : K) → Some k ≡ Some j → k ≡ j
some_is k j e = cc

pub one_longest : {K : Type 0} (f : List ℕ → Option K) (s : List ℕ) (k j : K) (n m : ℕ) → IsLongest f s k n → IsLongest f s j m → (k ≡ j) × (n ≡ m)
one_longest f s k j n m h g = go (cases_lt n m) (cases_lt m n)
  where
    go : (n < m) ⊎ (m ≤ n) → (m < n) ⊎ (n ≤ m) → (k ≡ j) × (n ≡ m)
    go (inl lt) b = absurd (same_length f s k j n m h g lt)
    go (inr le) (inl lt) = absurd (same_length f s j k m n g h lt)
    go (inr le) (inr le') =
        let e : n ≡ m = omega arith in
        let p : f (take m s) ≡ Some k = subst (λ (i : ℕ). f (take i s) ≡ Some k) e h.is in
        (some_is k j (sym p ∙ g.is), e)
