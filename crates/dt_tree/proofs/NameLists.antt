-- Lists of names with one more, or without one.
use Rattle.std.proofs.Common.{◌≡◌, ℕ, Bool, true, false, ◌||◌, List, [], ◌∷◌, ◌++◌, refl, ap, sym, ◌∙◌, arith}
use Rattle.std.proofs.lemmas.Slice.Eq.{bytes_eq-Decides}
use Rattle.std.specs.Str.{bytes_eq}
use Rattle.dt_tree.specs.Changes.{with_name, without_name}
use Rattle.dt_tree.specs.Name.{is_name, are_names}
use Rattle.dt_tree.specs.Sound.{is_among, are_distinct}
use Rattle.dt_tree.proofs.Places.{distinct_head, distinct_tail}

pub bytes_eq-sym : (xs ys : List ℕ) (t : Bool) → bytes_eq xs ys ≡ t → bytes_eq ys xs ≡ t
bytes_eq-sym xs ys true e = (bytes_eq-Decides ys xs).1 (sym ((bytes_eq-Decides xs ys).0 e))
bytes_eq-sym xs ys false e = not_true (bytes_eq ys xs) (λ h. false-true (sym e ∙ (bytes_eq-Decides xs ys).1 (sym ((bytes_eq-Decides ys xs).0 h)))) where
  not_true : (t : Bool) → (t ≡ true → ⊥) → t ≡ false
  not_true true h = absurd (h refl)
  not_true false h = refl

  false-true : false ≡ true → ⊥
  false-true e = cc

is_among-push : (n : List ℕ) (ns : List (List ℕ)) (k : List ℕ) → is_among n (ns ++ k ∷ []) ≡ (is_among n ns || bytes_eq k n)
is_among-push n [] k = grind arith
is_among-push n (m ∷ ms) k = grind (arith, is_among-push n ms k)

pub distinct-push : (ns : List (List ℕ)) (k : List ℕ) → is_among k ns ≡ false → are_distinct ns ≡ true → are_distinct (ns ++ k ∷ []) ≡ true
distinct-push [] k a d = refl
distinct-push (n ∷ ns) k a d = push_at n ns k _ refl _ refl a d (distinct-push ns k) where
  push_at : (n : List ℕ) (ns : List (List ℕ)) (k : List ℕ) (t : Bool) → bytes_eq n k ≡ t → (u : Bool) → is_among n ns ≡ u → is_among k (n ∷ ns) ≡ false → are_distinct (n ∷ ns) ≡ true
      → (is_among k ns ≡ false → are_distinct ns ≡ true → are_distinct (ns ++ k ∷ []) ≡ true) → are_distinct (n ∷ ns ++ k ∷ []) ≡ true
  push_at n ns k true e u q a d ih = absurd (grind (arith, e, a))
  push_at n ns k false e true q a d ih = absurd (grind (arith, q, d))
  push_at n ns k false e false q a d ih =
      let a' : is_among k ns ≡ false = (rw e at a) in
      let d' : are_distinct ns ≡ true = (rw q at d) in
      let back = bytes_eq-sym n k false e in
      rw (is_among-push n ns k, q, back) (ih a' d')

pub names-push : (ns : List (List ℕ)) (k : List ℕ) → are_names ns ≡ true → is_name k ≡ true → are_names (ns ++ k ∷ []) ≡ true
names-push [] k a e = rw e refl
names-push (n ∷ ns) k a e = push_at n ns k _ refl a (λ h. names-push ns k h e) where
  push_at : (n : List ℕ) (ns : List (List ℕ)) (k : List ℕ) (t : Bool) → is_name n ≡ t → are_names (n ∷ ns) ≡ true → (are_names ns ≡ true → are_names (ns ++ k ∷ []) ≡ true) → are_names (n ∷ ns ++ k ∷ []) ≡ true
  push_at n ns k true e a ih = rw e (ih (rw e at a))
  push_at n ns k false e a ih = absurd (let h : false ≡ true = (rw e at a) in cc)

pub distinct-with : (ns : List (List ℕ)) (k : List ℕ) (t : Bool) → is_among k ns ≡ t → are_distinct ns ≡ true → are_distinct (with_name k ns) ≡ true
distinct-with ns k true e d = rw e d
distinct-with ns k false e d = rw e (distinct-push ns k e d)

pub names-with : (ns : List (List ℕ)) (k : List ℕ) (t : Bool) → is_among k ns ≡ t → is_name k ≡ true → are_names ns ≡ true → are_names (with_name k ns) ≡ true
names-with ns k true e n a = rw e a
names-with ns k false e n a = rw e (names-push ns k a n)

-- ---- without a name
pub without-absent : (ns : List (List ℕ)) (k : List ℕ) → is_among k ns ≡ false → without_name k ns ≡ ns
without-absent [] k a = refl
without-absent (n ∷ ns) k a = at_head n ns k _ refl a (without-absent ns k) where
  at_head : (n : List ℕ) (ns : List (List ℕ)) (k : List ℕ) (t : Bool) → bytes_eq n k ≡ t → is_among k (n ∷ ns) ≡ false → (is_among k ns ≡ false → without_name k ns ≡ ns) → without_name k (n ∷ ns) ≡ n ∷ ns
  at_head n ns k true e a ih = absurd (let h : true ≡ false = (rw e at a) in cc)
  at_head n ns k false e a ih = rw e (ap (λ (l : List (List ℕ)). n ∷ l) (ih (rw e at a)))

pub head-absent : (n k : List ℕ) (ns : List (List ℕ)) → bytes_eq n k ≡ true → are_distinct (n ∷ ns) ≡ true → is_among k ns ≡ false
head-absent n k ns e d = let is : n ≡ k = (bytes_eq-Decides n k).0 e in rw (← is) (distinct_head n ns _ refl d)

among-without : (m : List ℕ) (ns : List (List ℕ)) (k : List ℕ) → is_among m ns ≡ false → is_among m (without_name k ns) ≡ false
among-without m [] k a = refl
among-without m (n ∷ ns) k a = at_head m n ns k _ refl _ refl a (among-without m ns k) where
  at_head : (m n : List ℕ) (ns : List (List ℕ)) (k : List ℕ) (t : Bool) → bytes_eq n k ≡ t → (u : Bool) → bytes_eq n m ≡ u → is_among m (n ∷ ns) ≡ false → (is_among m ns ≡ false → is_among m (without_name k ns) ≡ false) → is_among m (without_name k (n ∷ ns)) ≡ false
  at_head m n ns k t e true f a ih = absurd (let h : true ≡ false = (rw f at a) in cc)
  at_head m n ns k true e false f a ih = rw e (ih (rw f at a))
  at_head m n ns k false e false f a ih = rw (e, f) (ih (rw f at a))

pub distinct-without : (ns : List (List ℕ)) (k : List ℕ) → are_distinct ns ≡ true → are_distinct (without_name k ns) ≡ true
distinct-without [] k d = refl
distinct-without (n ∷ ns) k d = at_head n ns k _ refl d (distinct-without ns k (distinct_tail n ns _ refl d)) where
  at_head : (n : List ℕ) (ns : List (List ℕ)) (k : List ℕ) (t : Bool) → bytes_eq n k ≡ t → are_distinct (n ∷ ns) ≡ true → are_distinct (without_name k ns) ≡ true → are_distinct (without_name k (n ∷ ns)) ≡ true
  at_head n ns k true e d ih = rw e ih
  at_head n ns k false e d ih = rw (e, among-without n ns k (distinct_head n ns _ refl d)) ih

pub names-without : (ns : List (List ℕ)) (k : List ℕ) → are_names ns ≡ true → are_names (without_name k ns) ≡ true
names-without [] k a = refl
names-without (n ∷ ns) k a = at_head n ns k _ refl _ refl a (names-without ns k) where
  at_head : (n : List ℕ) (ns : List (List ℕ)) (k : List ℕ) (t : Bool) → bytes_eq n k ≡ t → (u : Bool) → is_name n ≡ u → are_names (n ∷ ns) ≡ true → (are_names ns ≡ true → are_names (without_name k ns) ≡ true) → are_names (without_name k (n ∷ ns)) ≡ true
  at_head n ns k t e false f a ih = absurd (let h : false ≡ true = (rw f at a) in cc)
  at_head n ns k true e true f a ih = rw e (ih (rw f at a))
  at_head n ns k false e true f a ih = rw (e, f) (ih (rw f at a))
