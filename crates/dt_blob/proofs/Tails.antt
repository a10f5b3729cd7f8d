-- Where a name stands in a block to which another name was added.
use Rattle.std.proofs.Common.{◌≡◌, ℕ, suc, ◌+◌, ◌<◌, Bool, true, false, List, [], ◌∷◌, ◌++◌, length, refl, sym, ap, ◌∙◌, arith}
use Rattle.std.specs.Prelude.{Option, Some, None, ◌&&◌, not, ◌==◌, if◌then◌else◌}
use Rattle.std.specs.Option.{option_map, option_or}
use Rattle.std.specs.Str.{bytes_eq}
use Rattle.std.proofs.lemmas.Bool.{ne_eqb, eqb-true, eqb-false}
use Rattle.dt_blob.specs.Strings.{begins, lowest_place, ended}
use Rattle.dt_blob.specs.Steps.Table.{no_zero, IsClosed, tail_at}
use Rattle.dt_blob.proofs.Places.{place-in_none}

pub and-first : (a b : Bool) → (a && b) ≡ true → a ≡ true
and-first true b h = refl
and-first false b h = h

pub and-second : (a b : Bool) → (a && b) ≡ true → b ≡ true
and-second true b h = h
and-second false b h = absurd (cc)

pub same-names : (q name : List ℕ) → bytes_eq q name ≡ true → q ≡ name
same-names [] [] t = refl
same-names [] (y ∷ name) t = absurd (cc)
same-names (x ∷ q) [] t = absurd (cc)
same-names (x ∷ q) (y ∷ name) t =
    ap (λ z. z ∷ q) (eqb-true x y (and-first (x == y) (bytes_eq q name) t)) ∙ ap (λ zs. y ∷ zs) (same-names q name (and-second (x == y) (bytes_eq q name) t))

not-true : (a : Bool) → not a ≡ true → a ≡ false
not-true true h = sym h
not-true false h = refl

-- a first byte that is not zero
head-apart : (a : ℕ) (t : List ℕ) → no_zero (a ∷ t) ≡ true → (a == 0) ≡ false
head-apart a t h = not-true (a == 0) (and-first (not (a == 0)) (no_zero t) h)

zero-apart : (a : ℕ) (t : List ℕ) → no_zero (a ∷ t) ≡ true → (0 == a) ≡ false
zero-apart a t h = ne_eqb 0 a (λ e. eqb-false a 0 (head-apart a t h) (sym e))

rest-free : (a : ℕ) (t : List ℕ) → no_zero (a ∷ t) ≡ true → no_zero t ≡ true
rest-free a t h = and-second (not (a == 0)) (no_zero t) h

and-off : (a b c : Bool) → a ≡ false → (a && b) ≡ (a && c)
and-off true b c h = absurd (cc)
and-off false b c h = refl

off : (a b : Bool) → a ≡ false → (a && b) ≡ false
off true b h = absurd (cc)
off false b h = refl

-- what stands at a place of a closed block ends there
begins-closed : (t s u : List ℕ) → no_zero t ≡ true → IsClosed s → 0 < length s → begins (ended t) (s ++ u) ≡ begins (ended t) s
begins-closed t [] u h c n = absurd (omega arith)
begins-closed [] (x ∷ s) u h c n = refl
begins-closed (a ∷ t) (x ∷ []) u h c n =
    let e : (a == x) ≡ false = ap (λ y. a == y) c ∙ head-apart a t h in
    and-off (a == x) (begins (ended t) u) (begins (ended t) []) e
begins-closed (a ∷ t) (x ∷ y ∷ s) u h c n = ap (λ b. (a == x) && b) (begins-closed t (y ∷ s) u (rest-free a t h) c (omega arith))

-- two names with their zero bytes
begins-ended : (t m : List ℕ) → no_zero t ≡ true → no_zero m ≡ true → begins (ended t) (ended m) ≡ bytes_eq t m
begins-ended [] [] h k = refl
begins-ended [] (y ∷ m) h k = off (0 == y) (begins [] (ended m)) (zero-apart y m k)
begins-ended (a ∷ t) [] h k = off (a == 0) (begins (ended t) []) (head-apart a t h)
begins-ended (a ∷ t) (y ∷ m) h k = ap (λ b. (a == y) && b) (begins-ended t m (rest-free a t h) (rest-free y m k))

step-by : (b c : Bool) (o : Option ℕ) (r : Option ℕ) (at : ℕ) → b ≡ c → option_map (λ k. suc at + k) o ≡ r → option_map (λ k. at + k) (if b then Some 0 else option_map suc o) ≡ (if c then Some at else r)
step-by true true o r at e h = ap Some (omega arith)
step-by true false o r at e h = absurd (cc)
step-by false true o r at e h = absurd (cc)
step-by false false None r at e h = h
step-by false false (Some k) r at e h = ap Some (omega arith) ∙ h

-- a name among the tails of another
tail-place : (at : ℕ) (t n : List ℕ) → no_zero t ≡ true → 0 < length t → no_zero n ≡ true → option_map (λ k. at + k) (lowest_place (ended t) (ended n)) ≡ tail_at at t n
tail-place at [] n h z k = absurd (omega arith)
tail-place at (a ∷ t) [] h z k =
    step-by (begins (ended (a ∷ t)) (0 ∷ [])) false (lowest_place (ended (a ∷ t)) []) None at (off (a == 0) (begins (ended t) []) (head-apart a t h)) (ap (option_map (λ k. suc at + k)) (place-in_none (a ∷ t)))
tail-place at (a ∷ t) (y ∷ n) h z k =
    step-by (begins (ended (a ∷ t)) (ended (y ∷ n))) (bytes_eq (a ∷ t) (y ∷ n)) (lowest_place (ended (a ∷ t)) (ended n)) (tail_at (suc at) (a ∷ t) n) at
    (begins-ended (a ∷ t) (y ∷ n) h k) (tail-place (suc at) (a ∷ t) n h z (rest-free y n k))

more-by : (b c : Bool) (o p q : Option ℕ) (n : ℕ) → b ≡ c → o ≡ option_or p (option_map (λ k. n + k) q) → (if b then Some 0 else option_map suc o) ≡ option_or (if c then Some 0 else option_map suc p) (option_map (λ k. suc n + k) q)
more-by true true o p q n e h = refl
more-by true false o p q n e h = absurd (cc)
more-by false true o p q n e h = absurd (cc)
more-by false false o (Some k) q n e h = ap (option_map suc) h
more-by false false o None None n e h = ap (option_map suc) h
more-by false false o None (Some k) n e h = ap (option_map suc) h ∙ ap Some (omega arith)

none-first : (o : Option ℕ) → o ≡ option_or None (option_map (λ k. 0 + k) o)
none-first None = refl
none-first (Some k) = ap Some (omega arith)

closed-rest : (x : ℕ) (s : List ℕ) → IsClosed (x ∷ s) → IsClosed s
closed-rest x [] c = tt
closed-rest x (y ∷ s) c = c

-- a place in a longer block
place-behind : (t s u : List ℕ) → no_zero t ≡ true → IsClosed s → lowest_place (ended t) (s ++ u) ≡ option_or (lowest_place (ended t) s) (option_map (λ k. length s + k) (lowest_place (ended t) u))
place-behind t [] u h c = none-first (lowest_place (ended t) u) ∙ ap (λ o. option_or o (option_map (λ k. 0 + k) (lowest_place (ended t) u))) (sym (place-in_none t))
place-behind t (x ∷ s) u h c =
    more-by (begins (ended t) (x ∷ (s ++ u))) (begins (ended t) (x ∷ s)) (lowest_place (ended t) (s ++ u)) (lowest_place (ended t) s) (lowest_place (ended t) u) (length s)
    (begins-closed t (x ∷ s) u h c (omega arith)) (place-behind t s u h (closed-rest x s c))

-- a name's place once another is added
pub place-added : (t s n : List ℕ) → no_zero t ≡ true → 0 < length t → IsClosed s → no_zero n ≡ true → lowest_place (ended t) (s ++ ended n) ≡ option_or (lowest_place (ended t) s) (tail_at (length s) t n)
place-added t s n h z c k = place-behind t s (ended n) h c ∙ ap (option_or (lowest_place (ended t) s)) (tail-place (length s) t n h z k)

pub closed-added : (s n : List ℕ) → IsClosed (s ++ ended n)
closed-added [] [] = refl
closed-added [] (y ∷ []) = refl
closed-added [] (y ∷ z ∷ n) = closed-added [] (z ∷ n)
closed-added (x ∷ []) [] = refl
closed-added (x ∷ []) (y ∷ n) = closed-added [] (y ∷ n)
closed-added (x ∷ y ∷ s) n = closed-added (y ∷ s) n
