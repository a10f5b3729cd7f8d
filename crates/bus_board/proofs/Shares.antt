-- The shares of the seats: how they are cut and put together, and that a seat with the whole is the only one.
use Rattle.std.proofs.Common.{◌≡◌, ◌≢◌, ◌⊎◌, ℕ, zero, suc, ◌+◌, ◌-◌, ◌*◌, ◌^◌, ◌<◌, ◌≤◌, max, true, false, List, [], ◌∷◌, ◌++◌, set, refl, sym, ap, ◌∙◌, subst, inl, inr, ⊎_elim, arith}
use Rattle.std.proofs.lemmas.Nat.{pow-add, pow_pos}
use mathlib.Core.Option.{some, some-injective, some-ne-none}
use lib.ListN.{get_elem?}
use Rattle.atomic_table.proofs.Lists.{at_set, at_snoc}
use Rattle.bus_board.proofs.Sums.{term_le, terms_le, total-append, total-set}
use Rattle.bus_board.specs.Lists.{total}
use Rattle.bus_board.specs.Rule.{AreAll, HasShare}
use Rattle.bus_board.specs.Shares.{IsWhole, added_at, half, parts_at, together}
use Rattle.bus_board.specs.Views.{both, lender, newcomer, spent}
use Rattle.bus_board.specs.declared.view.Share.{Share}
use Rattle.bus_board.specs.declared.view.View.{View}

abbrev part : ℕ → View → ℕ
part n v = parts_at n v.share

-- the parts of finer ones
finer : (a h m n : ℕ) → h ≤ m → m ≤ n → a * 2 ^ (m - h) * 2 ^ (n - m) ≡ a * 2 ^ (n - h)
finer a h m n below under =
    let e : n - h ≡ (m - h) + (n - m) = omega arith in
    let p : 2 ^ (n - h) ≡ 2 ^ (m - h) * 2 ^ (n - m) = ap (λ (k : ℕ). 2 ^ k) e ∙ pow-add 2 (m - h) (n - m) in
    grind (arith, p)

twice : (k : ℕ) → 2 ^ suc k ≡ 2 * 2 ^ k
twice k = grind (arith, pow-add 2 1 k)

finer_twice : (n : ℕ) (s : Share) → s.halvings ≤ n → parts_at (suc n) s ≡ 2 * parts_at n s
finer_twice n s below =
    let e : suc n - s.halvings ≡ suc (n - s.halvings) = omega arith in
    let p : 2 ^ (suc n - s.halvings) ≡ 2 * 2 ^ (n - s.halvings) = ap (λ (k : ℕ). 2 ^ k) e ∙ twice (n - s.halvings) in
    grind (arith, p)

half_at : (n : ℕ) (s : Share) → parts_at (suc n) (half s) ≡ parts_at n s
half_at n s = let e : suc n - suc s.halvings ≡ n - s.halvings = omega arith in ap (λ (k : ℕ). s.parts * 2 ^ k) e

added : (m n : ℕ) (s t : Share) → s.halvings ≤ m → t.halvings ≤ m → m ≤ n → parts_at n (added_at m s t) ≡ parts_at n s + parts_at n t
added m n s t a b le = grind (arith, finer s.parts s.halvings m n a le, finer t.parts t.halvings m n b le)

together_at : (n : ℕ) (s t : Share) → s.halvings ≤ n → t.halvings ≤ n → parts_at n (together s t) ≡ parts_at n s + parts_at n t
together_at n s t a b = added (max s.halvings t.halvings) n s t (omega arith) (omega arith) (omega arith)

some_parts : (a k : ℕ) → 0 < a → 0 < a * 2 ^ k
some_parts (suc a) k lt = omega (arith, pow_pos k)
some_parts zero k lt = absurd (omega arith)

none_left : (a k : ℕ) → a * 2 ^ k ≡ 0 → a ≡ 0
none_left zero k e = refl
none_left (suc a) k e = absurd (omega (arith, some_parts (suc a) k (omega arith)))

total-twice : (f g : View → ℕ) (l : List View) → ((j : ℕ) (v : View) → get_elem? l j ≡ some v → f v ≡ 2 * g v) → total f l ≡ 2 * total g l
total-twice f g [] each = refl
total-twice f g (x ∷ xs) each = omega (arith, each 0 x refl, total-twice f g xs (λ j v e. each (suc j) v e))

-- a live seat has a share
pub has_share : (n : ℕ) (v : View) → v.live ≡ true → HasShare n v → (0 < v.share.parts) × (v.share.halvings ≤ n)
has_share n v live = ⊎_elim
    (λ (gone : v ≡ spent). let off : false ≡ true = sym (ap (λ (x : View). x.live) gone) ∙ live in absurd (cc))
    (λ (has : (v.live ≡ true) × (0 < v.share.parts) × (v.share.halvings ≤ n)). (has.1, has.2))

below : (n : ℕ) (v : View) → HasShare n v → v.share.halvings ≤ n
below n v = ⊎_elim (λ (gone : v ≡ spent). omega (arith, ap (λ (x : View). x.share.halvings) gone)) (λ (has : (v.live ≡ true) × (0 < v.share.parts) × (v.share.halvings ≤ n)). has.2)

coarser : (n : ℕ) (v : View) → HasShare n v → HasShare (suc n) v
coarser n v = ⊎_elim (λ (gone : v ≡ spent). inl gone) (λ (has : (v.live ≡ true) × (0 < v.share.parts) × (v.share.halvings ≤ n)). inr (has.0, has.1, omega (arith, has.2)))

-- a step keeps its seat's share
pub shares_kept : (views : List View) (id : ℕ) (v w : View) → get_elem? views id ≡ some v → v.live ≡ true → w.live ≡ true → w.share ≡ v.share → AreAll views → AreAll (set views id w)
shares_kept views id v w me live lives same all =
    let n : ℕ = all.halvings in
    let has = has_share n v live (all.each id v me) in
    let now : HasShare n w = inr (lives, subst (λ (s : Share). 0 < s.parts) (sym same) has.0, subst (λ (s : Share). s.halvings ≤ n) (sym same) has.1) in
    record {
      halvings = n;
      each = λ j u e. ⊎_elim
          (λ (t : (j ≡ id) × (w ≡ u)). subst (HasShare n) t.1 now)
          (λ (t : (j ≢ id) × (get_elem? views j ≡ some u)). all.each j u t.1)
          (at_set views id j w u e);
      whole = omega (arith, total-set (part n) views id v w me, ap (parts_at n) same, all.whole);
    }

-- a seat is made from another
pub shares_split : (views : List View) (id : ℕ) (v : View) → get_elem? views id ≡ some v → v.live ≡ true → AreAll views → AreAll (set views id (lender v) ++ newcomer v ∷ [])
shares_split views id v me live all =
    let n : ℕ = all.halvings in
    let l : View = lender v in
    let r : View = newcomer v in
    let has = has_share n v live (all.each id v me) in
    let left : HasShare (suc n) l = inr (live, has.0, omega (arith, has.1)) in
    let right : HasShare (suc n) r = inr (refl, has.0, omega (arith, has.1)) in
    let doubled : total (part (suc n)) views ≡ 2 * total (part n) views = total-twice (part (suc n)) (part n) views (λ j u e. finer_twice n u.share (below n u (all.each j u e))) in
    record {
      halvings = suc n;
      each = λ j u e. ⊎_elim
          (λ (t : get_elem? (set views id l) j ≡ some u). ⊎_elim
          (λ (y : (j ≡ id) × (l ≡ u)). subst (HasShare (suc n)) y.1 left)
          (λ (y : (j ≢ id) × (get_elem? views j ≡ some u)). coarser n u (all.each j u y.1))
          (at_set views id j l u t))
          (λ (t : r ≡ u). subst (HasShare (suc n)) t right)
          (at_snoc (set views id l) r u j e);
      whole = omega (arith, total-append (part (suc n)) (set views id l) (r ∷ []), total-set (part (suc n)) views id v l me, doubled, finer_twice n v.share has.1, half_at n v.share, all.whole, twice n);
    }

-- a seat is given back
pub shares_joined : (views : List View) (id : ℕ) (v : View) (other : ℕ) (w : View) → get_elem? views id ≡ some v → get_elem? (set views id (both v w)) other ≡ some w → get_elem? views other ≡ some w
    → v.live ≡ true → AreAll views → AreAll (set (set views id (both v w)) other spent)
shares_joined views id v other w me there was live all =
    let n : ℕ = all.halvings in
    let b : View = both v w in
    let mid : List View = set views id b in
    let has = has_share n v live (all.each id v me) in
    let theirs : w.share.halvings ≤ n = below n w (all.each other w was) in
    let now : HasShare n b = inr (live, omega (arith, some_parts v.share.parts (max v.share.halvings w.share.halvings - v.share.halvings) has.0), omega (arith, has.1, theirs)) in
    record {
      halvings = n;
      each = λ j u e. ⊎_elim
          (λ (t : (j ≡ other) × (spent ≡ u)). inl (sym t.1))
          (λ (t : (j ≢ other) × (get_elem? mid j ≡ some u)). ⊎_elim
          (λ (y : (j ≡ id) × (b ≡ u)). subst (HasShare n) y.1 now)
          (λ (y : (j ≢ id) × (get_elem? views j ≡ some u)). all.each j u y.1)
          (at_set views id j b u t.1))
          (at_set mid other j spent u e);
      whole = omega (arith, total-set (part n) views id v b me, total-set (part n) mid other w spent there, together_at n v.share w.share has.1 theirs, all.whole);
    }

-- where a seat has the whole, what else stands in the list is spent
pub others_spent : (views : List View) (id : ℕ) (v : View) → get_elem? views id ≡ some v → v.live ≡ true → IsWhole v.share → AreAll views
    → (j : ℕ) (u : View) → j ≢ id → get_elem? views j ≡ some u → u ≡ spent
others_spent views id v me live whole all j u apart e =
    let n : ℕ = all.halvings in
    let has = has_share n v live (all.each id v me) in
    let full : part n v ≡ 2 ^ n =
    let p : 2 ^ n ≡ 2 ^ v.share.halvings * 2 ^ (n - v.share.halvings) = (let le = has.1 in ap (λ (k : ℕ). 2 ^ k) (let e : n ≡ v.share.halvings + (n - v.share.halvings) = omega arith in e)) ∙ pow-add 2 v.share.halvings (n - v.share.halvings) in
    ap (λ (k : ℕ). k * 2 ^ (n - v.share.halvings)) whole ∙ sym p in
    let none : part n u ≡ 0 = omega (arith, terms_le (part n) views id j v u apart me e, all.whole, full) in
    ⊎_elim
    (λ (gone : u ≡ spent). gone)
    (λ (some-share : (u.live ≡ true) × (0 < u.share.parts) × (u.share.halvings ≤ n)). absurd (omega (arith, some-share.1, none_left u.share.parts (n - u.share.halvings) none)))
    (all.each j u e)

total-spent : (g : View → ℕ) → g spent ≡ 0 → (l : List View) → ((j : ℕ) (u : View) → get_elem? l j ≡ some u → u ≡ spent) → total g l ≡ 0
total-spent g zero-there [] each = refl
total-spent g zero-there (x ∷ xs) each = omega (arith, ap g (each 0 x refl), total-spent g zero-there xs (λ j u e. each (suc j) u e))

-- what is counted over all views is the one seat's
pub total-sole : (g : View → ℕ) → g spent ≡ 0 → (l : List View) (id : ℕ) (v : View) → get_elem? l id ≡ some v → ((j : ℕ) (u : View) → j ≢ id → get_elem? l j ≡ some u → u ≡ spent) → total g l ≡ g v
total-sole g zero-there [] id v me each = absurd (some-ne-none v (sym me))
total-sole g zero-there (x ∷ xs) zero v me each =
    omega (arith, ap g (some-injective x v me), total-spent g zero-there xs (λ j u e. each (suc j) u (λ s. absurd (omega (arith, s))) e))
total-sole g zero-there (x ∷ xs) (suc id) v me each =
    omega (arith, ap g (each 0 x (λ s. absurd (omega (arith, s))) refl), total-sole g zero-there xs id v me (λ j u ne e. each (suc j) u (λ s. ne (omega (arith, s))) e))
