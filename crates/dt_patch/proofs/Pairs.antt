-- The reserved memory as bytes.
use Rattle.std.proofs.Common.{◌≡◌, ℕ, zero, suc, ◌+◌, ◌*◌, ◌<◌, ◌≤◌, true, List, [], ◌∷◌, ◌++◌, length, take, drop, refl, ap, sym, subst, ◌∙◌, arith, append_assoc, length-append}
use Rattle.std.specs.List.{list_all}
use Rattle.dt_tree.specs.TreeData.{AreLong, is_reserve}
use Rattle.dt_blob.specs.BigEndian.{double_word}
use Rattle.dt_blob.specs.Holds.{Reserves}
use Rattle.dt_blob.proofs.Sizes.{length-double_word}
use Rattle.dt_blob.proofs.Tests.{both}
use Rattle.dt_patch.specs.Private.Reservations.{pair_bytes}
use Rattle.dt_patch.proofs.Blocks.{pair_front}

-- one after the other
abbrev pub pairs_bytes : List (ℕ × ℕ) → List ℕ
pairs_bytes [] = []
pairs_bytes (r ∷ rs) = pair_bytes r ++ pairs_bytes rs

-- the end of the list
abbrev pub zeros : List ℕ
zeros = pair_bytes (0, 0)

pub length-pair : (r : ℕ × ℕ) → length (pair_bytes r) ≡ 16
length-pair r = omega (arith, length-append (double_word (r.0)) (double_word (r.1)), length-double_word (r.0), length-double_word (r.1))

pub length-pairs : (rs : List (ℕ × ℕ)) → length (pairs_bytes rs) ≡ 16 * length rs
length-pairs [] = refl
length-pairs (r ∷ rs) = let ih = length-pairs rs in omega (arith, ih, length-append (pair_bytes r) (pairs_bytes rs), length-pair r)

pub pairs_append : (rs qs : List (ℕ × ℕ)) → pairs_bytes (rs ++ qs) ≡ pairs_bytes rs ++ pairs_bytes qs
pairs_append [] qs = refl
pairs_append (r ∷ rs) qs = ap (λ (x : List ℕ). pair_bytes r ++ x) (pairs_append rs qs) ∙ sym (append_assoc (pair_bytes r) (pairs_bytes rs) (pairs_bytes qs))

-- what a front holds of the list
pub record Spelled (rs : List (ℕ × ℕ)) (y : List ℕ) : Type 0 where
  pub rest : List ℕ
  pub is : y ≡ pairs_bytes rs ++ (zeros ++ rest)

together : (a b : ℕ) (rest : List ℕ) → double_word a ++ (double_word b ++ rest) ≡ pair_bytes (a, b) ++ rest
together a b rest = sym (append_assoc (double_word a) (double_word b) rest)

pub spelled_front : (rs : List (ℕ × ℕ)) (y z : List ℕ) → 16 * (length rs + 1) ≤ length y → Reserves rs (y ++ z) → Spelled rs y
spelled_front [] y z h r =
    let f = pair_front y z (r.0) 0 0 (omega arith) (r.1) in
    record { rest = drop 16 y; is = f.is ∙ together 0 0 (drop 16 y) }
spelled_front (q ∷ rs) y z h r =
    let f = pair_front y z (r.0) (q.0) (q.1) (omega arith) (r.1) in
    let left : 16 * (length rs + 1) ≤ length (drop 16 y) = (let w = ap length f.is in omega (arith, h, w, length-append (double_word (q.0)) (double_word (q.1) ++ drop 16 y), length-append (double_word (q.1)) (drop 16 y), length-double_word (q.0), length-double_word (q.1))) in
    let s = spelled_front rs (drop 16 y) z left (subst (Reserves rs) f.behind (r.5)) in
    record {
      rest = s.rest;
      is = f.is ∙ together (q.0) (q.1) (drop 16 y) ∙ ap (λ (x : List ℕ). pair_bytes q ++ x) s.is ∙ sym (append_assoc (pair_bytes q) (pairs_bytes rs) (zeros ++ s.rest));
    }

pub reserves_spelled : (rs : List (ℕ × ℕ)) (rest : List ℕ) → AreLong rs → list_all is_reserve rs ≡ true → Reserves rs (pairs_bytes rs ++ (zeros ++ rest))
reserves_spelled [] rest l e = (rest, append_assoc (double_word 0) (double_word 0) rest)
reserves_spelled (q ∷ rs) rest l e =
    let p = both (is_reserve q) (list_all is_reserve rs) e in
    (pairs_bytes rs ++ (zeros ++ rest), append_assoc (pair_bytes q) (pairs_bytes rs) (zeros ++ rest) ∙ append_assoc (double_word (q.0)) (double_word (q.1)) (pairs_bytes rs ++ (zeros ++ rest)), l.0, l.1, p.0, reserves_spelled rs rest l.2 (p.1))

-- ---- the tree's own

pub long_append : (rs qs : List (ℕ × ℕ)) → AreLong rs → AreLong qs → AreLong (rs ++ qs)
long_append [] qs a b = b
long_append (r ∷ rs) qs a b = (a.0, a.1, long_append rs qs a.2 b)

pub all_append : (rs qs : List (ℕ × ℕ)) → list_all is_reserve rs ≡ true → list_all is_reserve qs ≡ true → list_all is_reserve (rs ++ qs) ≡ true
all_append [] qs a b = b
all_append (r ∷ rs) qs a b =
    let p = both (is_reserve r) (list_all is_reserve rs) a in
    let first = p.0 in
    let later = all_append rs qs (p.1) b in
    rw (first, later) refl

-- the pair at a place, and those round it
pub record Picked (rs : List (ℕ × ℕ)) (i : ℕ) : Type 0 where
  pub before : List (ℕ × ℕ)
  pub it : ℕ × ℕ
  pub after : List (ℕ × ℕ)
  pub is : rs ≡ before ++ it ∷ after
  pub place : length before ≡ i
  pub left : take i rs ++ drop (i + 1) rs ≡ before ++ after

pub picked : (rs : List (ℕ × ℕ)) (i : ℕ) → i < length rs → Picked rs i
picked [] i h = absurd (omega arith)
picked (r ∷ rs) zero h = record { before = []; it = r; after = rs; is = refl; place = refl; left = refl }
picked (r ∷ rs) (suc i) h =
    let p = picked rs i (omega arith) in
    let step : suc i + 1 ≡ suc (i + 1) = omega arith in
    record {
      before = r ∷ p.before;
      it = p.it;
      after = p.after;
      is = ap (λ (x : List (ℕ × ℕ)). r ∷ x) p.is;
      place = ap (λ (k : ℕ). suc k) p.place;
      left = ap (λ (k : ℕ). take (suc i) (r ∷ rs) ++ drop k (r ∷ rs)) step ∙ ap (λ (x : List (ℕ × ℕ)). r ∷ x) p.left;
    }

pub long_before : (rs qs : List (ℕ × ℕ)) → AreLong (rs ++ qs) → AreLong rs × AreLong qs
long_before [] qs a = (tt, a)
long_before (r ∷ rs) qs a = let p = long_before rs qs a.2 in ((a.0, a.1, p.0), p.1)

pub all_before : (rs qs : List (ℕ × ℕ)) → list_all is_reserve (rs ++ qs) ≡ true → (list_all is_reserve rs ≡ true) × (list_all is_reserve qs ≡ true)
all_before [] qs a = (refl, a)
all_before (r ∷ rs) qs a =
    let p = both (is_reserve r) (list_all is_reserve (rs ++ qs)) a in
    let q = all_before rs qs (p.1) in
    let first = p.0 in
    let later = q.0 in
    (rw (first, later) refl, q.1)
