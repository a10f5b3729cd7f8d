-- The blocks of a blob whose structure block has other bytes, as many as before.
use Rattle.std.proofs.Common.{◌≡◌, ℕ, ◌+◌, ◌-◌, ◌*◌, ◌<◌, ◌≤◌, Bool, true, false, ◌&&◌, List, [], ◌∷◌, ◌++◌, length, take, drop, Option, Some, None, refl, ap, sym, subst, ◌∙◌, arith, append_assoc, length-append, length-drop}
use Rattle.std.specs.Prelude.{nat_le, nat_lt, if◌then◌else◌}
use Rattle.std.specs.Option.{option_map_or}
use Rattle.std.proofs.Math.Seq.{drop-append-add, take-append-add}
use Rattle.std.proofs.lemmas.List.{drop_at, drop-append-le, take-append-drop, take_at, take-append-le}
use Rattle.std.proofs.lemmas.Bool.Decides.{nat_tests}
use Rattle.byteorder.specs.Endian.{big_number}
use Rattle.dt_blob.specs.declared.error.BlobError.TheVariants.{TooLarge, Truncated}
use Rattle.dt_blob.specs.BigEndian.{double_word}
use Rattle.dt_blob.specs.HeaderWords.{fault_in, header_fault, header_of, reserves_of, strings_of, structure_of, structure_size_in, word_at}
use Rattle.dt_blob.specs.Holds.{Reserves}
use Rattle.dt_blob.proofs.Laying.{in_place}
use Rattle.dt_blob.proofs.Sizes.{length-double_word}
use Rattle.dt_blob.proofs.Tests.{at_most, both, test_at_most, test_below, test_not_below}
use Rattle.dt_patch.specs.Order.{is_ordered}

-- ---- the order

pub record Ordered (bytes : List ℕ) (reserved : ℕ) : Type 0 where
  pub size : ℕ
  pub told : structure_size_in bytes ≡ Some size
  pub first : 40 ≤ word_at 16 bytes
  pub second : word_at 16 bytes + reserved ≤ word_at 8 bytes
  pub third : word_at 8 bytes + size ≤ word_at 12 bytes
  pub strings : word_at 12 bytes + word_at 32 bytes ≤ word_at 4 bytes
  pub whole : word_at 4 bytes ≤ length bytes

pub ordered : (bytes : List ℕ) (reserved : ℕ) → header_fault bytes ≡ None → is_ordered bytes reserved ≡ true → Ordered bytes reserved
ordered bytes reserved f e = by_size (structure_size_in bytes) refl e where
  by_size : (o : Option ℕ) → structure_size_in bytes ≡ o
      → option_map_or (λ (size : ℕ). nat_le 40 (word_at 16 bytes) && nat_le (word_at 16 bytes + reserved) (word_at 8 bytes) && nat_le (word_at 8 bytes + size) (word_at 12 bytes)) o false ≡ true → Ordered bytes reserved
  by_size None h t = absurd (cc t)
  by_size (Some size) h t =
      let p = both (nat_le 40 (word_at 16 bytes) && nat_le (word_at 16 bytes + reserved) (word_at 8 bytes)) (nat_le (word_at 8 bytes + size) (word_at 12 bytes)) t in
      let q = both (nat_le 40 (word_at 16 bytes)) (nat_le (word_at 16 bytes + reserved) (word_at 8 bytes)) (p.0) in
      let l = in_place bytes f in
      record {
        size = size;
        told = h;
        first = at_most 40 (word_at 16 bytes) (q.0);
        second = at_most (word_at 16 bytes + reserved) (word_at 8 bytes) (q.1);
        third = at_most (word_at 8 bytes + size) (word_at 12 bytes) (p.1);
        strings = l.strings;
        whole = l.size;
      }

-- ---- the tests of the order

pub old_version : (bytes : List ℕ) (reserved : ℕ) → word_at 20 bytes < 17 → is_ordered bytes reserved ≡ false
old_version bytes reserved h = let old : nat_lt (word_at 20 bytes) 17 ≡ true = test_below (word_at 20 bytes) 17 h in rw old refl

not_both : (a b : Bool) → a ≡ false → (a && b) ≡ false
not_both a b e = rw e refl

not_second : (a b : Bool) → b ≡ false → (a && b) ≡ false
not_second true b e = e
not_second false b e = refl

not_most : (a b : ℕ) → b < a → nat_le a b ≡ false
not_most a b h = grind (arith, nat_tests)

module _ (bytes : List ℕ) (reserved : ℕ) (sized : 17 ≤ word_at 20 bytes) where
  by_tests : (t : Bool) → (nat_le 40 (word_at 16 bytes) && nat_le (word_at 16 bytes + reserved) (word_at 8 bytes) && nat_le (word_at 8 bytes + word_at 36 bytes) (word_at 12 bytes)) ≡ t → is_ordered bytes reserved ≡ t
  by_tests t e = let new : nat_lt (word_at 20 bytes) 17 ≡ false = test_not_below (word_at 20 bytes) 17 sized in rw new e

  pub in_header : word_at 16 bytes < 40 → is_ordered bytes reserved ≡ false
  in_header h = by_tests false (not_both _ _ (not_both _ _ (not_most 40 (word_at 16 bytes) h)))

  pub in_reserved : word_at 8 bytes < word_at 16 bytes + reserved → is_ordered bytes reserved ≡ false
  in_reserved h = by_tests false (not_both _ _ (not_second (nat_le 40 (word_at 16 bytes)) _ (not_most (word_at 16 bytes + reserved) (word_at 8 bytes) h)))

  pub in_structure : word_at 12 bytes < word_at 8 bytes + word_at 36 bytes → is_ordered bytes reserved ≡ false
  in_structure h = by_tests false (not_second (nat_le 40 (word_at 16 bytes) && nat_le (word_at 16 bytes + reserved) (word_at 8 bytes)) _ (not_most (word_at 8 bytes + word_at 36 bytes) (word_at 12 bytes) h))

  pub all_apart : 40 ≤ word_at 16 bytes → word_at 16 bytes + reserved ≤ word_at 8 bytes → word_at 8 bytes + word_at 36 bytes ≤ word_at 12 bytes → is_ordered bytes reserved ≡ true
  all_apart a b c = by_tests true (rw (test_at_most 40 (word_at 16 bytes) a, test_at_most (word_at 16 bytes + reserved) (word_at 8 bytes) b, test_at_most (word_at 8 bytes + word_at 36 bytes) (word_at 12 bytes) c) refl)

-- ---- the header

front_number : (p x y : List ℕ) → 4 ≤ length p → big_number 4 (p ++ x) ≡ big_number 4 (p ++ y)
front_number [] x y h = absurd (omega arith)
front_number (a ∷ []) x y h = absurd (omega arith)
front_number (a ∷ b ∷ []) x y h = absurd (omega arith)
front_number (a ∷ b ∷ c ∷ []) x y h = absurd (omega arith)
front_number (a ∷ b ∷ c ∷ d ∷ p) x y h = refl

pub word_kept : (place : ℕ) (p x y : List ℕ) → place + 4 ≤ length p → word_at place (p ++ x) ≡ word_at place (p ++ y)
word_kept place p x y h =
    ap (big_number 4) (drop-append-le place p x (omega arith))
    ∙ front_number (drop place p) x y (omega (arith, length-drop place p))
    ∙ ap (big_number 4) (sym (drop-append-le place p y (omega arith)))

abbrev size_by : ℕ → ℕ → Option ℕ
size_by version size = if nat_lt version 17 then None else Some size

size_kept : (p x y : List ℕ) → 40 ≤ length p → structure_size_in (p ++ x) ≡ structure_size_in (p ++ y)
size_kept p x y h =
    ap (λ (n : ℕ). size_by n (word_at 36 (p ++ x))) (word_kept 20 p x y (omega arith))
    ∙ ap (size_by (word_at 20 (p ++ y))) (word_kept 36 p x y (omega arith))

pub header_kept : (p x y : List ℕ) → 40 ≤ length p → header_of (p ++ x) ≡ header_of (p ++ y)
header_kept p x y h =
    let magic = word_kept 0 p x y (omega arith) in
    let size = word_kept 4 p x y (omega arith) in
    let structure_at = word_kept 8 p x y (omega arith) in
    let strings_at = word_kept 12 p x y (omega arith) in
    let reserves_at = word_kept 16 p x y (omega arith) in
    let version = word_kept 20 p x y (omega arith) in
    let last = word_kept 24 p x y (omega arith) in
    let boot_cpu = word_kept 28 p x y (omega arith) in
    let strings_size = word_kept 32 p x y (omega arith) in
    let structure_size = size_kept p x y h in
    λ i. record {
      magic = magic i;
      size = size i;
      structure_at = structure_at i;
      strings_at = strings_at i;
      reserves_at = reserves_at i;
      version = version i;
      last_compatible = last i;
      boot_cpu = boot_cpu i;
      strings_size = strings_size i;
      structure_size = structure_size i;
    }

pub fault_kept : (p x y : List ℕ) → 40 ≤ length p → length x ≡ length y → header_fault (p ++ x) ≡ header_fault (p ++ y)
unfolding header_fault
fault_kept p x y h l =
    let len : length (p ++ x) ≡ length (p ++ y) = omega (arith, l, length-append p x, length-append p y) in
    let header = header_kept p x y h in
    λ i. if nat_lt 268435456 (len i) then Some TooLarge else (if nat_lt (len i) 40 then Some Truncated else fault_in (header i) (len i))

-- ---- the reserved memory

pub record PairFront (p y rest : List ℕ) (a b : ℕ) : Type 0 where
  pub is : p ≡ double_word a ++ (double_word b ++ drop 16 p)
  pub behind : rest ≡ drop 16 p ++ y

pub pair_front : (p y rest : List ℕ) (a b : ℕ) → 16 ≤ length p → p ++ y ≡ double_word a ++ (double_word b ++ rest) → PairFront p y rest a b
pair_front p y rest a b h e =
    let two : List ℕ = double_word a ++ double_word b in
    let len : length two ≡ 16 = omega (arith, length-append (double_word a) (double_word b), length-double_word a, length-double_word b) in
    let shape : p ++ y ≡ two ++ rest = e ∙ sym (append_assoc (double_word a) (double_word b) rest) in
    let front : take 16 p ≡ two = sym (take-append-le 16 p y h) ∙ ap (take 16) shape ∙ take_at two rest 16 len in
    record {
      is = sym (take-append-drop 16 p) ∙ ap (λ (x : List ℕ). x ++ drop 16 p) front ∙ append_assoc (double_word a) (double_word b) (drop 16 p);
      behind = sym (drop_at two rest 16 len) ∙ ap (drop 16) (sym shape) ∙ drop-append-le 16 p y h;
    }

pair_on : (p z : List ℕ) (a b : ℕ) → p ≡ double_word a ++ (double_word b ++ drop 16 p) → p ++ z ≡ double_word a ++ (double_word b ++ (drop 16 p ++ z))
pair_on p z a b e =
    ap (λ (x : List ℕ). x ++ z) e ∙ append_assoc (double_word a) (double_word b ++ drop 16 p) z
    ∙ ap (λ (x : List ℕ). double_word a ++ x) (append_assoc (double_word b) (drop 16 p) z)

-- pairs that end in a front of the bytes
pub reserves_front : (rs : List (ℕ × ℕ)) (p y z : List ℕ) → 16 * (length rs + 1) ≤ length p → Reserves rs (p ++ y) → Reserves rs (p ++ z)
reserves_front [] p y z h r =
    let f = pair_front p y (r.0) 0 0 (omega arith) (r.1) in
    (drop 16 p ++ z, pair_on p z 0 0 f.is)
reserves_front (q ∷ rs) p y z h r =
    let f = pair_front p y (r.0) (q.0) (q.1) (omega arith) (r.1) in
    let left : 16 * (length rs + 1) ≤ length (drop 16 p) = omega (arith, h, length-drop 16 p) in
    (drop 16 p ++ z, pair_on p z (q.0) (q.1) f.is, r.2, r.3, r.4, reserves_front rs (drop 16 p) y z left (subst (Reserves rs) f.behind (r.5)))

-- ---- the blocks behind a front

reserves_in_front : (p x : List ℕ) (at size : ℕ) → at ≤ length p → length p ≤ size → drop at (take size (p ++ x)) ≡ drop at p ++ take (size - length p) x
reserves_in_front p x at size h l =
    let sum : size ≡ length p + (size - length p) = omega arith in
    ap (λ (n : ℕ). drop at (take n (p ++ x))) sum ∙ ap (drop at) (take-append-add p x (size - length p)) ∙ drop-append-le at p (take (size - length p) x) h

drop_past : (p s q : List ℕ) (at more : ℕ) → at ≡ length p + length s + more → drop at (p ++ (s ++ q)) ≡ drop more q
drop_past p s q at more e =
    let sum : at ≡ length (p ++ s) + more = omega (arith, e, length-append p s) in
    ap (drop at) (sym (append_assoc p s q)) ∙ ap (λ (n : ℕ). drop n ((p ++ s) ++ q)) sum ∙ drop-append-add (p ++ s) q more

-- a blob whose structure block has other bytes, as many as before
module _ (bytes p s t q : List ℕ) (reserved : ℕ) (o : Ordered bytes reserved) (is : bytes ≡ p ++ (s ++ q)) (first : length p ≡ word_at 8 bytes) (second : length s ≡ o.size) (third : length t ≡ o.size) where
  abbrev new : List ℕ
  new = p ++ (t ++ q)

  wide : 40 ≤ length p
  wide = let a = o.first in let b = o.second in omega (arith, a, b, first)

  word_as : (place : ℕ) → place + 4 ≤ 40 → word_at place new ≡ word_at place bytes
  word_as place h = word_kept place p (t ++ q) (s ++ q) (let w = wide in omega (arith, h, w)) ∙ ap (word_at place) (sym is)

  pub told_as : structure_size_in new ≡ structure_size_in bytes
  told_as = size_kept p (t ++ q) (s ++ q) wide ∙ ap structure_size_in (sym is)

  pub boot_as : word_at 28 new ≡ word_at 28 bytes
  boot_as = word_as 28 (omega arith)

  pub fault_as : header_fault bytes ≡ None → header_fault new ≡ None
  fault_as f = fault_kept p (t ++ q) (s ++ q) wide (omega (arith, length-append t q, length-append s q, second, third)) ∙ ap header_fault (sym is) ∙ f

  pub structure_as : structure_of o.size new ≡ t
  structure_as =
      ap (λ (n : ℕ). take o.size (drop n new)) (word_as 8 (omega arith))
      ∙ ap (take o.size) (drop_at p (t ++ q) (word_at 8 bytes) first) ∙ take_at t q o.size third

  strings_by : (at size : ℕ) → length p + o.size ≤ at → take size (drop at new) ≡ take size (drop at bytes)
  strings_by at size h =
      let more : ℕ = at - (length p + o.size) in
      ap (take size) (drop_past p t q at more (omega (arith, h, third)) ∙ sym (drop_past p s q at more (omega (arith, h, second))) ∙ ap (drop at) (sym is))

  pub strings_as : strings_of new ≡ strings_of bytes
  strings_as =
      ap (λ (n : ℕ). take (word_at 32 new) (drop n new)) (word_as 12 (omega arith))
      ∙ ap (λ (n : ℕ). take n (drop (word_at 12 bytes) new)) (word_as 32 (omega arith))
      ∙ strings_by (word_at 12 bytes) (word_at 32 bytes) (let a = o.third in omega (arith, a, first))

  pub reserves_as : (rs : List (ℕ × ℕ)) → reserved ≡ 16 * (length rs + 1) → Reserves rs (reserves_of bytes) → Reserves rs (reserves_of new)
  reserves_as rs e r =
      let at : ℕ = word_at 16 bytes in
      let size : ℕ = word_at 4 bytes in
      let a = o.second in
      let b = o.third in
      let c = o.strings in
      let inside : at ≤ length p = omega (arith, a, first) in
      let long : length p ≤ size = omega (arith, b, c, first) in
      let old : reserves_of bytes ≡ drop at p ++ take (size - length p) (s ++ q) = ap (λ (x : List ℕ). drop at (take size x)) is ∙ reserves_in_front p (s ++ q) at size inside long in
      let now : reserves_of new ≡ drop at p ++ take (size - length p) (t ++ q) = ap (λ (n : ℕ). drop n (take (word_at 4 new) new)) (word_as 16 (omega arith)) ∙ ap (λ (n : ℕ). drop at (take n new)) (word_as 4 (omega arith)) ∙ reserves_in_front p (t ++ q) at size inside long in
      let room : 16 * (length rs + 1) ≤ length (drop at p) = omega (arith, a, e, first, length-drop at p) in
      subst (Reserves rs) (sym now) (reserves_front rs (drop at p) (take (size - length p) (s ++ q)) (take (size - length p) (t ++ q)) room (subst (Reserves rs) old r))
