-- Bytes put in the place of others, one after the other.
use Rattle.std.proofs.Common.{◌≡◌, ◌⊎◌, inl, inr, ℕ, ◌+◌, ◌-◌, ◌^◌, ◌<◌, ◌≤◌, List, ◌++◌, length, take, drop, ap, sym, ◌∙◌, arith, append_assoc, length-append, length-drop}
use Rattle.std.proofs.Math.Seq.{drop-append-add, take-append-add}
use Rattle.std.proofs.lemmas.List.{drop_at, drop-drop, length-take, take-append-drop, take_at}
use Rattle.dt_blob.specs.BigEndian.{word}
use Rattle.dt_blob.specs.HeaderWords.{word_at}
use Rattle.dt_blob.proofs.Sizes.{length-word}
use Rattle.dt_blob.proofs.Words.{word_read}
use Rattle.byteorder.specs.Endian.{big_number}
use Rattle.dt_patch.specs.Private.Places.{put_at}
use Rattle.dt_patch.specs.declared.layout.Layout.{Layout}
use Rattle.dt_patch.specs.Private.Splicing.{IsRelaid, between, spliced}
use Rattle.dt_patch.proofs.Blocks.{word_kept}

pub cut : (n : ℕ) (x : List ℕ) → x ≡ take n x ++ drop n x
cut n x = sym (take-append-drop n x)

pub length-put : (x : List ℕ) (at : ℕ) (w : List ℕ) → at + length w ≤ length x → length (put_at x at w) ≡ length x
length-put x at w h = omega (arith, h, length-append (take at x) (w ++ drop (at + length w) x), length-append w (drop (at + length w) x), length-take at x, length-drop (at + length w) x)

-- bytes put in the place of as many
pub put_there : (bytes a v w rest : List ℕ) (at : ℕ) → bytes ≡ a ++ (v ++ rest) → length a ≡ at → length w ≡ length v → put_at bytes at w ≡ a ++ (w ++ rest)
put_there bytes a v w rest at is len same =
    let both : bytes ≡ (a ++ v) ++ rest = is ∙ sym (append_assoc a v rest) in
    let place : length (a ++ v) ≡ at + length w = omega (arith, length-append a v, len, same) in
    ap (λ (z : List ℕ). z ++ (w ++ drop (at + length w) bytes)) (ap (take at) is ∙ take_at a (v ++ rest) at len)
    ∙ ap (λ (z : List ℕ). a ++ (w ++ z)) (ap (drop (at + length w)) both ∙ drop_at (a ++ v) rest (at + length w) place)

-- what stands behind bytes that were put
pub drop_put : (x : List ℕ) (at j : ℕ) (w : List ℕ) → at + length w ≤ j → at ≤ length x → drop j (put_at x at w) ≡ drop j x
drop_put x at j w h l =
    let f : List ℕ = take at x ++ w in
    let rest : List ℕ = drop (at + length w) x in
    let wide : length f ≡ at + length w = omega (arith, l, length-append (take at x) w, length-take at x) in
    let more : ℕ = j - (at + length w) in
    let sum : j ≡ length f + more = omega (arith, h, wide) in
    let back : at + length w + more ≡ j = omega (arith, h) in
    ap (drop j) (sym (append_assoc (take at x) w rest)) ∙ ap (λ (n : ℕ). drop n (f ++ rest)) sum ∙ drop-append-add f rest more
    ∙ drop-drop more (at + length w) x ∙ ap (λ (n : ℕ). drop n x) back

pub put_twice : (x : List ℕ) (at : ℕ) (a b : List ℕ) → at ≤ length x → put_at (put_at x at a) (at + length a) b ≡ put_at x at (a ++ b)
put_twice x at a b h =
    let f : List ℕ = take at x in
    let r : List ℕ = drop (at + length a) x in
    let wide : length f ≡ at = omega (arith, h, length-take at x) in
    let both : put_at x at a ≡ (f ++ a) ++ r = sym (append_assoc f a r) in
    let place : length (f ++ a) ≡ at + length a = omega (arith, wide, length-append f a) in
    let front : take (at + length a) (put_at x at a) ≡ f ++ a = ap (take (at + length a)) both ∙ take_at (f ++ a) r (at + length a) place in
    let sum : at + length a + length b ≡ at + length (a ++ b) = omega (arith, length-append a b) in
    let back : drop (at + length a + length b) (put_at x at a) ≡ drop (at + length (a ++ b)) x =
    drop_put x at (at + length a + length b) a (omega arith) h ∙ ap (λ (n : ℕ). drop n x) sum in
    ap (λ (z : List ℕ). z ++ (b ++ drop (at + length a + length b) (put_at x at a))) front
    ∙ ap (λ (z : List ℕ). (f ++ a) ++ (b ++ z)) back
    ∙ append_assoc f a (b ++ drop (at + length (a ++ b)) x)
    ∙ ap (λ (z : List ℕ). f ++ z) (sym (append_assoc a b (drop (at + length (a ++ b)) x)))

-- ---- words

pub word_put : (x : List ℕ) (k v : ℕ) → k ≤ length x → v < 2 ^ 32 → word_at k (put_at x k (word v)) ≡ v
word_put x k v h l =
    let wide : length (take k x) ≡ k = omega (arith, h, length-take k x) in
    ap (big_number 4) (drop_at (take k x) (word v ++ drop (k + length (word v)) x) k wide) ∙ word_read v (drop (k + length (word v)) x) l

pub word_apart : (x : List ℕ) (j k v : ℕ) → (j + 4 ≤ k) ⊎ (k + 4 ≤ j) → k ≤ length x → word_at j (put_at x k (word v)) ≡ word_at j x
word_apart x j k v (inl b) h =
    let wide : length (take k x) ≡ k = omega (arith, h, length-take k x) in
    word_kept j (take k x) (word v ++ drop (k + length (word v)) x) (drop k x) (omega (arith, b, wide)) ∙ ap (word_at j) (take-append-drop k x)
word_apart x j k v (inr b) h = ap (big_number 4) (drop_put x k j (word v) (omega (arith, b, length-word v)) h)

-- ---- the whole of a change

pub length-between : (from to : ℕ) (x : List ℕ) → from ≤ to → to ≤ length x → length (between from to x) ≡ to - from
length-between from to x h l = omega (arith, h, l, length-take (to - from) (drop from x), length-drop from x)

take_more : (at n : ℕ) (x : List ℕ) → at ≤ length x → take (at + n) x ≡ take at x ++ take n (drop at x)
take_more at n x h =
    let wide : length (take at x) ≡ at = omega (arith, h, length-take at x) in
    ap (take (at + n)) (cut at x) ∙ ap (λ (k : ℕ). take (k + n) (take at x ++ drop at x)) (sym wide) ∙ take-append-add (take at x) (drop at x) n

module _ (x : List ℕ) (at next end : ℕ) (new added : List ℕ) (a : at ≤ next) (b : next ≤ end) (c : end ≤ length x) (fits : at + length new + (end - next) + length added ≤ length x) where
  abbrev mid : List ℕ
  mid = between next end x

  mid_wide : length mid ≡ end - next
  mid_wide = length-between next end x b c

  abbrev behind : List ℕ
  behind = drop (at + length new + length mid) x

  abbrev gone : List ℕ
  gone = take (length new) (drop at x)

  gone_wide : length gone ≡ length new
  gone_wide = omega (arith, fits, length-take (length new) (drop at x), length-drop at x)

  at_wide : length (take at x) ≡ at
  at_wide = omega (arith, fits, length-take at x)

  -- what was moved
  moved : put_at x (at + length new) mid ≡ take at x ++ (gone ++ (mid ++ behind))
  moved = ap (λ (z : List ℕ). z ++ (mid ++ behind)) (take_more at (length new) x (omega (arith, fits))) ∙ append_assoc (take at x) gone (mid ++ behind)

  filled : put_at (put_at x (at + length new) mid) at new ≡ take at x ++ (new ++ (mid ++ behind))
  filled = put_there (put_at x (at + length new) mid) (take at x) gone new (mid ++ behind) at moved at_wide (sym gone_wide)

  abbrev front : List ℕ
  front = take at x ++ (new ++ mid)

  front_wide : length front ≡ at + length new + length mid
  front_wide = let w = at_wide in omega (arith, w, length-append (take at x) (new ++ mid), length-append new mid)

  over_wide : length (take (length added) behind) ≡ length added
  over_wide = let w = mid_wide in omega (arith, w, fits, length-take (length added) behind, length-drop (at + length new + length mid) x)

  together : (z : List ℕ) → front ++ z ≡ take at x ++ (new ++ (mid ++ z))
  together z = append_assoc (take at x) (new ++ mid) z ∙ ap (λ (y : List ℕ). take at x ++ y) (append_assoc new mid z)

  pub spliced_by : put_at (put_at (put_at x (at + length new) mid) at new) (at + length new + (end - next)) added ≡ spliced x at next end new added
  spliced_by =
      let w = mid_wide in
      let split : put_at (put_at x (at + length new) mid) at new ≡ front ++ (take (length added) behind ++ drop (length added) behind) =
      filled ∙ sym (together behind) ∙ ap (λ (z : List ℕ). front ++ z) (cut (length added) behind) in
      let place : length front ≡ at + length new + (end - next) = (let f = front_wide in omega (arith, f, w)) in
      let rest : drop (length added) behind ≡ drop (at + length new + (end - next) + length added) x =
      drop-drop (length added) (at + length new + length mid) x ∙ ap (λ (k : ℕ). drop (at + length new + k + length added) x) w in
      put_there (put_at (put_at x (at + length new) mid) at new) front (take (length added) behind) added (drop (length added) behind) (at + length new + (end - next)) split place (sym over_wide)
      ∙ together (added ++ drop (length added) behind)
      ∙ ap (λ (z : List ℕ). take at x ++ (new ++ (mid ++ (added ++ z)))) rest

-- ---- pieces one behind the other

pub put_more : (x b c : List ℕ) (at j : ℕ) (a w : List ℕ) → at ≤ length x → b ≡ put_at x at a → j ≡ at + length a → c ≡ put_at b j w → c ≡ put_at x at (a ++ w)
put_more x b c at j a w h e f g = g ∙ ap (λ (z : List ℕ). put_at z j w) e ∙ ap (λ (k : ℕ). put_at (put_at x at a) k w) f ∙ put_twice x at a w h

pub put_five : (x b c d e f : List ℕ) (at : ℕ) (p q r v z : List ℕ) → at ≤ length x → length p ≡ 4 → length q ≡ 4 → length r ≡ 4 → b ≡ put_at x at p → c ≡ put_at b (at + 4) q → d ≡ put_at c (at + 8) r → e ≡ put_at d (at + 12) v → f ≡ put_at e (at + 12 + length v) z
    → f ≡ put_at x at (p ++ (q ++ (r ++ (v ++ z))))
put_five x b c d e f at p q r v z h lp lq lr eb ec ed ee ef =
    let two = put_more x b c at (at + 4) p q h eb (omega (arith, lp)) ec in
    let three = put_more x c d at (at + 8) (p ++ q) r h two (omega (arith, lp, lq, length-append p q)) ed in
    let four = put_more x d e at (at + 12) ((p ++ q) ++ r) v h three (omega (arith, lp, lq, lr, length-append p q, length-append (p ++ q) r)) ee in
    let five = put_more x e f at (at + 12 + length v) (((p ++ q) ++ r) ++ v) z h four (omega (arith, lp, lq, lr, length-append p q, length-append (p ++ q) r, length-append ((p ++ q) ++ r) v)) ef in
    let same : (((p ++ q) ++ r) ++ v) ++ z ≡ p ++ (q ++ (r ++ (v ++ z))) =
    append_assoc ((p ++ q) ++ r) v z ∙ append_assoc (p ++ q) r (v ++ z) ∙ append_assoc p q (r ++ (v ++ z)) in
    five ∙ ap (put_at x at) same

pub long_after : (x b : List ℕ) (at : ℕ) (w : List ℕ) → b ≡ put_at x at w → at + length w ≤ length x → length b ≡ length x
long_after x b at w e h = ap length e ∙ length-put x at w h

-- ---- the header's words

record PutWord (b c : List ℕ) (k v : ℕ) : Type 0 where
  long : length c ≡ length b
  far : drop 40 c ≡ drop 40 b
  got : word_at k c ≡ v
  kept : (j : ℕ) → (j + 4 ≤ k) ⊎ (k + 4 ≤ j) → word_at j c ≡ word_at j b

one_word : (b c : List ℕ) (k v : ℕ) → c ≡ put_at b k (word v) → k + 4 ≤ 40 → 40 ≤ length b → v < 2 ^ 32 → PutWord b c k v
one_word b c k v e h l f =
    let inside : k + length (word v) ≤ length b = omega (arith, h, l, length-word v) in
    let first : k ≤ length b = omega (arith, h, l) in
    record {
      long = ap length e ∙ length-put b k (word v) inside;
      far = ap (drop 40) e ∙ drop_put b k 40 (word v) (omega (arith, h, length-word v)) first;
      got = ap (word_at k) e ∙ word_put b k v first f;
      kept = λ j s. ap (word_at j) e ∙ word_apart b j k v s first;
    }

pub relaid : (x b c d e f : List ℕ) (l : Layout) → 40 ≤ length x → l.size < 2 ^ 32 → l.structure_at < 2 ^ 32 → l.strings_at < 2 ^ 32 → l.strings_size < 2 ^ 32 → l.structure_size < 2 ^ 32
    → b ≡ put_at x 4 (word l.size) → c ≡ put_at b 8 (word l.structure_at) → d ≡ put_at c 12 (word l.strings_at) → e ≡ put_at d 32 (word l.strings_size) → f ≡ put_at e 36 (word l.structure_size) → IsRelaid x f l
relaid x b c d e f l h k1 k2 k3 k4 k5 e1 e2 e3 e4 e5 =
    let s1 = one_word x b 4 l.size e1 (omega arith) h k1 in
    let l1 = s1.long in
    let s2 = one_word b c 8 l.structure_at e2 (omega arith) (omega (arith, h, l1)) k2 in
    let l2 = s2.long in
    let s3 = one_word c d 12 l.strings_at e3 (omega arith) (omega (arith, h, l1, l2)) k3 in
    let l3 = s3.long in
    let s4 = one_word d e 32 l.strings_size e4 (omega arith) (omega (arith, h, l1, l2, l3)) k4 in
    let l4 = s4.long in
    let s5 = one_word e f 36 l.structure_size e5 (omega arith) (omega (arith, h, l1, l2, l3, l4)) k5 in
    record {
      behind = s5.far ∙ s4.far ∙ s3.far ∙ s2.far ∙ s1.far;
      long = s5.long ∙ s4.long ∙ s3.long ∙ s2.long ∙ s1.long;
      layout = record {
        size = sym (s5.kept 4 (inl (omega arith)) ∙ s4.kept 4 (inl (omega arith)) ∙ s3.kept 4 (inl (omega arith)) ∙ s2.kept 4 (inl (omega arith)) ∙ s1.got);
        structure_at = sym (s5.kept 8 (inl (omega arith)) ∙ s4.kept 8 (inl (omega arith)) ∙ s3.kept 8 (inl (omega arith)) ∙ s2.got);
        strings_at = sym (s5.kept 12 (inl (omega arith)) ∙ s4.kept 12 (inl (omega arith)) ∙ s3.got);
        strings_size = sym (s5.kept 32 (inl (omega arith)) ∙ s4.got);
        structure_size = sym s5.got;
      };
      magic = s5.kept 0 (inl (omega arith)) ∙ s4.kept 0 (inl (omega arith)) ∙ s3.kept 0 (inl (omega arith)) ∙ s2.kept 0 (inl (omega arith)) ∙ s1.kept 0 (inl (omega arith));
      reserves_at = s5.kept 16 (inl (omega arith)) ∙ s4.kept 16 (inl (omega arith)) ∙ s3.kept 16 (inr (omega arith)) ∙ s2.kept 16 (inr (omega arith)) ∙ s1.kept 16 (inr (omega arith));
      version = s5.kept 20 (inl (omega arith)) ∙ s4.kept 20 (inl (omega arith)) ∙ s3.kept 20 (inr (omega arith)) ∙ s2.kept 20 (inr (omega arith)) ∙ s1.kept 20 (inr (omega arith));
      compatible = s5.kept 24 (inl (omega arith)) ∙ s4.kept 24 (inl (omega arith)) ∙ s3.kept 24 (inr (omega arith)) ∙ s2.kept 24 (inr (omega arith)) ∙ s1.kept 24 (inr (omega arith));
      boot_cpu = s5.kept 28 (inl (omega arith)) ∙ s4.kept 28 (inl (omega arith)) ∙ s3.kept 28 (inr (omega arith)) ∙ s2.kept 28 (inr (omega arith)) ∙ s1.kept 28 (inr (omega arith));
    }
