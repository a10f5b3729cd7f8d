-- A blob whose structure block has other tokens, its blocks moved: it holds the tree that they spell.
use Rattle.std.proofs.Common.{◌≡◌, ℕ, ◌+◌, ◌-◌, ◌*◌, ◌%◌, ◌^◌, ◌≤◌, Bool, true, false, not, ◌&&◌, ◌||◌, ◌==◌, List, ◌++◌, length, take, drop, Option, Some, None, refl, ap, sym, subst, ◌∙◌, arith, append_assoc, length-append, length-drop}
use Rattle.std.specs.Prelude.{if◌then◌else◌, nat_le, nat_lt, unwrap_or}
use Rattle.std.specs.Option.{option_map_or}
use Rattle.std.proofs.Math.Seq.{take-append-add}
use Rattle.std.proofs.lemmas.List.{drop_at, drop-drop, drop-append-le, drop-take, take_at}
use Rattle.dt_tree.specs.TreeData.{TreeData, IsTree}
use Rattle.dt_blob.specs.declared.error.BlobError.{BlobError}
use Rattle.dt_blob.specs.declared.error.BlobError.TheVariants.{TooLarge, Truncated, BadMagic, BadVersion, BadLayout}
use Rattle.dt_blob.specs.HeaderWords.{fault_in, header_fault, header_of, is_laid_out, reserves_of, strings_of, structure_of, structure_size_in, word_at}
use Rattle.dt_blob.specs.Holds.{Holds, Reserves, SpellsRoot}
use Rattle.dt_blob.proofs.Tests.{both, no_fault, not_below, not_false, test_at_most, test_equal, test_not_below}
use Rattle.dt_patch.specs.declared.layout.Layout.{Layout}
use Rattle.dt_patch.specs.Private.Splicing.{IsLayout, IsRelaid}
use Rattle.dt_patch.proofs.Blocks.{Ordered, reserves_front, word_kept}

-- ---- a header without a fault

-- the tests that don't speak of where the blocks stand
record Sound (bytes : List ℕ) : Type 0 where
  short : nat_lt 268435456 (length bytes) ≡ false
  whole : nat_lt (length bytes) 40 ≡ false
  magic : not (word_at 0 bytes == 0xd00dfeed) ≡ false
  version : (nat_lt (word_at 20 bytes) 16 || nat_lt 17 (word_at 24 bytes)) ≡ false
  layout : is_laid_out (header_of bytes) ≡ true

abbrev layout_fault : List ℕ → Option BlobError
layout_fault bytes = if not (is_laid_out (header_of bytes)) then Some BadLayout else None

abbrev size_fault : List ℕ → Option BlobError
size_fault bytes = if nat_lt (length bytes) (word_at 4 bytes) then Some Truncated else layout_fault bytes

abbrev version_fault : List ℕ → Option BlobError
version_fault bytes = if nat_lt (word_at 20 bytes) 16 || nat_lt 17 (word_at 24 bytes) then Some BadVersion else size_fault bytes

sound_of : (bytes : List ℕ) → header_fault bytes ≡ None → Sound bytes
unfolding header_fault
sound_of bytes e =
    let a = no_fault (nat_lt 268435456 (length bytes)) TooLarge (if nat_lt (length bytes) 40 then Some Truncated else fault_in (header_of bytes) (length bytes)) e in
    let b = no_fault (nat_lt (length bytes) 40) Truncated (fault_in (header_of bytes) (length bytes)) (a.1) in
    let c = no_fault (not (word_at 0 bytes == 0xd00dfeed)) BadMagic (version_fault bytes) (b.1) in
    let d = no_fault (nat_lt (word_at 20 bytes) 16 || nat_lt 17 (word_at 24 bytes)) BadVersion (size_fault bytes) (c.1) in
    let f = no_fault (nat_lt (length bytes) (word_at 4 bytes)) Truncated (layout_fault bytes) (d.1) in
    let g = no_fault {E = BlobError} (not (is_laid_out (header_of bytes))) BadLayout None (f.1) in
    record { short = a.0; whole = b.0; magic = c.0; version = d.0; layout = not_false (is_laid_out (header_of bytes)) (g.0) }

faultless : (bytes : List ℕ) → nat_lt 268435456 (length bytes) ≡ false → nat_lt (length bytes) 40 ≡ false → not (word_at 0 bytes == 0xd00dfeed) ≡ false
    → (nat_lt (word_at 20 bytes) 16 || nat_lt 17 (word_at 24 bytes)) ≡ false → nat_lt (length bytes) (word_at 4 bytes) ≡ false → is_laid_out (header_of bytes) ≡ true → header_fault bytes ≡ None
unfolding header_fault
faultless bytes a b c d e f = rw (a, b, c, d, e, f) refl

pub bounded : (bytes : List ℕ) → header_fault bytes ≡ None → length bytes ≤ 2 ^ 28
bounded bytes e = not_below 268435456 (length bytes) (sound_of bytes e).short

-- the words that want it are aligned
pub record Aligned (bytes : List ℕ) : Type 0 where
  pub structure : (word_at 8 bytes % 4 == 0) ≡ true
  pub reserves : (word_at 16 bytes % 8 == 0) ≡ true

pub aligned : (bytes : List ℕ) → header_fault bytes ≡ None → Aligned bytes
aligned bytes e =
    let s = sound_of bytes e in
    let sizes : Bool = nat_le 40 (word_at 4 bytes) && nat_le (word_at 8 bytes + unwrap_or (structure_size_in bytes) 0) (word_at 4 bytes) && nat_le (word_at 12 bytes + word_at 32 bytes) (word_at 4 bytes) in
    let p = both (sizes && word_at 8 bytes % 4 == 0) (word_at 16 bytes % 8 == 0) s.layout in
    let q = both sizes (word_at 8 bytes % 4 == 0) (p.0) in
    record { structure = q.1; reserves = p.1 }

-- the size is told, and stays told
told_kept : (old new : List ℕ) (size now : ℕ) → word_at 20 new ≡ word_at 20 old → structure_size_in old ≡ Some size → word_at 36 new ≡ now → structure_size_in new ≡ Some now
told_kept old new size now v t w = by_test (nat_lt (word_at 20 old) 17) refl t where
  by_test : (b : Bool) → nat_lt (word_at 20 old) 17 ≡ b → structure_size_in old ≡ Some size → structure_size_in new ≡ Some now
  by_test true e h = absurd (let bad : None ≡ Some size = rw e at h in cc bad)
  by_test false e h = let same : nat_lt (word_at 20 new) 17 ≡ false = ap (λ (n : ℕ). nat_lt n 17) v ∙ e in rw same (ap Some w)

-- ---- the blocks in a row

-- from behind the header on
module _ (b q p s g t r : List ℕ) (at n m z : ℕ) (wide : 40 ≤ length p) (is : q ≡ p ++ (s ++ (g ++ (t ++ r)))) (behind : drop 40 b ≡ drop 40 q) (at_is : at ≡ length p) (n_is : n ≡ length s) (m_is : m ≡ length p + length s + length g) (z_is : z ≡ length t) where
  pub drop_as : (j : ℕ) → 40 ≤ j → drop j b ≡ drop j q
  drop_as j h =
      let sum : 40 + (j - 40) ≡ j = omega (arith, h) in
      ap (λ (k : ℕ). drop k b) (sym sum) ∙ sym (drop-drop (j - 40) 40 b) ∙ ap (drop (j - 40)) behind ∙ drop-drop (j - 40) 40 q ∙ ap (λ (k : ℕ). drop k q) sum

  pub structure_there : take n (drop at b) ≡ s
  structure_there = ap (take n) (drop_as at (omega (arith, wide, at_is)) ∙ ap (drop at) is ∙ drop_at p (s ++ (g ++ (t ++ r))) at (sym at_is)) ∙ take_at s (g ++ (t ++ r)) n (sym n_is)

  grouped : q ≡ (p ++ (s ++ g)) ++ (t ++ r)
  grouped = is ∙ ap (λ (x : List ℕ). p ++ x) (sym (append_assoc s g (t ++ r))) ∙ sym (append_assoc p (s ++ g) (t ++ r))

  pub strings_there : take z (drop m b) ≡ t
  strings_there =
      let place : length (p ++ (s ++ g)) ≡ m = omega (arith, m_is, length-append p (s ++ g), length-append s g) in
      ap (take z) (drop_as m (omega (arith, wide, m_is)) ∙ ap (drop m) grouped ∙ drop_at (p ++ (s ++ g)) (t ++ r) m place) ∙ take_at t r z (sym z_is)

  -- the reserved memory, and what stands behind it up to an end
  pub reserves_there : (k size : ℕ) → 40 ≤ k → k ≤ length p → length p ≤ size → (rest : List ℕ) × (drop k (take size b) ≡ drop k p ++ rest)
  reserves_there k size h l e =
      let x : List ℕ = s ++ (g ++ (t ++ r)) in
      let sum : size ≡ k + (size - k) = omega (arith, l, e) in
      let long : size - k ≡ length (drop k p) + (size - length p) = omega (arith, l, e, length-drop k p) in (
        take (size - length p) x,
        ap (λ (j : ℕ). drop k (take j b)) sum ∙ drop-take k (size - k) b
            ∙ ap (take (size - k)) (drop_as k h ∙ ap (drop k) is ∙ drop-append-le k p x l)
            ∙ ap (λ (j : ℕ). take j (drop k p ++ x)) long ∙ take-append-add (drop k p) x (size - length p),
      )

all_true : (a b c d e : Bool) → a ≡ true → b ≡ true → c ≡ true → d ≡ true → e ≡ true → (a && b && c && d && e) ≡ true
all_true a b c d e f g h i j = rw (f, g, h, i, j) refl

-- a blob's blocks before and after: what stands before the structure block may be other bytes, but for the header
pub record Shifted (bytes q final p s g t r : List ℕ) (l : Layout) : Type 0 where
  pub new : q ≡ p ++ (s ++ (g ++ (t ++ r)))
  pub relaid : IsRelaid q final l
  pub header : (place : ℕ) → place + 4 ≤ 40 → word_at place q ≡ word_at place bytes
  pub long : length q ≡ length bytes
  pub front : 40 ≤ length p
  pub aligned : (length p % 4 == 0) ≡ true
  pub inside : word_at 16 bytes ≤ length p
  pub structure_at : l.structure_at ≡ length p
  pub structure_size : l.structure_size ≡ length s
  pub strings_at : l.strings_at ≡ length p + length s + length g
  pub strings_size : l.strings_size ≡ length t
  pub size : l.strings_at + l.strings_size ≤ l.size
  pub whole : l.size ≤ length bytes

module _ (bytes q final p s g t r : List ℕ) (l : Layout) (mv : Shifted bytes q final p s g t r l) (reserved : ℕ) (o : Ordered bytes reserved) (tree changed : TreeData) (h : Holds bytes tree)
    (boot_cpu : changed.boot_cpu ≡ tree.boot_cpu) (is : IsTree changed) (root : SpellsRoot t changed.root s) (pairs : (x : List ℕ) → Reserves changed.reserves (drop (word_at 16 bytes) p ++ x)) where
  -- a word of the header that isn't changed
  word_same : (place : ℕ) → place + 4 ≤ 40 → word_at place final ≡ word_at place q → word_at place final ≡ word_at place bytes
  word_same place k e = e ∙ mv.header place k

  lay : IsLayout final l
  lay = mv.relaid.layout

  told : structure_size_in final ≡ Some l.structure_size
  told = told_kept bytes final o.size l.structure_size (word_same 20 (omega arith) mv.relaid.version) o.told (sym lay.structure_size)

  length_same : length final ≡ length bytes
  length_same = mv.relaid.long ∙ mv.long

  at_now : word_at 8 final ≡ length p
  at_now = sym lay.structure_at ∙ mv.structure_at

  ends : l.structure_at + l.structure_size ≤ l.size
  ends = let a = mv.structure_at in let b = mv.structure_size in let c = mv.strings_at in let d = mv.size in omega (arith, a, b, c, d)

  room : 40 ≤ l.size
  room = let a = ends in let b = mv.structure_at in let w = mv.front in omega (arith, a, b, w)

  laid_out : is_laid_out (header_of final) ≡ true
  laid_out =
      let al = aligned bytes h.header in
      let structure : word_at 8 final + unwrap_or (structure_size_in final) 0 ≤ word_at 4 final =
      (let a = ends in let b = lay.structure_at in let c = lay.size in let d : unwrap_or (structure_size_in final) 0 ≡ l.structure_size = ap (λ (k : Option ℕ). unwrap_or k 0) told in omega (arith, a, b, c, d)) in
      let strings : word_at 12 final + word_at 32 final ≤ word_at 4 final = (let a = mv.size in let b = lay.strings_at in let c = lay.size in let d = lay.strings_size in omega (arith, a, b, c, d)) in
      all_true (nat_le 40 (word_at 4 final)) (nat_le (word_at 8 final + unwrap_or (structure_size_in final) 0) (word_at 4 final)) (nat_le (word_at 12 final + word_at 32 final) (word_at 4 final)) (word_at 8 final % 4 == 0) (word_at 16 final % 8 == 0)
      (test_at_most 40 (word_at 4 final) (let a = room in let c = lay.size in omega (arith, a, c)))
      (test_at_most (word_at 8 final + unwrap_or (structure_size_in final) 0) (word_at 4 final) structure)
      (test_at_most (word_at 12 final + word_at 32 final) (word_at 4 final) strings)
      (ap (λ (n : ℕ). n % 4 == 0) at_now ∙ mv.aligned)
      (ap (λ (n : ℕ). n % 8 == 0) (word_same 16 (omega arith) mv.relaid.reserves_at) ∙ al.reserves)

  header_sound : header_fault final ≡ None
  header_sound =
      let sd = sound_of bytes h.header in
      faultless final (ap (λ (n : ℕ). nat_lt 268435456 n) length_same ∙ sd.short) (ap (λ (n : ℕ). nat_lt n 40) length_same ∙ sd.whole)
      (ap (λ (n : ℕ). not (n == 0xd00dfeed)) (word_same 0 (omega arith) mv.relaid.magic) ∙ sd.magic)
      (ap (λ (n : ℕ). nat_lt n 16 || nat_lt 17 (word_at 24 final)) (word_same 20 (omega arith) mv.relaid.version) ∙ ap (λ (n : ℕ). nat_lt (word_at 20 bytes) 16 || nat_lt 17 n) (word_same 24 (omega arith) mv.relaid.compatible) ∙ sd.version)
      (test_not_below (length final) (word_at 4 final) (let a = mv.whole in let b = length_same in let c = lay.size in omega (arith, a, b, c))) laid_out

  structure_now : structure_of l.structure_size final ≡ s
  structure_now =
      ap (λ (k : ℕ). take l.structure_size (drop k final)) (sym lay.structure_at)
      ∙ structure_there final q p s g t r l.structure_at l.structure_size l.strings_at l.strings_size mv.front mv.new mv.relaid.behind mv.structure_at mv.structure_size mv.strings_at mv.strings_size

  strings_now : strings_of final ≡ t
  strings_now =
      ap (λ (k : ℕ). take (word_at 32 final) (drop k final)) (sym lay.strings_at) ∙ ap (λ (k : ℕ). take k (drop l.strings_at final)) (sym lay.strings_size)
      ∙ strings_there final q p s g t r l.structure_at l.structure_size l.strings_at l.strings_size mv.front mv.new mv.relaid.behind mv.structure_at mv.structure_size mv.strings_at mv.strings_size

  reserves_now : Reserves changed.reserves (reserves_of final)
  reserves_now =
      let k : ℕ = word_at 16 bytes in
      let new_room : length p ≤ l.size = (let a = ends in let b = mv.structure_at in omega (arith, a, b)) in
      let after = reserves_there final q p s g t r l.structure_at l.structure_size l.strings_at l.strings_size mv.front mv.new mv.relaid.behind mv.structure_at mv.structure_size mv.strings_at mv.strings_size k l.size o.first mv.inside new_room in
      let now : reserves_of final ≡ drop k p ++ after.0 =
      ap (λ (n : ℕ). drop n (take (word_at 4 final) final)) (word_same 16 (omega arith) mv.relaid.reserves_at) ∙ ap (λ (n : ℕ). drop k (take n final)) (sym lay.size) ∙ after.1 in
      subst (Reserves changed.reserves) (sym now) (pairs (after.0))

  pub held_shifted : Holds final changed
  held_shifted = record {
    header = header_sound;
    reserves = reserves_now;
    structure = (
      l.structure_size,
      ap (λ (k : Option ℕ). option_map_or (λ (n : ℕ). l.structure_size == n) k (nat_le (word_at 8 final + l.structure_size) (word_at 4 final))) told ∙ test_equal l.structure_size l.structure_size refl,
      subst (λ (z : List ℕ). SpellsRoot z changed.root (structure_of l.structure_size final)) (sym strings_now) (subst (SpellsRoot t changed.root) (sym structure_now) root),
    );
    boot_cpu = boot_cpu ∙ h.boot_cpu ∙ sym (word_same 28 (omega arith) mv.relaid.boot_cpu);
    limits = is;
  }

-- the pairs before the structure block, and what is known of them
pub record Front (bytes p : List ℕ) (rs : List (ℕ × ℕ)) : Type 0 where
  pub behind : List ℕ
  pub pairs : Reserves rs (drop (word_at 16 bytes) p ++ behind)
  pub enough : 16 * (length rs + 1) ≤ length (drop (word_at 16 bytes) p)

pub front_of : (bytes p s g t r : List ℕ) (reserved : ℕ) → Ordered bytes reserved → (tree : TreeData) → Holds bytes tree → reserved ≡ 16 * (length tree.reserves + 1) → bytes ≡ p ++ (s ++ (g ++ (t ++ r))) → length p ≡ word_at 8 bytes → Front bytes p tree.reserves
front_of bytes p s g t r reserved o tree h sized old pw =
    let k : ℕ = word_at 16 bytes in
    let first = o.first in
    let second = o.second in
    let wide : 40 ≤ length p = omega (arith, first, second, pw) in
    let inside : k ≤ length p = omega (arith, second, pw) in
    let old_room : length p ≤ word_at 4 bytes = (let a = o.third in let b = o.strings in omega (arith, a, b, pw)) in
    let before = reserves_there bytes bytes p s g t r (length p) (length s) (length p + length s + length g) (length t) wide old refl refl refl refl refl k (word_at 4 bytes) first inside old_room in
    record {
      behind = before.0;
      pairs = subst (Reserves tree.reserves) (before.1) h.reserves;
      enough = omega (arith, second, pw, sized, length-drop k p);
    }

-- a blob's blocks before and after, where those before the structure block stay
pub record Moved (bytes q final p s g t r s' t' r' : List ℕ) (l : Layout) : Type 0 where
  pub old : bytes ≡ p ++ (s ++ (g ++ (t ++ r)))
  pub new : q ≡ p ++ (s' ++ (g ++ (t' ++ r')))
  pub relaid : IsRelaid q final l
  pub p_wide : length p ≡ word_at 8 bytes
  pub long : length q ≡ length bytes
  pub structure_at : l.structure_at ≡ length p
  pub structure_size : l.structure_size ≡ length s'
  pub strings_at : l.strings_at ≡ length p + length s' + length g
  pub strings_size : l.strings_size ≡ length t'
  pub size : l.strings_at + l.strings_size ≤ l.size
  pub whole : l.size ≤ length bytes

pub held_moved : (bytes q final p s g t r s' t' r' : List ℕ) (l : Layout) → Moved bytes q final p s g t r s' t' r' l → (reserved : ℕ) → Ordered bytes reserved → (tree changed : TreeData) → Holds bytes tree → reserved ≡ 16 * (length tree.reserves + 1)
    → changed.reserves ≡ tree.reserves → changed.boot_cpu ≡ tree.boot_cpu → IsTree changed → SpellsRoot t' changed.root s' → Holds final changed
held_moved bytes q final p s g t r s' t' r' l mv reserved o tree changed h sized reserves boot_cpu is root =
    let first = o.first in
    let second = o.second in
    let pw = mv.p_wide in
    let wide : 40 ≤ length p = omega (arith, first, second, pw) in
    let f = front_of bytes p s g t r reserved o tree h sized mv.old pw in
    held_shifted bytes q final p s' g t' r' l (record {
      new = mv.new;
      relaid = mv.relaid;
      header = λ place k. ap (word_at place) mv.new ∙ word_kept place p (s' ++ (g ++ (t' ++ r'))) (s ++ (g ++ (t ++ r))) (omega (arith, k, wide)) ∙ ap (word_at place) (sym mv.old);
      long = mv.long;
      front = wide;
      aligned = ap (λ (n : ℕ). n % 4 == 0) pw ∙ (aligned bytes h.header).structure;
      inside = omega (arith, second, pw);
      structure_at = mv.structure_at;
      structure_size = mv.structure_size;
      strings_at = mv.strings_at;
      strings_size = mv.strings_size;
      size = mv.size;
      whole = mv.whole;
    }) reserved o tree changed h boot_cpu is root
    (λ x. subst (λ (rs : List (ℕ × ℕ)). Reserves rs (drop (word_at 16 bytes) p ++ x)) (sym reserves) (reserves_front tree.reserves (drop (word_at 16 bytes) p) f.behind x f.enough f.pairs))
