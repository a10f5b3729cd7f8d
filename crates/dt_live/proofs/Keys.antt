-- An index as a function of a node and a name.
use Rattle.std.proofs.Common.{◌≡◌, ◌⊎◌, inl, inr, ℕ, suc, ◌+◌, ◌<◌, Bool, true, false, not, cond, if◌then◌else◌, ◌==◌, List, [], ◌∷◌, ◌++◌, length, slice_index_or, slice_set, Option, Some, None, refl, ap, ap₂, sym, ◌∙◌, true≢false, nat_lt, arith}
use Rattle.std.specs.Str.{bytes_eq}
use Rattle.std.specs.List.{list_any, position}
use Rattle.std.proofs.lemmas.Bool.{and_parts, and_from, eqb-true, eq-eqb}
use Rattle.std.proofs.lemmas.List.{get_or-set_same, get_or-set_other, get_or_past}
use Rattle.std.proofs.lemmas.Slice.Eq.{bytes_eq-Decides}
use Rattle.dt_tree.specs.declared.key.KeyName.{KeyName}
use Rattle.dt_live.specs.declared.index.IndexEntry.{IndexEntry}
use Rattle.dt_live.specs.Index.{is_key, slot_of, absent}

abbrev pub Key : Type 0
Key = ℕ × KeyName

abbrev pub is_this : ℕ → List ℕ → Key → Bool
is_this n k key = is_key n k key.0 key.1.bytes.now

pub key-parts : (n : ℕ) (k : List ℕ) (m : ℕ) (j : List ℕ) → is_key n k m j ≡ true → (n ≡ m) × (k ≡ j)
key-parts n k m j e = let parts = and_parts (n == m) (bytes_eq k j) e in (eqb-true n m parts.0, (bytes_eq-Decides k j).0 parts.1)

pub key-same : (n : ℕ) (k : List ℕ) → is_key n k n k ≡ true
key-same n k = and_from (n == n) (bytes_eq k k) (eq-eqb n n refl) ((bytes_eq-Decides k k).1 refl)

-- two keys are one or two
pub key-cases : (n : ℕ) (k : List ℕ) (m : ℕ) (j : List ℕ) → ((is_key n k m j ≡ true) × (n ≡ m) × (k ≡ j)) ⊎ (is_key n k m j ≡ false)
key-cases n k m j = key-by (is_key n k m j) refl where
  key-by : (b : Bool) → is_key n k m j ≡ b → ((is_key n k m j ≡ true) × (n ≡ m) × (k ≡ j)) ⊎ (is_key n k m j ≡ false)
  key-by true e = let parts = key-parts n k m j e in inl (e, parts.0, parts.1)
  key-by false e = inr e

-- one place holds one key
slot-one : (keys : List Key) (n : ℕ) (k : List ℕ) (m : ℕ) (j : List ℕ) → slot_of keys n k < length keys → slot_of keys m j ≡ slot_of keys n k → (n ≡ m) × (k ≡ j)
slot-one [] n k m j within same = absurd (omega arith)
slot-one (x ∷ xs) n k m j within same = at-head (slot-one xs n k m j) (is_this n k x) (is_this m j x) refl refl where
  at-head : (slot_of xs n k < length xs → slot_of xs m j ≡ slot_of xs n k → (n ≡ m) × (k ≡ j)) → (a b : Bool) → is_this n k x ≡ a → is_this m j x ≡ b → (n ≡ m) × (k ≡ j)
  at-head rest true true ea eb =
      let one = key-parts n k x.0 x.1.bytes.now ea in
      let two = key-parts m j x.0 x.1.bytes.now eb in
      (one.0 ∙ sym two.0, one.1 ∙ sym two.1)
  at-head rest true false ea eb =
      let h : slot_of (x ∷ xs) n k ≡ 0 = rw ea refl in
      let i : slot_of (x ∷ xs) m j ≡ 1 + slot_of xs m j = rw eb refl in
      absurd (omega (arith, h, i, same))
  at-head rest false true ea eb =
      let h : slot_of (x ∷ xs) n k ≡ 1 + slot_of xs n k = rw ea refl in
      let i : slot_of (x ∷ xs) m j ≡ 0 = rw eb refl in
      absurd (omega (arith, h, i, same))
  at-head rest false false ea eb =
      let h : slot_of (x ∷ xs) n k ≡ 1 + slot_of xs n k = rw ea refl in
      let i : slot_of (x ∷ xs) m j ≡ 1 + slot_of xs m j = rw eb refl in
      rest (omega (arith, h, within)) (omega (arith, h, i, same))

-- a place that is written is that of one key
pub written : (keys : List Key) (entries : List IndexEntry) (n : ℕ) (k : List ℕ) (p : IndexEntry) (slot : ℕ) → slot ≡ slot_of keys n k → slot < length entries → length entries ≡ length keys
    → (m : ℕ) (j : List ℕ) → slice_index_or (slice_set entries slot p) (slot_of keys m j) absent ≡ (if is_key n k m j then p else slice_index_or entries (slot_of keys m j) absent)
written keys entries n k p slot at within even m j = elim (key-cases n k m j) [
  | inl same ↦
      ap (λ i. slice_index_or (slice_set entries slot p) i absent) (ap₂ (λ a b. slot_of keys a b) (sym same.1) (sym same.2) ∙ sym at)
      ∙ get_or-set_same entries slot p absent within
      ∙ ap (λ b. if b then p else slice_index_or entries (slot_of keys m j) absent) (sym same.0)
  | inr other ↦
      get_or-set_other entries slot (slot_of keys m j) p absent
      (λ e. true≢false (sym (let one = slot-one keys n k m j (omega (arith, at, within, even)) (e ∙ at) in ap₂ (λ a b. is_key n k a b) (sym one.0) (sym one.1) ∙ key-same n k) ∙ other))
      ∙ ap (λ b. if b then p else slice_index_or entries (slot_of keys m j) absent) (sym other)
]

-- a key that wasn't met has no place
unmet-slot : (keys : List Key) (n : ℕ) (k : List ℕ) → list_any (is_this n k) keys ≡ false → slot_of keys n k ≡ length keys
unmet-slot [] n k e = refl
unmet-slot (x ∷ xs) n k e = at-head (unmet-slot xs n k) (is_this n k x) refl e where
  at-head : (list_any (is_this n k) xs ≡ false → slot_of xs n k ≡ length xs) → (a : Bool) → is_this n k x ≡ a → list_any (is_this n k) (x ∷ xs) ≡ false
      → slot_of (x ∷ xs) n k ≡ length (x ∷ xs)
  at-head rest true ea e' = absurd (true≢false (rw ea at e'))
  at-head rest false ea e' =
      let none : list_any (is_this n k) xs ≡ false = rw ea at e' in
      let h : slot_of (x ∷ xs) n k ≡ 1 + slot_of xs n k = rw ea refl in
      omega (arith, h, rest none)

pub unmet : (keys : List Key) (entries : List IndexEntry) (n : ℕ) (k : List ℕ) → list_any (is_this n k) keys ≡ false → length entries ≡ length keys
    → slice_index_or entries (slot_of keys n k) absent ≡ absent
unmet keys entries n k e even = get_or_past entries (slot_of keys n k) absent (omega (arith, unmet-slot keys n k e, even))

one-more : (i : ℕ) → 1 + i ≡ suc i
one-more i = omega arith

-- one key more at the end, with no row
pub met-more : (keys : List Key) (entries : List IndexEntry) (key : Key) → length entries ≡ length keys
    → (n : ℕ) (k : List ℕ) → slice_index_or (entries ++ absent ∷ []) (slot_of (keys ++ key ∷ []) n k) absent ≡ slice_index_or entries (slot_of keys n k) absent
met-more [] [] key even n k = at-new (is_this n k key) refl where
  at-new : (b : Bool) → is_this n k key ≡ b → slice_index_or (absent ∷ []) (slot_of (key ∷ []) n k) absent ≡ absent
  at-new true e = rw e refl
  at-new false e = rw e refl
met-more [] (p ∷ ps) key even n k = absurd (omega arith)
met-more (x ∷ xs) [] key even n k = absurd (omega arith)
met-more (x ∷ xs) (p ∷ ps) key even n k = at-head (met-more xs ps key (omega arith) n k) (is_this n k x) refl where
  at-head : slice_index_or (ps ++ absent ∷ []) (slot_of (xs ++ key ∷ []) n k) absent ≡ slice_index_or ps (slot_of xs n k) absent → (b : Bool) → is_this n k x ≡ b
      → slice_index_or (p ∷ ps ++ absent ∷ []) (slot_of (x ∷ xs ++ key ∷ []) n k) absent ≡ slice_index_or (p ∷ ps) (slot_of (x ∷ xs) n k) absent
  at-head rest true e = rw e refl
  at-head rest false e =
      rw e (ap (λ i. slice_index_or (p ∷ ps ++ absent ∷ []) i absent) (one-more (slot_of (xs ++ key ∷ []) n k))
      ∙ rest ∙ sym (ap (λ i. slice_index_or (p ∷ ps) i absent) (one-more (slot_of xs n k))))

pub slot-more : (keys : List Key) (key : Key) → slot_of (keys ++ key ∷ []) key.0 key.1.bytes.now ≡ slot_of keys key.0 key.1.bytes.now
slot-more [] key = rw (key-same key.0 key.1.bytes.now) refl
slot-more (x ∷ xs) key = at-head (slot-more xs key) (is_this key.0 key.1.bytes.now x) refl where
  at-head : slot_of (xs ++ key ∷ []) key.0 key.1.bytes.now ≡ slot_of xs key.0 key.1.bytes.now → (b : Bool) → is_this key.0 key.1.bytes.now x ≡ b
      → slot_of (x ∷ xs ++ key ∷ []) key.0 key.1.bytes.now ≡ slot_of (x ∷ xs) key.0 key.1.bytes.now
  at-head rest true e = rw e refl
  at-head rest false e = rw e (ap (λ i. 1 + i) rest)

-- what a set that inserted a key says of it
pub as-met : (keys : List Key) (key : Key) (b t : Bool) → b ≡ not t → b ≡ false → (if t then keys else keys ++ key ∷ []) ≡ keys
as-met keys key b true e f = refl
as-met keys key b false e f = absurd (true≢false (sym e ∙ f))

pub as-new : (keys : List Key) (key : Key) (b t : Bool) → b ≡ not t → b ≡ true → (if t then keys else keys ++ key ∷ []) ≡ keys ++ key ∷ []
as-new keys key b false e f = refl
as-new keys key b true e f = absurd (true≢false (sym f ∙ e))

pub row-either : (b : Bool) (p q : IndexEntry) → (if b then p else q).row ≡ (if b then p.row else q.row)
row-either true p q = refl
row-either false p q = refl

pub stamp-either : (b : Bool) (p q : IndexEntry) → (if b then p else q).stamp ≡ (if b then p.stamp else q.stamp)
stamp-either true p q = refl
stamp-either false p q = refl

-- one node or the other is the same where both are
pub stamp-same : (b : Bool) (x y : ℕ) → (b ≡ true → x ≡ y) → (if b then x else y) ≡ y
stamp-same true x y e = e refl
stamp-same false x y e = refl

-- nothing changes where a key that has no row is forgotten
pub row-none : (b : Bool) (o : Option ℕ) → (b ≡ true → o ≡ None) → o ≡ (if b then None else o)
row-none true o e = e refl
row-none false o e = refl

-- what a set found is the key's place
pub found-slot : (keys : List Key) (n : ℕ) (k : List ℕ) (i : ℕ) → Some i ≡ position (is_this n k) keys → i ≡ slot_of keys n k
found-slot keys n k i e = at-test (nat_lt (slot_of keys n k) (length keys)) e where
  at-test : (b : Bool) → Some i ≡ cond b (Some (slot_of keys n k)) None → i ≡ slot_of keys n k
  at-test true e' = cc
  at-test false e' = absurd (cc)
