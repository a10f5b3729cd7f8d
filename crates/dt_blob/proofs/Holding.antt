-- The tree that is read is the one that the bytes hold.
use Rattle.std.proofs.Common.{◌≡◌, ℕ, zero, suc, ◌+◌, ◌-◌, ◌^◌, ◌<◌, ◌≤◌, Bool, true, false, ◌&&◌, ◌==◌, List, [], ◌∷◌, ◌++◌, length, take, drop, Option, Some, None, refl, ap, sym, subst, ◌∙◌, arith}
use Rattle.std.specs.Prelude.{nat_lt, nat_le, unwrap_or, is_some}
use Rattle.std.specs.Option.{option_map_or}
use Rattle.std.proofs.lemmas.List.{append-nil, length-append, length-take, length-drop, take-append-drop, take_at, take-take}
use Rattle.byteorder.specs.Endian.{big_number}
use Rattle.dt_tree.specs.TreeData.{TreeData, tree_data, IsTree}
use Rattle.dt_tree.specs.NodeData.{NodeData}
use Rattle.dt_blob.specs.BigEndian.{double_word}
use Rattle.dt_blob.specs.HeaderWords.{header_of, header_fault, strings_of, structure_of, reserves_of}
use Rattle.dt_blob.specs.Holds.{Reserves, SpellsRoot, StructureSpells, Holds}
use Rattle.dt_blob.specs.Token.{tokens_of, tree_tokens}
use Rattle.dt_blob.specs.Steps.NodeBuilders.{begun, root_from}
use Rattle.dt_blob.specs.Steps.Reading.{room_of, tokens_at, structure_tokens, reserves_in, reserves_at, tree_in}
use Rattle.dt_blob.proofs.Laying.{in_place}
use Rattle.dt_blob.proofs.TokenLists.{Spelling, root_spelled, root_lexed}
use Rattle.dt_blob.proofs.Sizes.{length-double_word}
use Rattle.dt_blob.proofs.States.{root_sound, root_again}
use Rattle.dt_blob.proofs.Tests.{equal, at_most, test_equal, test_at_most, test_not_below, not_true}
use Rattle.dt_blob.proofs.Whole.{root_in, room_in, parts, tree_of_parts, reserves_sound, reserves_bytes}
use Rattle.dt_blob.proofs.Words.{AreBytes, bytes_behind, bytes_before, double_word_read, behind_double_word}

-- ---- reserves

behind_pair : (a b : ℕ) (x : List ℕ) → drop 16 (double_word a ++ (double_word b ++ x)) ≡ x
unfolding double_word
behind_pair a b x = refl

pub first_of : (bytes : List ℕ) (a b : ℕ) (rest : List ℕ) → bytes ≡ double_word a ++ (double_word b ++ rest) → a < 2 ^ 64 → b < 2 ^ 64 → (big_number 8 bytes ≡ a) × (big_number 8 (drop 8 bytes) ≡ b) × (drop 16 bytes ≡ rest) × (16 + length rest ≡ length bytes)
first_of bytes a b rest e la lb =
    let tail : List ℕ = double_word b ++ rest in (
      ap (big_number 8) e ∙ double_word_read a tail la,
      ap (λ (x : List ℕ). big_number 8 (drop 8 x)) e ∙ ap (big_number 8) (behind_double_word a tail) ∙ double_word_read b rest lb,
      ap (drop 16) e ∙ behind_pair a b rest,
      omega (arith, ap length e, length-append (double_word a) tail, length-append (double_word b) rest, length-double_word a, length-double_word b),
    )

reserves_again_in : (rs : List (ℕ × ℕ)) (n : ℕ) (bytes : List ℕ) → Reserves rs bytes → length bytes < n → reserves_in n bytes ≡ Some rs
unfolding reserves_in
reserves_again_in rs zero bytes h l = absurd (omega arith)
reserves_again_in [] (suc n) bytes h l =
    let f = first_of bytes 0 0 (h.0) (h.1) (omega arith) (omega arith) in
    let long : nat_lt (length bytes) 16 ≡ false = test_not_below (length bytes) 16 (omega (arith, f.3)) in
    rw (long, f.0, f.1) refl
reserves_again_in (r ∷ rs) (suc n) bytes h l =
    let f = first_of bytes (r.0) (r.1) (h.0) (h.1) (h.2) (h.3) in
    let long : nat_lt (length bytes) 16 ≡ false = test_not_below (length bytes) 16 (omega (arith, f.3)) in
    let some : (r.0 == 0 && r.1 == 0) ≡ false = not_true (r.0 == 0 && r.1 == 0) (h.4) in
    let later = reserves_again_in rs n (h.0) (h.5) (omega (arith, f.3)) in
    rw (long, f.0, f.1, f.2, some, later) refl

pub reserves_again : (rs : List (ℕ × ℕ)) (bytes : List ℕ) → Reserves rs bytes → reserves_at bytes ≡ Some rs
unfolding reserves_at
reserves_again rs bytes h = reserves_again_in rs (suc (length bytes)) bytes h (omega arith)

-- ---- the whole

-- a range that may be the structure block is a front of the bytes in which it stands, or all of them
pub record InRoom (sized : Bool) (part room : List ℕ) : Type 0 where
  pub rest : List ℕ
  pub is : room ≡ part ++ rest
  pub whole : sized ≡ true → rest ≡ []

pub in_room : (at size all : ℕ) (told : Option ℕ) (bytes : List ℕ) → option_map_or (λ n. size == n) told (nat_le (at + size) all) ≡ true
    → InRoom (is_some told) (take size (drop at bytes)) (take (unwrap_or told (all - at)) (drop at bytes))
in_room at size all (Some n) bytes e =
    let d : List ℕ = drop at bytes in
    record { rest = []; is = ap (λ (k : ℕ). take k d) (sym (equal size n e)) ∙ sym (append-nil (take size d)); whole = λ _. refl }
in_room at size all None bytes e =
    let d : List ℕ = drop at bytes in
    let k : ℕ = all - at in
    let front : take size (take k d) ≡ take size d = take-take size k d (let h = at_most (at + size) all e in omega arith) in
    record { rest = drop size (take k d); is = sym (take-append-drop size (take k d)) ∙ ap (λ (x : List ℕ). x ++ drop size (take k d)) front; whole = λ f. absurd (cc f) }

pub held_read : (bytes : List ℕ) (t : TreeData) → Holds bytes t → tree_in bytes ≡ Some t
held_read bytes t h =
    let head = header_of bytes in
    let strings = strings_of bytes in
    let s = h.structure in
    let sized = is_some head.structure_size in
    let r = in_room head.structure_at (s.0) head.size head.structure_size bytes (s.1) in
    let tokens : structure_tokens bytes ≡ tree_tokens t.root = ap (tokens_at sized strings) r.is ∙ root_lexed sized strings (structure_of (s.0) bytes) r.rest t.root r.whole (s.2) in
    let root : root_in bytes ≡ Some t.root = ap (root_from begun) tokens ∙ root_again t.root h.limits.sound h.limits.no_name in
    tree_of_parts bytes t.reserves t.root h.header (reserves_again t.reserves (reserves_of bytes) h.reserves) root
    ∙ ap (λ (x : ℕ). Some (tree_data t.reserves x t.root)) (sym h.boot_cpu)

pub block_bytes : (place size : ℕ) (bytes : List ℕ) → AreBytes bytes → AreBytes (take size (drop place bytes))
block_bytes place size bytes f = bytes_before size (drop place bytes) (bytes_behind place bytes f)

-- a front of the bytes in which the structure block stands, or all of them, is a range that may be the structure block
front_size : (at size all len : ℕ) (told : Option ℕ) (front rest d : List ℕ) → at + unwrap_or told (all - at) ≤ all → all ≤ len → length d ≡ len - at → take (unwrap_or told (all - at)) d ≡ front ++ rest → (is_some told ≡ true → rest ≡ []) → size ≡ length front
    → option_map_or (λ n. size == n) told (nat_le (at + size) all) ≡ true
front_size at size all len (Some n) front rest d r l m e w f =
    let none = ap length (w refl) in
    test_equal size n (omega (arith, none, ap length e, length-take n d, length-append front rest))
front_size at size all len None front rest d r l m e w f = test_at_most (at + size) all (omega (arith, ap length e, length-take (all - at) d, length-append front rest))

front_is : (k : ℕ) (front rest d : List ℕ) → take k d ≡ front ++ rest → take (length front) d ≡ front
front_is k front rest d e =
    let short : length front ≤ k = omega (arith, ap length e, length-take k d, length-append front rest) in
    sym (take-take (length front) k d short) ∙ ap (take (length front)) e ∙ take_at front rest (length front) refl

pub structure_held : (bytes : List ℕ) (root : NodeData) → header_fault bytes ≡ None → Spelling (is_some (header_of bytes).structure_size) (strings_of bytes) (room_in bytes) (tokens_of root) → StructureSpells bytes root
structure_held bytes root f s =
    let h = header_of bytes in
    let l = in_place bytes f in
    let d : List ℕ = drop h.structure_at bytes in
    let same : structure_of (length s.front) bytes ≡ s.front = front_is (room_of h) s.front s.rest d s.is in (
      length s.front,
      front_size h.structure_at (length s.front) h.size (length bytes) h.structure_size s.front s.rest d l.room l.size (length-drop h.structure_at bytes) s.is s.whole refl,
      subst (SpellsRoot (strings_of bytes) root) (sym same) (s.tokens, s.spells, s.same),
    )

pub read_held : (bytes : List ℕ) (t : TreeData) → AreBytes bytes → IsTree t → tree_in bytes ≡ Some t → Holds bytes t
read_held bytes t f l e =
    let p = parts bytes t e in
    let h = header_of bytes in
    let read = root_sound (structure_tokens bytes) t.root p.root in
    record {
      header = p.header;
      reserves = reserves_sound (reserves_of bytes) t.reserves (reserves_bytes bytes f) p.reserves;
      structure = structure_held bytes t.root p.header (root_spelled (is_some h.structure_size) (strings_of bytes) (room_in bytes) t.root (block_bytes h.structure_at (room_of h) bytes f) read.tokens);
      boot_cpu = p.boot_cpu;
      limits = l;
    }

pub one_tree : (bytes : List ℕ) (t u : TreeData) → Holds bytes t → Holds bytes u → t ≡ u
one_tree bytes t u h k = some_same t u (sym (held_read bytes t h) ∙ held_read bytes u k) where
  some_same : (x y : TreeData) → Some x ≡ Some y → x ≡ y
  some_same x y e = cc
