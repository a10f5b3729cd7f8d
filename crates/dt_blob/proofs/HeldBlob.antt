-- The blob of a tree holds the tree.
use Rattle.std.proofs.Common.{◌≡◌, ℕ, suc, ◌+◌, ◌%◌, ◌^◌, ◌<◌, ◌≤◌, Bool, true, false, not, ◌&&◌, ◌==◌, List, [], ◌∷◌, ◌++◌, length, take, drop, Option, Some, None, refl, ap, sym, subst, ◌∙◌, arith, append_assoc, length-append, length-drop}
use Rattle.std.specs.Prelude.{if◌then◌else◌, nat_lt, unwrap_or}
use Rattle.std.specs.List.{list_all}
use Rattle.std.proofs.lemmas.List.{append-nil, take_all, take_at, drop_at, drop-append-le}
use Rattle.dt_tree.specs.declared.property.Property.{Property}
use Rattle.dt_tree.specs.Name.{is_name, is_name_byte, are_names}
use Rattle.dt_tree.specs.NodeData.{NodeData, Siblings, none, more, child_names, property_names}
use Rattle.dt_tree.specs.Sound.{IsSoundBelow, IsSound}
use Rattle.dt_tree.specs.TreeData.{TreeData, IsTree, AreLong, is_reserve}
use Rattle.dt_blob.specs.BigEndian.{word, double_word}
use Rattle.dt_blob.specs.Blob.{padding, token_bytes, structure_from, names_in, reservations, header, blob_of}
use Rattle.dt_blob.specs.HeaderWords.{word_at, structure_size_in, header_of, is_laid_out, header_fault, strings_of, structure_of, reserves_of}
use Rattle.dt_blob.specs.Holds.{has_no_zero, Pads, Names, Spells, without_nops, SpellsRoot, is_structure_size, Reserves, Holds}
use Rattle.dt_blob.specs.Strings.{begins, lowest_place, ended, offset_in, with_name, with_names}
use Rattle.dt_blob.specs.Token.{Token, begin_node, end_node, property, nop, end, property_tokens, sibling_tokens, tokens_of, tree_tokens}
use Rattle.dt_blob.proofs.Blocks.{length-header, length-reservations}
use Rattle.dt_blob.proofs.Places.{new-place, old-place}
use Rattle.dt_blob.proofs.Sizes.{length-padding}
use Rattle.dt_blob.proofs.Tests.{both, equal, test_at_most, test_equal, test_not_below}
use Rattle.dt_blob.proofs.Words.{word_read}

-- ---- reserves

reserves_held : (rs : List (ℕ × ℕ)) (rest : List ℕ) → list_all is_reserve rs ≡ true → AreLong rs → Reserves rs (reservations rs ++ rest)
reserves_held [] rest a l = (rest, append_assoc (double_word 0) (double_word 0) rest)
reserves_held (r ∷ rs) rest a l =
    let p = both (is_reserve r) (list_all is_reserve rs) a in
    let more : List ℕ = reservations rs in
    (more ++ rest, append_assoc (double_word (r.0)) (double_word (r.1) ++ more) rest ∙ ap (λ (x : List ℕ). double_word (r.0) ++ x) (append_assoc (double_word (r.1)) more rest), l.0, l.1, p.0, reserves_held rs rest (p.1) (l.2))

-- ---- names in the strings

record Begins (bytes text : List ℕ) : Type 0 where
  rest : List ℕ
  is : text ≡ bytes ++ rest

begins_there : (bytes text : List ℕ) → begins bytes text ≡ true → Begins bytes text
begins_there [] text e = record { rest = text; is = refl }
begins_there (b ∷ bytes) [] e = absurd (cc e)
begins_there (b ∷ bytes) (c ∷ text) e =
    let p = both (b == c) (begins bytes text) e in
    let later = begins_there bytes text (p.1) in
    record { rest = later.rest; is = ap (λ (x : ℕ). x ∷ text) (sym (equal b c (p.0))) ∙ ap (λ (x : List ℕ). b ∷ x) later.is }

record Stands (bytes text : List ℕ) (k : ℕ) : Type 0 where
  rest : List ℕ
  is : drop k text ≡ bytes ++ rest
  inside : k ≤ length text

some_same : (x y : ℕ) → Some x ≡ Some y → x ≡ y
some_same x y e = cc

at_front : (bytes text : List ℕ) (k : ℕ) → begins bytes text ≡ true → Some 0 ≡ Some k → Stands bytes text k
at_front bytes text k b e =
    let p = begins_there bytes text b in
    subst (Stands bytes text) (some_same 0 k e) (record { rest = p.rest; is = p.is; inside = omega arith })

place_there : (bytes text : List ℕ) (k : ℕ) → lowest_place bytes text ≡ Some k → Stands bytes text k
place_there bytes [] k e = by_test _ refl e where
  by_test : (t : Bool) → begins bytes [] ≡ t → lowest_place bytes [] ≡ Some k → Stands bytes [] k
  by_test true b e = let now : Some 0 ≡ Some k = (rw b at e) in at_front bytes [] k b now
  by_test false b e = absurd (let bad : None ≡ Some k = (rw b at e) in cc)
place_there bytes (c ∷ text) k e = by_test _ refl _ refl e (place_there bytes text) where
  by_test : (t : Bool) → begins bytes (c ∷ text) ≡ t → (o : Option ℕ) → lowest_place bytes text ≡ o → lowest_place bytes (c ∷ text) ≡ Some k → ((j : ℕ) → lowest_place bytes text ≡ Some j → Stands bytes text j) → Stands bytes (c ∷ text) k
  by_test true b o f e ih = let now : Some 0 ≡ Some k = (rw b at e) in at_front bytes (c ∷ text) k b now
  by_test false b None f e ih = absurd (let bad : None ≡ Some k = (rw (b, f) at e) in cc)
  by_test false b (Some j) f e ih =
      let now : Some (suc j) ≡ Some k = (rw (b, f) at e) in
      let s = ih j f in
      let l = s.inside in
      subst (Stands bytes (c ∷ text)) (some_same (suc j) k now) (record { rest = s.rest; is = s.is; inside = omega (arith, l) })

-- the text goes on
record Extends (front whole : List ℕ) : Type 0 where
  rest : List ℕ
  is : whole ≡ front ++ rest

one_more : (strings name : List ℕ) (o : Option ℕ) → lowest_place (ended name) strings ≡ o → Extends strings (with_name strings name)
one_more strings name None e = record { rest = ended name; is = (new-place strings name e).1 }
one_more strings name (Some k) e = record { rest = []; is = (old-place strings name k e).1 ∙ sym (append-nil strings) }

all_more : (strings : List ℕ) (names : List (List ℕ)) → Extends strings (with_names strings names)
all_more strings [] = record { rest = []; is = sym (append-nil strings) }
all_more strings (n ∷ ns) =
    let later = all_more (with_name strings n) ns in
    let first = one_more strings n (lowest_place (ended n) strings) refl in
    record { rest = first.rest ++ later.rest; is = later.is ∙ ap (λ (x : List ℕ). x ++ later.rest) first.is ∙ append_assoc strings first.rest later.rest }

named_by : (strings name rest whole : List ℕ) (o : Option ℕ) → lowest_place (ended name) strings ≡ o → whole ≡ with_name strings name ++ rest → has_no_zero name ≡ true → Names whole (offset_in strings name) name
named_by strings name rest whole None e w z =
    let p = new-place strings name e in
    let all : whole ≡ strings ++ (name ++ 0 ∷ rest) =
    w ∙ ap (λ (x : List ℕ). x ++ rest) (p.1) ∙ append_assoc strings (ended name) rest ∙ ap (λ (x : List ℕ). strings ++ x) (append_assoc name (0 ∷ []) rest) in
    (rest, ap (λ (k : ℕ). drop k whole) (p.0) ∙ ap (drop (length strings)) all ∙ drop_at strings (name ++ 0 ∷ rest) (length strings) refl, z)
named_by strings name rest whole (Some k) e w z =
    let p = old-place strings name k e in
    let s = place_there (ended name) strings k e in
    let all : whole ≡ strings ++ rest = w ∙ ap (λ (x : List ℕ). x ++ rest) (p.1) in
    let here : drop k (strings ++ rest) ≡ name ++ 0 ∷ (s.rest ++ rest) =
    drop-append-le k strings rest s.inside ∙ ap (λ (x : List ℕ). x ++ rest) s.is ∙ append_assoc (ended name) s.rest rest ∙ append_assoc name (0 ∷ []) (s.rest ++ rest) in
    (s.rest ++ rest, ap (λ (j : ℕ). drop j whole) (p.0) ∙ ap (drop k) all ∙ here, z)

named : (strings name whole : List ℕ) (names : List (List ℕ)) → whole ≡ with_names (with_name strings name) names → has_no_zero name ≡ true → Names whole (offset_in strings name) name
named strings name whole names w z = let m = all_more (with_name strings name) names in named_by strings name m.rest whole (lowest_place (ended name) strings) refl (w ∙ m.is) z

named_inside : (whole : List ℕ) (place : ℕ) (name : List ℕ) → Names whole place name → place < length whole
named_inside whole place name n = omega (arith, ap length (n.1), length-drop place whole, length-append name (0 ∷ n.0))

-- ---- tokens

-- no NOP, and no zero byte in a name
abbrev Plain : List Token → Type 0
Plain [] = Unit {0}
Plain (begin_node name ∷ ts) = (has_no_zero name ≡ true) × Plain ts
Plain (end_node ∷ ts) = Plain ts
Plain (property name value ∷ ts) = (has_no_zero name ≡ true) × Plain ts
Plain (nop ∷ ts) = ⊥
Plain (end ∷ ts) = Plain ts

plain_append : (a b : List Token) → Plain a → Plain b → Plain (a ++ b)
plain_append [] b h k = k
plain_append (begin_node name ∷ a) b h k = (h.0, plain_append a b (h.1) k)
plain_append (end_node ∷ a) b h k = plain_append a b h k
plain_append (property name value ∷ a) b h k = (h.0, plain_append a b (h.1) k)
plain_append (nop ∷ a) b h k = absurd h
plain_append (end ∷ a) b h k = plain_append a b h k

no_nops : (ts : List Token) → Plain ts → without_nops ts ≡ ts
no_nops [] h = refl
no_nops (begin_node name ∷ ts) h = ap (λ (x : List Token). begin_node name ∷ x) (no_nops ts (h.1))
no_nops (end_node ∷ ts) h = ap (λ (x : List Token). end_node ∷ x) (no_nops ts h)
no_nops (property name value ∷ ts) h = ap (λ (x : List Token). property name value ∷ x) (no_nops ts (h.1))
no_nops (nop ∷ ts) h = absurd h
no_nops (end ∷ ts) h = ap (λ (x : List Token). end ∷ x) (no_nops ts h)

not_zero : (b : ℕ) → is_name_byte b ≡ true → not (b == 0) ≡ true
not_zero b e = by_test _ refl where
  by_test : (t : Bool) → (b == 0) ≡ t → not (b == 0) ≡ true
  by_test false f = rw f refl
  by_test true f = absurd (let bad : is_name_byte 0 ≡ true = subst (λ (x : ℕ). is_name_byte x ≡ true) (equal b 0 f) e in cc)

no_zeros : (name : List ℕ) → list_all is_name_byte name ≡ true → has_no_zero name ≡ true
no_zeros [] e = refl
no_zeros (b ∷ name) e = let p = both (is_name_byte b) (list_all is_name_byte name) e in rw (not_zero b (p.0)) (no_zeros name (p.1))

otherwise : (t o : Bool) → (if t then false else o) ≡ true → o ≡ true
otherwise true o e = absurd (cc e)
otherwise false o e = e

lawful : (name : List ℕ) → is_name name ≡ true → has_no_zero name ≡ true
lawful name e =
    let a = otherwise (length name == 0) (if nat_lt 255 (length name) then false else list_all is_name_byte name) e in
    no_zeros name (otherwise (nat_lt 255 (length name)) (list_all is_name_byte name) a)

plain_properties : (ps : List Property) → are_names (property_names ps) ≡ true → Plain (property_tokens ps)
plain_properties [] e = tt
plain_properties (p ∷ ps) e = let q = both (is_name p.name) (are_names (property_names ps)) e in (lawful p.name (q.0), plain_properties ps (q.1))

plain_siblings : (f : Siblings) → are_names (child_names f) ≡ true → IsSoundBelow f → Plain (sibling_tokens f)
plain_siblings none e s = tt
plain_siblings (more n p c rest) e s =
    let q = both (is_name n) (are_names (child_names rest)) e in (
      lawful n (q.0),
      plain_append (property_tokens p) (sibling_tokens c ++ end_node ∷ sibling_tokens rest) (plain_properties p s.0.named)
          (plain_append (sibling_tokens c) (end_node ∷ sibling_tokens rest) (plain_siblings c s.1.named s.2) (plain_siblings rest (q.1) s.3)),
    )

plain_root : (root : NodeData) → root.name ≡ [] → IsSound root → Plain (tokens_of root)
plain_root root e s = (
  ap has_no_zero e,
  plain_append (property_tokens root.properties) (sibling_tokens root.children ++ end_node ∷ []) (plain_properties root.properties s.properties.named)
      (plain_append (sibling_tokens root.children) (end_node ∷ []) (plain_siblings root.children s.siblings.named s.below) tt),
)

pads_padding : (n : ℕ) → Pads n (padding n)
pads_padding n = let l = length-padding n in (omega (arith, l), subst (λ (k : ℕ). (n + k) % 4 ≡ 0) (sym l) (omega arith))

spelled : (whole : List ℕ) (ts : List Token) (strings : List ℕ) → whole ≡ with_names strings (names_in ts) → length whole < 2 ^ 32 → length (structure_from strings ts) < 2 ^ 32 → Plain ts → Spells whole ts (structure_from strings ts)
spelled whole [] strings w lw ls p = refl
spelled whole (begin_node name ∷ ts) strings w lw ls p =
    let first : List ℕ = token_bytes strings (begin_node name) in
    let others : List ℕ = structure_from strings ts in
    (first, others, refl, (padding (length name + 1), refl, pads_padding (length name + 1), p.0), spelled whole ts strings w lw (omega (arith, length-append first others)) (p.1))
spelled whole (end_node ∷ ts) strings w lw ls p =
    let others : List ℕ = structure_from strings ts in
    (word 2, others, refl, refl, spelled whole ts strings w lw (omega (arith, length-append (word 2) others)) p)
spelled whole (property name value ∷ ts) strings w lw ls p =
    let first : List ℕ = token_bytes strings (property name value) in
    let others : List ℕ = structure_from (with_name strings name) ts in
    let n = named strings name whole (names_in ts) w (p.0) in
    let offset : List ℕ = word (offset_in strings name) in
    let small : length value < 2 ^ 32 = omega (arith, length-append first others, length-append (word 3) (word (length value) ++ (offset ++ (value ++ padding (length value)))), length-append (word (length value)) (offset ++ (value ++ padding (length value))), length-append offset (value ++ padding (length value)), length-append value (padding (length value))) in
    (first, others, refl, (offset_in strings name, padding (length value), refl, small, omega (arith, named_inside whole (offset_in strings name) name n), pads_padding (length value), n), spelled whole ts (with_name strings name) w lw (omega (arith, length-append first others)) (p.1))
spelled whole (nop ∷ ts) strings w lw ls p = absurd p
spelled whole (end ∷ ts) strings w lw ls p =
    let others : List ℕ = structure_from strings ts in
    (word 9, others, refl, refl, spelled whole ts strings w lw (omega (arith, length-append (word 9) others)) p)

root_held : (whole : List ℕ) (root : NodeData) → root.name ≡ [] → IsSound root → whole ≡ with_names [] (names_in (tree_tokens root)) → length whole < 2 ^ 32 → length (structure_from [] (tree_tokens root)) < 2 ^ 32
    → SpellsRoot whole root (structure_from [] (tree_tokens root))
root_held whole root e s w lw ls =
    let p = plain_root root e s in
    (tokens_of root, spelled whole (tree_tokens root) [] w lw ls (plain_append (tokens_of root) (end ∷ []) p tt), no_nops (tokens_of root) p)

-- ---- the header

-- the words of the header before three blocks
record Words (bytes : List ℕ) (boot r s t : ℕ) : Type 0 where
  magic : word_at 0 bytes ≡ 3490578157
  size : word_at 4 bytes ≡ 40 + r + s + t
  structure_at : word_at 8 bytes ≡ 40 + r
  strings_at : word_at 12 bytes ≡ 40 + r + s
  reserves_at : word_at 16 bytes ≡ 40
  version : word_at 20 bytes ≡ 17
  last_compatible : word_at 24 bytes ≡ 16
  boot_cpu : word_at 28 bytes ≡ boot
  strings_size : word_at 32 bytes ≡ t
  structure_size : word_at 36 bytes ≡ s

words_of : (boot r s t : ℕ) (rest : List ℕ) → boot < 2 ^ 32 → 40 + r + s + t < 2 ^ 32 → Words (header boot r s t ++ rest) boot r s t
unfolding word
words_of boot r s t rest b l = record {
  magic = word_read 3490578157 [] (omega arith);
  size = word_read (40 + r + s + t) [] l;
  structure_at = word_read (40 + r) [] (omega arith);
  strings_at = word_read (40 + r + s) [] (omega arith);
  reserves_at = word_read 40 [] (omega arith);
  version = word_read 17 [] (omega arith);
  last_compatible = word_read 16 [] (omega arith);
  boot_cpu = word_read boot [] b;
  strings_size = word_read t [] (omega arith);
  structure_size = word_read s [] (omega arith);
}

-- version 17 has the size of the structure block
size_told : (bytes : List ℕ) (boot r s t : ℕ) → Words bytes boot r s t → structure_size_in bytes ≡ Some s
size_told bytes boot r s t w =
    let version = w.version in
    let new : nat_lt (word_at 20 bytes) 17 ≡ false = test_not_below (word_at 20 bytes) 17 (omega arith) in
    rw new (ap (λ (x : ℕ). Some x) w.structure_size)

is_size : (bytes : List ℕ) (boot r s t : ℕ) → Words bytes boot r s t → is_structure_size (header_of bytes) s ≡ true
is_size bytes boot r s t w = let told = size_told bytes boot r s t w in rw told (test_equal s s refl)

all_true : (a b : Bool) → a ≡ true → b ≡ true → (a && b) ≡ true
all_true a b e f = rw (e, f) refl

laid_out : (bytes : List ℕ) (boot r s t : ℕ) → r % 4 ≡ 0 → Words bytes boot r s t → is_laid_out (header_of bytes) ≡ true
laid_out bytes boot r s t m w =
    let size = w.size in
    let structure_at = w.structure_at in
    let strings_at = w.strings_at in
    let reserves_at = w.reserves_at in
    let strings_size = w.strings_size in
    let structure_size = ap (λ (o : Option ℕ). unwrap_or o 0) (size_told bytes boot r s t w) in
    all_true _ _ (all_true _ _ (all_true _ _ (all_true _ _
    (test_at_most 40 (word_at 4 bytes) (omega arith))
    (test_at_most (word_at 8 bytes + unwrap_or (structure_size_in bytes) 0) (word_at 4 bytes) (omega arith)))
    (test_at_most (word_at 12 bytes + word_at 32 bytes) (word_at 4 bytes) (omega arith)))
    (test_equal (word_at 8 bytes % 4) 0 (omega arith)))
    (test_equal (word_at 16 bytes % 8) 0 (omega arith))

no_header_fault : (bytes : List ℕ) (boot r s t : ℕ) → r % 4 ≡ 0 → length bytes ≡ 40 + r + s + t → length bytes ≤ 2 ^ 28 → Words bytes boot r s t → header_fault bytes ≡ None
unfolding header_fault
no_header_fault bytes boot r s t m l h w =
    let size = w.size in
    let version = w.version in
    let last = w.last_compatible in
    let large : nat_lt (2 ^ 28) (length bytes) ≡ false = test_not_below (2 ^ 28) (length bytes) h in
    let short : nat_lt (length bytes) 40 ≡ false = test_not_below (length bytes) 40 (omega arith) in
    let magic : (word_at 0 bytes == 0xd00dfeed) ≡ true = test_equal (word_at 0 bytes) 0xd00dfeed w.magic in
    let old : nat_lt (word_at 20 bytes) 16 ≡ false = test_not_below (word_at 20 bytes) 16 (omega arith) in
    let new : nat_lt 17 (word_at 24 bytes) ≡ false = test_not_below 17 (word_at 24 bytes) (omega arith) in
    let whole : nat_lt (length bytes) (word_at 4 bytes) ≡ false = test_not_below (length bytes) (word_at 4 bytes) (omega arith) in
    rw (large, short, magic, old, new, whole, laid_out bytes boot r s t m w) refl

-- ---- the blocks

reserves_there : (bytes h rs ss ts : List ℕ) (boot : ℕ) → length h ≡ 40 → bytes ≡ h ++ (rs ++ (ss ++ ts)) → Words bytes boot (length rs) (length ss) (length ts) → reserves_of bytes ≡ rs ++ (ss ++ ts)
reserves_there bytes h rs ss ts boot l e w =
    let len : length bytes ≡ 40 + length rs + length ss + length ts = omega (arith, ap length e, length-append h (rs ++ (ss ++ ts)), length-append rs (ss ++ ts), length-append ss ts) in
    ap (λ (k : ℕ). drop k (take (word_at 4 bytes) bytes)) w.reserves_at
    ∙ ap (drop 40) (take_all (word_at 4 bytes) bytes (let size = w.size in omega arith))
    ∙ ap (drop 40) e ∙ drop_at h (rs ++ (ss ++ ts)) 40 l

structure_there : (bytes h rs ss ts : List ℕ) (boot : ℕ) → length h ≡ 40 → bytes ≡ h ++ (rs ++ (ss ++ ts)) → Words bytes boot (length rs) (length ss) (length ts) → structure_of (length ss) bytes ≡ ss
structure_there bytes h rs ss ts boot l e w =
    let front : length (h ++ rs) ≡ 40 + length rs = omega (arith, length-append h rs) in
    ap (λ (k : ℕ). take (length ss) (drop k bytes)) w.structure_at
    ∙ ap (λ (x : List ℕ). take (length ss) (drop (40 + length rs) x)) (e ∙ sym (append_assoc h rs (ss ++ ts)))
    ∙ ap (take (length ss)) (drop_at (h ++ rs) (ss ++ ts) (40 + length rs) front)
    ∙ take_at ss ts (length ss) refl

strings_there : (bytes h rs ss ts : List ℕ) (boot : ℕ) → length h ≡ 40 → bytes ≡ h ++ (rs ++ (ss ++ ts)) → Words bytes boot (length rs) (length ss) (length ts) → strings_of bytes ≡ ts
strings_there bytes h rs ss ts boot l e w =
    let front : length ((h ++ rs) ++ ss) ≡ 40 + length rs + length ss = omega (arith, length-append (h ++ rs) ss, length-append h rs) in
    ap (λ (k : ℕ). take k (drop (word_at 12 bytes) bytes)) w.strings_size
    ∙ ap (λ (k : ℕ). take (length ts) (drop k bytes)) w.strings_at
    ∙ ap (λ (x : List ℕ). take (length ts) (drop (40 + length rs + length ss) x)) (e ∙ sym (append_assoc h rs (ss ++ ts)) ∙ sym (append_assoc (h ++ rs) ss ts))
    ∙ ap (take (length ts)) (drop_at ((h ++ rs) ++ ss) ts (40 + length rs + length ss) front)
    ∙ take_all (length ts) ts (omega arith)

pub blob_holds : (tree : TreeData) → IsTree tree → length (blob_of tree) ≤ 2 ^ 28 → Holds (blob_of tree) tree
blob_holds tree i h =
    let bytes : List ℕ = blob_of tree in
    let rs : List ℕ = reservations tree.reserves in
    let tokens : List Token = tree_tokens tree.root in
    let ss : List ℕ = structure_from [] tokens in
    let ts : List ℕ = with_names [] (names_in tokens) in
    let head : List ℕ = header tree.boot_cpu (length rs) (length ss) (length ts) in
    let l : length head ≡ 40 = length-header tree.boot_cpu (length rs) (length ss) (length ts) in
    let len : length bytes ≡ 40 + length rs + length ss + length ts = omega (arith, l, length-append head (rs ++ (ss ++ ts)), length-append rs (ss ++ ts), length-append ss ts) in
    let w : Words bytes tree.boot_cpu (length rs) (length ss) (length ts) = words_of tree.boot_cpu (length rs) (length ss) (length ts) (rs ++ (ss ++ ts)) i.boot_cpu_fits (omega (arith, len, h)) in
    let m : length rs % 4 ≡ 0 = omega (arith, length-reservations tree.reserves) in
    record {
      header = no_header_fault bytes tree.boot_cpu (length rs) (length ss) (length ts) m len h w;
      reserves = subst (Reserves tree.reserves) (sym (reserves_there bytes head rs ss ts tree.boot_cpu l refl w)) (reserves_held tree.reserves (ss ++ ts) i.no_end i.long);
      structure = (
        length ss,
        is_size bytes tree.boot_cpu (length rs) (length ss) (length ts) w,
        subst (λ (x : List ℕ). SpellsRoot x tree.root (structure_of (length ss) bytes)) (sym (strings_there bytes head rs ss ts tree.boot_cpu l refl w))
            (subst (SpellsRoot ts tree.root) (sym (structure_there bytes head rs ss ts tree.boot_cpu l refl w)) (root_held ts tree.root i.no_name i.sound refl (omega (arith, len, h)) (omega (arith, len, h)))),
      );
      boot_cpu = sym w.boot_cpu;
      limits = i;
    }
