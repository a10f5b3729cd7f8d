-- Tokens: what is read is spelled so, and what is spelled so is read.
use Rattle.std.proofs.Common.{◌≡◌, ℕ, suc, ◌+◌, ◌-◌, ◌%◌, ◌^◌, ◌<◌, ◌≤◌, Bool, true, false, ◌==◌, List, ◌∷◌, ◌++◌, length, take, drop, Option, Some, None, refl, ap, sym, subst, ◌∙◌, arith, add-one, append_assoc}
use Rattle.std.specs.Prelude.{nat_lt, option_and_then}
use Rattle.std.specs.Option.{option_map}
use Rattle.std.proofs.lemmas.Option.{some_pair_parts}
use Rattle.std.proofs.lemmas.List.{take-append-drop, drop-drop, length-take, length-drop, length-append, take_at, drop_at}
use Rattle.byteorder.specs.Endian.{big_number}
use Rattle.dt_blob.specs.BigEndian.{word}
use Rattle.dt_blob.specs.Token.{Token, begin_node, end_node, property, nop, end}
use Rattle.dt_blob.specs.Holds.{has_no_zero, Pads, Names, SpellsToken}
use Rattle.dt_blob.specs.Steps.Reading.{zero_in, padded, named_at, begin_at, string_at, value_at, property_at, token_by, token_at}
use Rattle.dt_blob.proofs.Sizes.{length-word}
use Rattle.dt_blob.proofs.Tests.{not_below, test_not_below, equal, guarded}
use Rattle.dt_blob.proofs.Words.{AreBytes, bytes_behind, word_read, behind_word, word_small, word_spelled}
use Rattle.dt_blob.proofs.Zeros.{zero_behind, zero_splits}

-- ---- padding

pub padded_of : (n : ℕ) → (n ≤ padded n) × (padded n - n < 4) × ((n + (padded n - n)) % 4 ≡ 0)
padded_of n = (omega arith, omega arith, omega arith)

pub padded_by : (n m : ℕ) → m < 4 → (n + m) % 4 ≡ 0 → padded n ≡ n + m
padded_by n m h e = omega arith

-- what follows n bytes is the padding and what follows the padding
pad_split : (n m : ℕ) (b : List ℕ) → n ≤ m → drop n b ≡ take (m - n) (drop n b) ++ drop m b
pad_split n m b h =
    let back : n + (m - n) ≡ m = omega arith in
    sym (take-append-drop (m - n) (drop n b)) ∙ ap (λ (x : List ℕ). take (m - n) (drop n b) ++ x) (drop-drop (m - n) n b ∙ ap (λ (k : ℕ). drop k b) back)

pad_length : (n m : ℕ) (b : List ℕ) → n ≤ m → m ≤ length b → length (take (m - n) (drop n b)) ≡ m - n
pad_length n m b h k = omega (arith, length-take (m - n) (drop n b), length-drop n b)

pads_for : (n k : ℕ) (b : List ℕ) → n ≡ k → padded k ≤ length b → Pads n (take (padded k - k) (drop k b))
pads_for n k b e h =
    let p = padded_of k in
    let l = pad_length k (padded k) b (p.0) h in
    (omega (arith, l, p.1), subst (λ (x : ℕ). x % 4 ≡ 0) (omega (arith, l, e)) (p.2))

-- ---- what is read is spelled so

-- a token and what follows it
abbrev Gets : Option (Token × List ℕ) → Token → List ℕ → Type 0
Gets o t rest = o ≡ Some (t, rest)

pub record Found (strings bytes rest : List ℕ) (t : Token) : Type 0 where
  pub first : List ℕ
  pub is : bytes ≡ first ++ rest
  pub spells : SpellsToken strings t first

-- the same token, read another way
moved : (strings bytes rest rest' : List ℕ) (t t' : Token) → t ≡ t' → rest ≡ rest' → Found strings bytes rest t → Found strings bytes rest' t'
moved strings bytes rest rest' t t' e f h = subst (λ (x : List ℕ). Found strings bytes x t') f (subst (λ (x : Token). Found strings bytes rest x) e h)

named_sound : (strings b : List ℕ) (k : ℕ) → zero_in b ≡ Some k → padded (k + 1) ≤ length b → Found strings (word 1 ++ b) (drop (padded (k + 1)) b) (begin_node (take k b))
named_sound strings b k e h =
    let s = zero_splits b k e in
    let name : List ℕ = take k b in
    let pad : List ℕ = take (padded (k + 1) - (k + 1)) (drop (k + 1) b) in
    let rest : List ℕ = drop (padded (k + 1)) b in
    let inside = s.inside in
    let p = padded_of (k + 1) in
    let behind : drop (suc k) b ≡ pad ++ rest = ap (λ (j : ℕ). drop j b) (sym (add-one k)) ∙ pad_split (k + 1) (padded (k + 1)) b (p.0) in
    let whole : b ≡ (name ++ 0 ∷ pad) ++ rest = s.is ∙ ap (λ (x : List ℕ). name ++ 0 ∷ x) behind ∙ sym (append_assoc name (0 ∷ pad) rest) in
    let size : length name + 1 ≡ k + 1 = omega (arith, length-take k b, inside) in
    record {
      first = word 1 ++ (name ++ 0 ∷ pad);
      is = ap (λ (x : List ℕ). word 1 ++ x) whole ∙ sym (append_assoc (word 1) (name ++ 0 ∷ pad) rest);
      spells = (pad, refl, pads_for (length name + 1) (k + 1) b size h, s.named);
    }

begin_sound : (strings b rest : List ℕ) (t : Token) (o : Option ℕ) → zero_in b ≡ o → option_and_then (λ k. named_at k b) o ≡ Some (t, rest) → Found strings (word 1 ++ b) rest t
begin_sound strings b rest t None e h = absurd (cc h)
begin_sound strings b rest t (Some k) e h =
    let g = guarded (nat_lt (length b) (padded (k + 1))) (Some (begin_node (take k b), drop (padded (k + 1)) b)) (t, rest) h in
    let p = some_pair_parts (begin_node (take k b)) t (drop (padded (k + 1)) b) rest (g.1) in
    moved strings (word 1 ++ b) (drop (padded (k + 1)) b) rest (begin_node (take k b)) t (p.0) (p.1) (named_sound strings b k e (not_below (length b) (padded (k + 1)) (g.0)))

string_sound : (strings : List ℕ) (place : ℕ) (name : List ℕ) (o : Option ℕ) → zero_in (drop place strings) ≡ o → option_map (λ k. take k (drop place strings)) o ≡ Some name → Names strings place name
string_sound strings place name None e h = absurd (cc h)
string_sound strings place name (Some k) e h =
    let s = zero_splits (drop place strings) k e in
    let same : take k (drop place strings) ≡ name = cc in
    subst (Names strings place) same (drop (suc k) (drop place strings), s.is, s.named)

value_of : (strings b : List ℕ) (size place : ℕ) (name : List ℕ) → size < 2 ^ 32 → place < 2 ^ 32 → padded size ≤ length b → Names strings place name
    → Found strings (word 3 ++ (word size ++ (word place ++ b))) (drop (padded size) b) (property name (take size b))
value_of strings b size place name ls lp h n =
    let value : List ℕ = take size b in
    let pad : List ℕ = take (padded size - size) (drop size b) in
    let rest : List ℕ = drop (padded size) b in
    let p = padded_of size in
    let enough = p.0 in
    let len : length value ≡ size = omega (arith, length-take size b, h, enough) in
    let whole : b ≡ (value ++ pad) ++ rest = sym (take-append-drop size b) ∙ ap (λ (x : List ℕ). value ++ x) (pad_split size (padded size) b (p.0)) ∙ sym (append_assoc value pad rest) in
    let first : List ℕ = word 3 ++ (word (length value) ++ (word place ++ (value ++ pad))) in
    let regrouped : word 3 ++ (word (length value) ++ (word place ++ ((value ++ pad) ++ rest))) ≡ first ++ rest =
    ap (λ (x : List ℕ). word 3 ++ x) (ap (λ (x : List ℕ). word (length value) ++ x) (sym (append_assoc (word place) (value ++ pad) rest)) ∙ sym (append_assoc (word (length value)) (word place ++ (value ++ pad)) rest))
    ∙ sym (append_assoc (word 3) (word (length value) ++ (word place ++ (value ++ pad))) rest) in
    record {
      first = first;
      is = ap (λ (x : List ℕ). word 3 ++ (word size ++ (word place ++ x))) whole ∙ ap (λ (k : ℕ). word 3 ++ (word k ++ (word place ++ ((value ++ pad) ++ rest)))) (sym len) ∙ regrouped;
      spells = (place, pad, refl, omega (arith, len, ls), lp, pads_for (length value) size b len h, n);
    }

value_sound : (strings b rest : List ℕ) (size place : ℕ) (t : Token) (o : Option (List ℕ)) → size < 2 ^ 32 → place < 2 ^ 32 → string_at strings place ≡ o → value_at strings size place b ≡ Some (t, rest)
    → Found strings (word 3 ++ (word size ++ (word place ++ b))) rest t
value_sound strings b rest size place t None ls lp e h =
    let g = guarded (nat_lt (length b) (padded size)) (option_map (λ name. (property name (take size b), drop (padded size) b)) (string_at strings place)) (t, rest) h in
    absurd (let bad : Gets None t rest = (rw e at (g.1)) in cc)
value_sound strings b rest size place t (Some name) ls lp e h =
    let g = guarded (nat_lt (length b) (padded size)) (option_map (λ name. (property name (take size b), drop (padded size) b)) (string_at strings place)) (t, rest) h in
    let now : Gets (Some (property name (take size b), drop (padded size) b)) t rest = (rw e at (g.1)) in
    let p = some_pair_parts (property name (take size b)) t (drop (padded size) b) rest now in
    moved strings (word 3 ++ (word size ++ (word place ++ b))) (drop (padded size) b) rest (property name (take size b)) t (p.0) (p.1)
    (value_of strings b size place name ls lp (not_below (length b) (padded size) (g.0)) (string_sound strings place name (zero_in (drop place strings)) refl e))

property_sound : (strings b rest : List ℕ) (t : Token) → AreBytes b → property_at strings b ≡ Some (t, rest) → Found strings (word 3 ++ b) rest t
property_sound strings b rest t f h =
    let g = guarded (nat_lt (length b) 8) (value_at strings (big_number 4 b) (big_number 4 (drop 4 b)) (drop 8 b)) (t, rest) h in
    let enough = not_below (length b) 8 (g.0) in
    let one = word_spelled b f (omega arith) in
    let two = word_spelled (drop 4 b) (bytes_behind 4 b f) (omega (arith, length-drop 4 b)) in
    let rest_is : drop 4 (drop 4 b) ≡ drop 8 b = drop-drop 4 4 b in
    let whole : b ≡ word (big_number 4 b) ++ (word (big_number 4 (drop 4 b)) ++ drop 8 b) = one ∙ ap (λ (x : List ℕ). word (big_number 4 b) ++ x) (two ∙ ap (λ (x : List ℕ). word (big_number 4 (drop 4 b)) ++ x) rest_is) in
    let found = value_sound strings (drop 8 b) rest (big_number 4 b) (big_number 4 (drop 4 b)) t (string_at strings (big_number 4 (drop 4 b))) (word_small b f) (word_small (drop 4 b) (bytes_behind 4 b f)) refl (g.1) in
    subst (λ (x : List ℕ). Found strings (word 3 ++ x) rest t) (sym whole) found

plain : (strings b rest : List ℕ) (t t' : Token) (n : ℕ) → SpellsToken strings t (word n) → Gets (Some (t, b)) t' rest → Found strings (word n ++ b) rest t'
plain strings b rest t t' n s h = let p = some_pair_parts t t' b rest h in moved strings (word n ++ b) b rest t t' (p.0) (p.1) (record { first = word n; is = refl; spells = s })

-- by the number of the token
by_number : (strings b rest : List ℕ) (t : Token) (n : ℕ) → AreBytes b → (x1 : Bool) → (n == 1) ≡ x1 → (x2 : Bool) → (n == 2) ≡ x2 → (x3 : Bool) → (n == 3) ≡ x3 → (x4 : Bool) → (n == 4) ≡ x4 → (x9 : Bool) → (n == 9) ≡ x9
    → token_by strings n b ≡ Some (t, rest) → Found strings (word n ++ b) rest t
by_number strings b rest t n f true e1 x2 e2 x3 e3 x4 e4 x9 e9 h =
    let now : begin_at b ≡ Some (t, rest) = (rw e1 at h) in
    subst (λ (k : ℕ). Found strings (word k ++ b) rest t) (sym (equal n 1 e1)) (begin_sound strings b rest t (zero_in b) refl now)
by_number strings b rest t n f false e1 true e2 x3 e3 x4 e4 x9 e9 h =
    let now : Gets (Some (end_node, b)) t rest = (rw (e1, e2) at h) in
    subst (λ (k : ℕ). Found strings (word k ++ b) rest t) (sym (equal n 2 e2)) (plain strings b rest end_node t 2 refl now)
by_number strings b rest t n f false e1 false e2 true e3 x4 e4 x9 e9 h =
    let now : property_at strings b ≡ Some (t, rest) = (rw (e1, e2, e3) at h) in
    subst (λ (k : ℕ). Found strings (word k ++ b) rest t) (sym (equal n 3 e3)) (property_sound strings b rest t f now)
by_number strings b rest t n f false e1 false e2 false e3 true e4 x9 e9 h =
    let now : Gets (Some (nop, b)) t rest = (rw (e1, e2, e3, e4) at h) in
    subst (λ (k : ℕ). Found strings (word k ++ b) rest t) (sym (equal n 4 e4)) (plain strings b rest nop t 4 refl now)
by_number strings b rest t n f false e1 false e2 false e3 false e4 true e9 h =
    let now : Gets (Some (end, b)) t rest = (rw (e1, e2, e3, e4, e9) at h) in
    subst (λ (k : ℕ). Found strings (word k ++ b) rest t) (sym (equal n 9 e9)) (plain strings b rest end t 9 refl now)
by_number strings b rest t n f false e1 false e2 false e3 false e4 false e9 h = absurd (let bad : Gets None t rest = (rw (e1, e2, e3, e4, e9) at h) in cc)

pub token_sound : (strings bytes rest : List ℕ) (t : Token) → AreBytes bytes → token_at strings bytes ≡ Some (t, rest) → Found strings bytes rest t
unfolding token_at
token_sound strings bytes rest t f h =
    let g = guarded (nat_lt (length bytes) 4) (token_by strings (big_number 4 bytes) (drop 4 bytes)) (t, rest) h in
    let n : ℕ = big_number 4 bytes in
    let found = by_number strings (drop 4 bytes) rest t n (bytes_behind 4 bytes f) (n == 1) refl (n == 2) refl (n == 3) refl (n == 4) refl (n == 9) refl (g.1) in
    subst (λ (x : List ℕ). Found strings x rest t) (sym (word_spelled bytes f (not_below (length bytes) 4 (g.0)))) found

-- ---- what is spelled so is read

at_word : (strings : List ℕ) (n : ℕ) (x : List ℕ) → n < 2 ^ 32 → token_at strings (word n ++ x) ≡ token_by strings n x
unfolding token_at
at_word strings n x h =
    let long : nat_lt (length (word n ++ x)) 4 ≡ false = test_not_below (length (word n ++ x)) 4 (omega (arith, length-append (word n) x, length-word n)) in
    rw (long, word_read n x h, behind_word n x) refl

begin_again : (name pad rest : List ℕ) → has_no_zero name ≡ true → Pads (length name + 1) pad → begin_at ((name ++ 0 ∷ pad) ++ rest) ≡ Some (begin_node name, rest)
begin_again name pad rest z p =
    let b : List ℕ = (name ++ 0 ∷ pad) ++ rest in
    let whole : b ≡ name ++ 0 ∷ (pad ++ rest) = append_assoc name (0 ∷ pad) rest in
    let place : zero_in b ≡ Some (length name) = ap zero_in whole ∙ zero_behind name (pad ++ rest) z in
    let size : padded (length name + 1) ≡ (length name + 1) + length pad = padded_by (length name + 1) (length pad) (p.0) (p.1) in
    let front : length (name ++ 0 ∷ pad) ≡ padded (length name + 1) = omega (arith, length-append name (0 ∷ pad), size) in
    let long : nat_lt (length b) (padded (length name + 1)) ≡ false = test_not_below (length b) (padded (length name + 1)) (omega (arith, length-append (name ++ 0 ∷ pad) rest, front)) in
    let text : take (length name) b ≡ name = ap (take (length name)) whole ∙ take_at name (0 ∷ (pad ++ rest)) (length name) refl in
    let left : drop (padded (length name + 1)) b ≡ rest = drop_at (name ++ 0 ∷ pad) rest (padded (length name + 1)) front in
    rw (place, long, text, left) refl

string_again : (strings : List ℕ) (place : ℕ) (name : List ℕ) → Names strings place name → string_at strings place ≡ Some name
string_again strings place name n =
    let found : zero_in (drop place strings) ≡ Some (length name) = ap zero_in (n.1) ∙ zero_behind name (n.0) (n.2) in
    let text : take (length name) (drop place strings) ≡ name = ap (take (length name)) (n.1) ∙ take_at name (0 ∷ n.0) (length name) refl in
    rw (found, text) refl

value_again : (strings value pad rest : List ℕ) (place : ℕ) (name : List ℕ) → Pads (length value) pad → Names strings place name
    → value_at strings (length value) place ((value ++ pad) ++ rest) ≡ Some (property name value, rest)
value_again strings value pad rest place name p n =
    let b : List ℕ = (value ++ pad) ++ rest in
    let size : padded (length value) ≡ length value + length pad = padded_by (length value) (length pad) (p.0) (p.1) in
    let front : length (value ++ pad) ≡ padded (length value) = omega (arith, length-append value pad, size) in
    let long : nat_lt (length b) (padded (length value)) ≡ false = test_not_below (length b) (padded (length value)) (omega (arith, length-append (value ++ pad) rest, front)) in
    let text : take (length value) b ≡ value = ap (take (length value)) (append_assoc value pad rest) ∙ take_at value (pad ++ rest) (length value) refl in
    let left : drop (padded (length value)) b ≡ rest = drop_at (value ++ pad) rest (padded (length value)) front in
    rw (long, string_again strings place name n, text, left) refl

behind_words : (a b : ℕ) (x : List ℕ) → drop 8 (word a ++ (word b ++ x)) ≡ x
unfolding word
behind_words a b x = refl

property_again : (strings value pad rest : List ℕ) (place : ℕ) (name : List ℕ) → length value < 2 ^ 32 → place < 2 ^ 32 → Pads (length value) pad → Names strings place name
    → property_at strings (word (length value) ++ (word place ++ ((value ++ pad) ++ rest))) ≡ Some (property name value, rest)
property_again strings value pad rest place name lv lp p n =
    let v : List ℕ = (value ++ pad) ++ rest in
    let b : List ℕ = word (length value) ++ (word place ++ v) in
    let long : nat_lt (length b) 8 ≡ false = test_not_below (length b) 8 (omega (arith, length-append (word (length value)) (word place ++ v), length-append (word place) v, length-word (length value), length-word place)) in
    let first : big_number 4 b ≡ length value = word_read (length value) (word place ++ v) lv in
    let second : big_number 4 (drop 4 b) ≡ place = ap (big_number 4) (behind_word (length value) (word place ++ v)) ∙ word_read place v lp in
    rw (long, first, second, behind_words (length value) place v) (value_again strings value pad rest place name p n)

pub token_again : (strings first rest : List ℕ) (t : Token) → SpellsToken strings t first → token_at strings (first ++ rest) ≡ Some (t, rest)
token_again strings first rest (begin_node name) s =
    let x : List ℕ = name ++ 0 ∷ s.0 in
    ap (λ (y : List ℕ). token_at strings (y ++ rest)) (s.1) ∙ ap (token_at strings) (append_assoc (word 1) x rest) ∙ at_word strings 1 (x ++ rest) (omega arith) ∙ begin_again name (s.0) rest (s.3) (s.2)
token_again strings first rest end_node s = ap (λ (y : List ℕ). token_at strings (y ++ rest)) s ∙ at_word strings 2 rest (omega arith)
token_again strings first rest (property name value) s =
    let place : ℕ = s.0 in
    let pad : List ℕ = s.1 in
    let v : List ℕ = value ++ pad in
    let regrouped : (word 3 ++ (word (length value) ++ (word place ++ v))) ++ rest ≡ word 3 ++ (word (length value) ++ (word place ++ (v ++ rest))) =
    append_assoc (word 3) (word (length value) ++ (word place ++ v)) rest
    ∙ ap (λ (x : List ℕ). word 3 ++ x) (append_assoc (word (length value)) (word place ++ v) rest ∙ ap (λ (x : List ℕ). word (length value) ++ x) (append_assoc (word place) v rest)) in
    ap (λ (y : List ℕ). token_at strings (y ++ rest)) (s.2) ∙ ap (token_at strings) regrouped ∙ at_word strings 3 (word (length value) ++ (word place ++ (v ++ rest))) (omega arith)
    ∙ property_again strings value pad rest place name (s.3) (s.4) (s.5) (s.6)
token_again strings first rest nop s = ap (λ (y : List ℕ). token_at strings (y ++ rest)) s ∙ at_word strings 4 rest (omega arith)
token_again strings first rest end s = ap (λ (y : List ℕ). token_at strings (y ++ rest)) s ∙ at_word strings 9 rest (omega arith)

-- a token takes a word at least
pub token_long : (strings first : List ℕ) (t : Token) → SpellsToken strings t first → 4 ≤ length first
token_long strings first (begin_node name) s = omega (arith, ap length (s.1), length-append (word 1) (name ++ 0 ∷ s.0), length-word 1)
token_long strings first end_node s = omega (arith, ap length s, length-word 2)
token_long strings first (property name value) s = omega (arith, ap length (s.2), length-append (word 3) (word (length value) ++ (word (s.0) ++ (value ++ s.1))), length-word 3)
token_long strings first nop s = omega (arith, ap length s, length-word 4)
token_long strings first end s = omega (arith, ap length s, length-word 9)
