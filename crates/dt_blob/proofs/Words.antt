-- Numbers as bytes, and back.
use Rattle.std.proofs.Common.{◌≡◌, ℕ, ◌+◌, ◌^◌, ◌<◌, ◌≤◌, List, [], ◌∷◌, ◌++◌, length, take, drop, get_or, refl, ap, sym, arith, inl, inr}
use Rattle.std.proofs.lemmas.List.{get_or-drop, get_or-take, get_or_past, get_or-append-add, length-take}
use Rattle.std.proofs.lemmas.Bool.{cases_lt}
use Rattle.std.proofs.lemmas.Nat.{be_bytes_4, be_bytes_8}
use Rattle.std.specs.Int.{w32, w64, to_be_bytes}
use Rattle.byteorder.specs.Endian.{big_number}
use Rattle.byteorder.specs.Numbers.{big_number-reads_back, big_from-lt}
use Rattle.dt_blob.specs.BigEndian.{word, double_word}

-- each is a byte
abbrev pub AreBytes : List ℕ → Type 0
AreBytes bytes = (i : ℕ) → get_or bytes i 0 < 256

pub bytes_behind : (n : ℕ) (bytes : List ℕ) → AreBytes bytes → AreBytes (drop n bytes)
bytes_behind n bytes f i = let e = get_or-drop n bytes i 0 in omega (arith, e, f (n + i))

pub bytes_before : (n : ℕ) (bytes : List ℕ) → AreBytes bytes → AreBytes (take n bytes)
bytes_before n bytes f i = elim (cases_lt i n) [
  | inl h ↦ let e = get_or-take n bytes i 0 h in omega (arith, e, f i)
  | inr h ↦ let e = get_or_past (take n bytes) i 0 (omega (arith, length-take n bytes)) in omega (arith, e)
]

pub bytes_right : (first rest : List ℕ) → AreBytes (first ++ rest) → AreBytes rest
bytes_right first rest f i = let e = get_or-append-add first rest i 0 in omega (arith, e, f (length first + i))

pub word_read : (n : ℕ) (rest : List ℕ) → n < 2 ^ 32 → big_number 4 (word n ++ rest) ≡ n
unfolding word
word_read n rest h = big_number-reads_back 4 n rest h

pub double_word_read : (n : ℕ) (rest : List ℕ) → n < 2 ^ 64 → big_number 8 (double_word n ++ rest) ≡ n
unfolding double_word
double_word_read n rest h = big_number-reads_back 8 n rest h

pub behind_word : (n : ℕ) (rest : List ℕ) → drop 4 (word n ++ rest) ≡ rest
unfolding word
behind_word n rest = refl

pub behind_double_word : (n : ℕ) (rest : List ℕ) → drop 8 (double_word n ++ rest) ≡ rest
unfolding double_word
behind_double_word n rest = refl

pub word_small : (bytes : List ℕ) → AreBytes bytes → big_number 4 bytes < 2 ^ 32
word_small bytes f = big_from-lt 0 4 bytes f

pub double_word_small : (bytes : List ℕ) → AreBytes bytes → big_number 8 bytes < 2 ^ 64
double_word_small bytes f = big_from-lt 0 8 bytes f

pub word_spelled : (bytes : List ℕ) → AreBytes bytes → 4 ≤ length bytes → bytes ≡ word (big_number 4 bytes) ++ drop 4 bytes
unfolding word
word_spelled [] f h = absurd (omega arith)
word_spelled (a ∷ []) f h = absurd (omega arith)
word_spelled (a ∷ b ∷ []) f h = absurd (omega arith)
word_spelled (a ∷ b ∷ c ∷ []) f h = absurd (omega arith)
word_spelled (a ∷ b ∷ c ∷ d ∷ rest) f h =
    let n : ℕ = big_number 4 (a ∷ b ∷ c ∷ d ∷ rest) in
    let front : to_be_bytes w32 n ≡ a ∷ b ∷ c ∷ d ∷ [] = be_bytes_4 (a ∷ b ∷ c ∷ d ∷ []) n refl (bytes_before 4 (a ∷ b ∷ c ∷ d ∷ rest) f) (omega arith) in
    sym (ap (λ (x : List ℕ). x ++ rest) front)

pub double_word_spelled : (bytes : List ℕ) → AreBytes bytes → 8 ≤ length bytes → bytes ≡ double_word (big_number 8 bytes) ++ drop 8 bytes
unfolding double_word
double_word_spelled [] f h = absurd (omega arith)
double_word_spelled (a ∷ []) f h = absurd (omega arith)
double_word_spelled (a ∷ b ∷ []) f h = absurd (omega arith)
double_word_spelled (a ∷ b ∷ c ∷ []) f h = absurd (omega arith)
double_word_spelled (a ∷ b ∷ c ∷ d ∷ []) f h = absurd (omega arith)
double_word_spelled (a ∷ b ∷ c ∷ d ∷ p ∷ []) f h = absurd (omega arith)
double_word_spelled (a ∷ b ∷ c ∷ d ∷ p ∷ q ∷ []) f h = absurd (omega arith)
double_word_spelled (a ∷ b ∷ c ∷ d ∷ p ∷ q ∷ r ∷ []) f h = absurd (omega arith)
double_word_spelled (a ∷ b ∷ c ∷ d ∷ p ∷ q ∷ r ∷ s ∷ rest) f h =
    let n : ℕ = big_number 8 (a ∷ b ∷ c ∷ d ∷ p ∷ q ∷ r ∷ s ∷ rest) in
    let front : to_be_bytes w64 n ≡ a ∷ b ∷ c ∷ d ∷ p ∷ q ∷ r ∷ s ∷ [] = be_bytes_8 (a ∷ b ∷ c ∷ d ∷ p ∷ q ∷ r ∷ s ∷ []) n refl (bytes_before 8 (a ∷ b ∷ c ∷ d ∷ p ∷ q ∷ r ∷ s ∷ rest) f) (omega arith) in
    sym (ap (λ (x : List ℕ). x ++ rest) front)
