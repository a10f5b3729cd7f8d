-- The names that fragments bring are names.
use Rattle.std.proofs.Common.{◌≡◌, ◌≤◌, ◌+◌, ◌/◌, ◌%◌, ℕ, zero, suc, Bool, true, false, List, [], ◌∷◌, ◌++◌, length, if◌then◌else◌, refl, arith}
use Rattle.std.specs.Prelude.{codes, nat_lt, ◌==◌}
use Rattle.std.specs.Fmt.{digit_glyph, digits_onto}
use Rattle.std.specs.List.{list_all}
use Rattle.std.proofs.lemmas.Bool.{and_from}
use Rattle.std.proofs.lemmas.Bool.Decides.{nat_tests}
use Rattle.dt_tree.specs.Name.{is_name, is_name_byte}
use Rattle.dt_source.specs.TreeMeaning.Names.{decimal, fragment_name, overlay_name}
use Rattle.dt_source.specs.TreeMeaning.Syntax.{Target, OfLabel, OfPath}
use Rattle.dt_source.specs.TreeMeaning.Statements.{target_name}

-- 1 to 255 bytes that can stand in a name
pub name-of : (bytes : List ℕ) → 1 ≤ length bytes → length bytes ≤ 255 → list_all is_name_byte bytes ≡ true → is_name bytes ≡ true
name-of bytes some few all = by_tests (length bytes == 0) (nat_lt 255 (length bytes)) refl refl where
  by_tests : (a b : Bool) → (length bytes == 0) ≡ a → nat_lt 255 (length bytes) ≡ b → (if a then false else (if b then false else list_all is_name_byte bytes)) ≡ true
  by_tests true b e f = absurd (grind (arith, nat_tests))
  by_tests false true e f = absurd (grind (arith, nat_tests))
  by_tests false false e f = all

-- ---- digits
digit-byte : (b : ℕ) → 48 ≤ b → b ≤ 57 → is_name_byte b ≡ true
digit-byte b low high = grind (arith, nat_tests)

glyph-byte : (d : ℕ) → d ≤ 9 → is_name_byte (digit_glyph false d) ≡ true
glyph-byte d few = by_test (nat_lt d 10) refl where
  by_test : (t : Bool) → nat_lt d 10 ≡ t → is_name_byte (if t then 48 + d else 87 + d) ≡ true
  by_test true e = digit-byte (48 + d) (omega arith) (omega arith)
  by_test false e = absurd (grind (arith, nat_tests))

digits-bytes : (k n : ℕ) (acc : List ℕ) → list_all is_name_byte acc ≡ true → list_all is_name_byte (digits_onto k 10 false n acc) ≡ true
digits-bytes zero n acc all = all
digits-bytes (suc k) n acc all = by_last (n / 10 == 0) (digits-bytes k (n / 10) (d ∷ acc) more) where
  d : ℕ
  d = digit_glyph false (n % 10)

  more : list_all is_name_byte (d ∷ acc) ≡ true
  more = and_from (is_name_byte d) (list_all is_name_byte acc) (glyph-byte (n % 10) (omega arith)) all

  by_last : (t : Bool) → list_all is_name_byte (digits_onto k 10 false (n / 10) (d ∷ acc)) ≡ true → list_all is_name_byte (if t then d ∷ acc else digits_onto k 10 false (n / 10) (d ∷ acc)) ≡ true
  by_last true rest = more
  by_last false rest = rest

digits-few : (k n : ℕ) (acc : List ℕ) → length (digits_onto k 10 false n acc) ≤ k + length acc
digits-few zero n acc = omega arith
digits-few (suc k) n acc = by_last (n / 10 == 0) (digits-few k (n / 10) (d ∷ acc)) where
  d : ℕ
  d = digit_glyph false (n % 10)

  by_last : (t : Bool) → length (digits_onto k 10 false (n / 10) (d ∷ acc)) ≤ k + suc (length acc) → length (if t then d ∷ acc else digits_onto k 10 false (n / 10) (d ∷ acc)) ≤ suc k + length acc
  by_last true rest = omega arith
  by_last false rest = omega (arith, rest)

pub decimal-bytes : (n : ℕ) → list_all is_name_byte (decimal n) ≡ true
unfolding decimal
decimal-bytes n = digits-bytes 20 n [] refl

pub decimal-few : (n : ℕ) → length (decimal n) ≤ 20
unfolding decimal
decimal-few n = let few = digits-few 20 n [] in omega (arith, few)

-- ---- names
behind-prefix : (ds : List ℕ) → length ds ≤ 20 → list_all is_name_byte ds ≡ true → is_name (codes "fragment@" ++ ds) ≡ true
behind-prefix ds few all = name-of (codes "fragment@" ++ ds) (omega arith) (omega arith) all

pub fragment-named : (n : ℕ) → is_name (fragment_name n) ≡ true
fragment-named n = behind-prefix (decimal n) (decimal-few n) (decimal-bytes n)

pub overlay-named : is_name overlay_name ≡ true
overlay-named = refl

pub target-named : (t : Target) → is_name (target_name t) ≡ true
target-named (OfLabel l) = refl
target-named (OfPath p) = refl
