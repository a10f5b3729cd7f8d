-- Escapes in strings, which are those of C (Devicetree Specification v0.4, section 6.3).
use Rattle.std.specs.Prelude.{ℕ, zero, suc, ◌+◌, ◌*◌, ◌%◌, List, [], ◌∷◌, Option, Some, None, nat_lt, ◌==◌, if◌then◌else◌}
use Rattle.dt_text.specs.declared.lexeme.language.Language.{Language}
use Rattle.dt_text.specs.declared.lexeme.language.Language.TheVariants.{Profile, Dtc}
use Rattle.dt_text.specs.Expression.Values.{digit_of}

-- what a backslash before this byte stands for, where it is neither a digit nor x
abbrev pub escape_of : ℕ → ℕ
escape_of c =
    if c == 97 then 7 else if c == 98 then 8 else if c == 116 then 9 else if c == 110 then 10 else if c == 118 then 11 else if c == 102 then 12 else if c == 114 then 13 else c

-- a digit of this base at the front, and the bytes after it
abbrev pub digit_at : ℕ → List ℕ → Option (ℕ × List ℕ)
digit_at base [] = None
digit_at base (c ∷ cs) = if nat_lt (digit_of c) base then Some (digit_of c, cs) else None

abbrev pub with_digit : {A : Type 0} → Option (ℕ × List ℕ) → A → (ℕ → List ℕ → A) → A
with_digit None a f = a
with_digit (Some x) a f = f x.0 x.1

-- the byte of an octal number: in dtc's language its low eight bits, in the profile it has none above 255
abbrev pub octal_byte : Language → ℕ → Option ℕ
octal_byte Profile n = if nat_lt n 256 then Some n else None
octal_byte Dtc n = Some (n % 256)

-- one to three octal digits, the first of which is this one: their byte, where it is one, and how many they are
abbrev pub octal_at : Language → ℕ → List ℕ → Option ℕ × ℕ
octal_at language a cs = with_digit (digit_at 8 cs) (Some a, 1) (λ b ds. with_digit (digit_at 8 ds) (Some (a * 8 + b), 2) (λ c es. (octal_byte language ((a * 8 + b) * 8 + c), 3)))

-- one or two hex digits behind an x: their byte, where there is one, and how many bytes there are with the x
abbrev pub hex_at : List ℕ → Option ℕ × ℕ
hex_at cs = with_digit (digit_at 16 cs) (None, 1) (λ a ds. with_digit (digit_at 16 ds) (Some a, 2) (λ b es. (Some (a * 16 + b), 3)))

-- what stands behind a backslash: its byte, where it stands for one, and how many bytes it has
abbrev pub escape_at : Language → List ℕ → Option ℕ × ℕ
escape_at language [] = (None, 0)
escape_at language (c ∷ cs) = if c == 120 then hex_at cs else with_digit (digit_at 8 (c ∷ cs)) (Some (escape_of c), 1) (λ a ds. octal_at language a ds)

-- ---- what the bytes of a string stand for

-- What a byte stands for, with the bytes behind it: itself, or what its backslash (92) stands for, or nothing where it belongs to a
-- backslash before it or its backslash stands for none; and how many more bytes belong to a backslash.
abbrev pub byte_step : Language → ℕ → ℕ → List ℕ → Option ℕ × ℕ
byte_step language (suc skip) c cs = (None, skip)
byte_step language zero c cs = if c == 92 then escape_at language cs else (Some c, 0)

abbrev pub with_byte : Option ℕ → List ℕ → List ℕ
with_byte None bs = bs
with_byte (Some b) bs = b ∷ bs

-- what these bytes stand for, where so many belong to a backslash before them
unfoldable pub unescaped : Language → ℕ → List ℕ → List ℕ
unescaped language skip [] = []
unescaped language skip (c ∷ cs) = with_byte (byte_step language skip c cs).0 (unescaped language (byte_step language skip c cs).1 cs)
