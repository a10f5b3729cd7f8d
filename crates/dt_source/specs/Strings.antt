-- Strings and byte strings: the bytes between the quotes, and pairs of hex digits
-- (Devicetree Specification v0.4, section 6.3: strings with escapes as in C, bytestrings).
use Rattle.std.specs.Prelude.{ℕ, zero, suc, ◌+◌, ◌-◌, ◌*◌, ◌%◌, List, [], ◌∷◌, ◌++◌, Option, Some, None, Ok, Err, ◌==◌, if◌then◌else◌, slice_range}
use Rattle.dt_text.specs.declared.lexeme.language.Language.{Language}
use Rattle.dt_text.specs.declared.lexeme.lexeme.Lexeme.{Lexeme}
use Rattle.dt_text.specs.declared.lexeme.lexeme.Fault.{Fault}
use Rattle.dt_text.specs.declared.lexeme.lexeme.FaultKind.TheVariants.{BadEscape}
use Rattle.dt_text.specs.Expression.Values.{Value, digit_of}
use Rattle.dt_text.specs.Expression.Escape.{escape_at}

-- the fault of a backslash is at its place
abbrev pub escaped : ℕ → Option ℕ → Value
escaped place (Some b) = Ok b
escaped place None = Err (record { kind = BadEscape; place = place })

-- What a byte of a string stands for, with the bytes behind it: its own number, or what its backslash stands for, or
-- nothing where it belongs to a backslash before it, and how many more bytes belong to a backslash.
abbrev pub char_step : Language → ℕ → ℕ → ℕ → List ℕ → Option Value × ℕ
char_step language (suc skip) place c cs = (None, skip)
char_step language zero place c cs = if c == 92 then (Some (escaped place (escape_at language cs).0), (escape_at language cs).1) else (Some (Ok c), 0)

abbrev pub with_char : Option Value → List Value → List Value
with_char None vs = vs
with_char (Some v) vs = v ∷ vs

-- What the bytes of a string from this place on stand for, where so many belong to a backslash before them.
unfoldable pub chars_with : Language → ℕ → ℕ → List ℕ → List Value
chars_with language skip place [] = []
chars_with language skip place (c ∷ cs) = with_char (char_step language skip place c cs).0 (chars_with language (char_step language skip place c cs).1 (place + 1) cs)

abbrev pub chars_of : Language → List ℕ → Lexeme → List Value
chars_of language text l = chars_with language 0 (l.start + 1) (slice_range text (l.start + 1) (l.end - 1))

abbrev pub numbers : List Value → List ℕ
numbers [] = []
numbers (Ok n ∷ vs) = n ∷ numbers vs
numbers (Err f ∷ vs) = numbers vs

abbrev pub faults : List Value → List Fault
faults [] = []
faults (Ok n ∷ vs) = faults vs
faults (Err f ∷ vs) = f ∷ faults vs

abbrev pub char_number : Option Value → List ℕ
char_number (Some (Ok n)) = n ∷ []
char_number _ = []

abbrev pub char_fault : Option Value → Option Fault
char_fault (Some (Err f)) = Some f
char_fault _ = None

-- the bytes of a string, and a zero byte
abbrev pub string_bytes : Language → List ℕ → Lexeme → List ℕ
string_bytes language text l = numbers (chars_of language text l) ++ 0 ∷ []

abbrev pub string_faults : Language → List ℕ → Lexeme → List Fault
string_faults language text l = faults (chars_of language text l)

-- the byte of two hex digits
abbrev pub pair_value : List ℕ → ℕ
pair_value (a ∷ b ∷ cs) = (digit_of a * 16 + digit_of b) % 256
pair_value _ = 0

abbrev pub pair_byte : List ℕ → Lexeme → ℕ
pair_byte text l = pair_value (slice_range text l.start l.end)
