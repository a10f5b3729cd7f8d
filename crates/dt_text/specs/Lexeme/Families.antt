-- What a text is in a context, if it is one lexeme (Devicetree Specification v0.4, section 6; what only dtc's language has, dtc 1.6,
-- Documentation/dts-format.txt).
use Rattle.std.specs.Prelude.{◌≡◌, ℕ, ◌<◌, ◌≤◌, ◌==◌, nat_lt, nat_eq, Bool, true, false, ◌&&◌, List, [], ◌∷◌, length, take, Option, Some, None, if◌then◌else◌, codes}
use Rattle.std.specs.Cmp.Lexicographic.{pointwise}
use Rattle.dt_text.specs.declared.lexeme.lexeme.Kind.{Kind}
use Rattle.dt_text.specs.declared.lexeme.lexeme.Kind.TheVariants.{Version, Plugin, MemReserve, Bits, DeleteNode, DeleteProperty, OmitIfNoRef, IncludeBinary, Label, Name, Literal, Text, Character, Reference, PathReference, Pair, Semicolon, Brace, EndBrace, Equals, Comma, Less, Greater, Square, EndSquare, Paren, EndParen, Slash, Question, Colon, OrOr, AndAnd, Or, Xor, And, EqualEqual, NotEqual, LessEqual, GreaterEqual, ShiftLeft, ShiftRight, Plus, Minus, Star, Percent, Tilde, Bang}
use Rattle.dt_text.specs.declared.lexeme.bytes.Class.TheVariants as classes
use Rattle.dt_text.specs.declared.lexeme.language.Language.{Language}
use Rattle.dt_text.specs.declared.lexeme.language.Language.TheVariants.{Profile, Dtc}
use Rattle.dt_text.specs.declared.lexeme.context.Mode.{Mode}
use Rattle.dt_text.specs.declared.lexeme.context.Mode.TheVariants as modes
use Rattle.dt_text.specs.declared.lexeme.context.Context.{Context}
use Rattle.dt_text.specs.declared.lexeme.families.First.{First}
use Rattle.dt_text.specs.declared.lexeme.families.First.TheVariants as firsts
use Rattle.dt_text.specs.Lexeme.Bytes.{is_letter, is_digit, is_hex, is_name}
use Rattle.dt_text.specs.Lexeme.Fronts.{strings, closes_character, labels, names, words, paths, numbers, hexed, one_hex}

-- ---- the longest lexeme

-- The longest front that is of some kind has n bytes and this kind.
pub record IsLongest {K : Type 0} (f : List ℕ → Option K) (s : List ℕ) (k : K) (n : ℕ) : Type 0 where
  pub within : n ≤ length s
  pub is : f (take n s) ≡ Some k
  pub longest : (m : ℕ) → n < m → m ≤ length s → f (take m s) ≡ None

-- the longest front that is of some kind, if one is
abbrev pub Longest : {K : Type 0} → (List ℕ → Option K) → List ℕ → Option (K × ℕ) → Type 0
Longest f s None = (m : ℕ) → m ≤ length s → f (take m s) ≡ None
Longest f s (Some x) = IsLongest f s x.0 x.1

-- ---- punctuation and operators

abbrev pub punctuation : ℕ → Option Kind
punctuation c =
    if c == 59 then Some Semicolon else
    (if c == 123 then Some Brace else
    (if c == 125 then Some EndBrace else
    (if c == 61 then Some Equals else
    (if c == 44 then Some Comma else
    (if c == 60 then Some Less else
    (if c == 62 then Some Greater else
    (if c == 91 then Some Square else
    (if c == 93 then Some EndSquare else
    (if c == 40 then Some Paren else
    (if c == 41 then Some EndParen else None))))))))))

-- one character that is an operator, other than punctuation and `&`
abbrev pub operator : ℕ → Option Kind
operator c =
    if c == 63 then Some Question else
    (if c == 58 then Some Colon else
    (if c == 124 then Some Or else
    (if c == 94 then Some Xor else
    (if c == 43 then Some Plus else
    (if c == 45 then Some Minus else
    (if c == 42 then Some Star else
    (if c == 37 then Some Percent else
    (if c == 126 then Some Tilde else
    (if c == 33 then Some Bang else None)))))))))

-- the operator that a second character makes of the first
abbrev pub second_of : Kind → ℕ → Option Kind
second_of Less c = if c == 61 then Some LessEqual else (if c == 60 then Some ShiftLeft else None)
second_of Greater c = if c == 61 then Some GreaterEqual else (if c == 62 then Some ShiftRight else None)
second_of Equals c = if c == 61 then Some EqualEqual else None
second_of Bang c = if c == 61 then Some NotEqual else None
second_of Or c = if c == 124 then Some OrOr else None
second_of k c = None

-- ---- what may begin with a byte

abbrev pub single_operator : Option Kind → First
single_operator (Some k) = firsts.Operator k
single_operator None = firsts.Nothing

abbrev pub single_by : Bool → Option Kind → ℕ → First
single_by true (Some k) c = firsts.Operator k
single_by false (Some k) c = firsts.Alone k
single_by true None c = single_operator (operator c)
single_by false None c = firsts.Nothing

-- punctuation, and operators inside parentheses
abbrev pub single : Bool → ℕ → First
single inside c = single_by inside (punctuation c) c

abbrev pub first_in : Mode → Bool → ℕ → First
first_in modes.Name inside c = if is_letter c then firsts.Letter else (if is_name c then firsts.Other else single inside c)
first_in modes.Value inside c = if is_letter c then firsts.Word else (if c == 48 then firsts.Zero else (if is_digit c then firsts.Digit else single inside c))
first_in modes.Byte inside c = if is_letter c then (if is_hex c then firsts.HexLetter else firsts.Word) else (if is_hex c then firsts.HexDigit else single inside c)

abbrev pub is_dtc : Language → Bool
is_dtc Profile = false
is_dtc Dtc = true

-- the lexemes that may begin with this byte in this context
unfoldable pub first_at : Context → ℕ → First
first_at context c =
    if c == 34 then firsts.Quote context.language else
    (if is_dtc context.language && c == 39 then firsts.Apostrophe else
    (if c == 47 then firsts.Solidus context.language else
    (if c == 38 then firsts.Ampersand context.language (nat_lt 0 context.parens) else
    first_in context.mode (nat_lt 0 context.parens) c)))

-- ---- what stands behind the first byte

abbrev pub given : Kind → (List ℕ → Bool) → List ℕ → Option Kind
given k b s = if b s then Some k else None

abbrev pub alone : Kind → List ℕ → Option Kind
alone k [] = Some k
alone k (c ∷ s) = None

-- behind the first slash of a keyword
abbrev pub keyword : List ℕ → Option Kind
keyword s =
    if pointwise nat_eq s (codes "dts-v1/") then Some Version else
    (if pointwise nat_eq s (codes "plugin/") then Some Plugin else
    (if pointwise nat_eq s (codes "memreserve/") then Some MemReserve else
    (if pointwise nat_eq s (codes "bits/") then Some Bits else
    (if pointwise nat_eq s (codes "delete-node/") then Some DeleteNode else
    (if pointwise nat_eq s (codes "delete-property/") then Some DeleteProperty else None)))))

abbrev pub or_kind : Option Kind → Option Kind → Option Kind
or_kind (Some k) other = Some k
or_kind None other = other

-- the same, of those that only dtc's language has
abbrev pub dtc_keyword : List ℕ → Option Kind
dtc_keyword s =
    if pointwise nat_eq s (codes "omit-if-no-ref/") then Some OmitIfNoRef else
    (if pointwise nat_eq s (codes "incbin/") then Some IncludeBinary else None)

abbrev pub more_keywords : Language → List ℕ → Option Kind
more_keywords Profile s = None
more_keywords Dtc s = dtc_keyword s

abbrev pub keyword_in : Language → List ℕ → Option Kind
keyword_in language s = or_kind (keyword s) (more_keywords language s)

-- a keyword, or the slash alone
unfoldable pub slashed : Language → List ℕ → Option Kind
slashed language s = or_kind (keyword_in language s) (alone Slash s)

-- one character, or two that are an operator
abbrev pub operated : Kind → List ℕ → Option Kind
operated k [] = Some k
operated k (c ∷ []) = second_of k c
operated k (c ∷ d ∷ s) = None

-- `&` alone, which is an operator inside parentheses
abbrev pub and_alone : Bool → Option (Kind × ℕ)
and_alone inside = if inside then Some (And, 0) else None

-- behind `&`: a label or a path in braces, or inside parentheses nothing or a second `&`
abbrev pub ampersand : Language → Bool → List ℕ → Option Kind
ampersand language inside [] = if inside then Some And else None
ampersand language inside (c ∷ s) =
    if c == 123 then given PathReference (paths language) s else
    (if is_letter c then given Reference words s else
    (if inside && c == 38 then alone AndAnd s else None))

-- a label, or else what it may be
abbrev pub label_or : (List ℕ → Option Kind) → List ℕ → Option Kind
label_or other s = if labels s then Some Label else other s

abbrev pub kind_by : First → List ℕ → Option Kind
kind_by (firsts.Quote language) s = given Text (strings language) s
kind_by firsts.Apostrophe s = given Character (closes_character false) s
kind_by (firsts.Solidus language) s = slashed language s
kind_by (firsts.Ampersand language inside) s = ampersand language inside s
kind_by firsts.Zero s = if hexed s then Some Literal else given Literal (numbers classes.Digit) s
kind_by firsts.Digit s = given Literal (numbers classes.Digit) s
kind_by firsts.Letter s = label_or (given Name names) s
kind_by firsts.Other s = given Name names s
kind_by firsts.Word s = given Label labels s
kind_by firsts.HexLetter s = label_or (given Pair one_hex) s
kind_by firsts.HexDigit s = given Pair one_hex s
kind_by (firsts.Operator k) s = operated k s
kind_by (firsts.Alone k) s = alone k s
kind_by firsts.Nothing s = None

-- what these bytes are in this context, if they are one lexeme
unfoldable pub kind_of : Context → List ℕ → Option Kind
kind_of context [] = None
kind_of context (c ∷ s) = kind_by (first_at context c) s
