-- The words by which a source names files: `/include/ "FILE"` and `/incbin/("FILE"` (dtc 1.6, Documentation/manual.txt, section 4.1).
use Rattle.std.specs.Prelude.{◌≡◌, ◌⊎◌, ℕ, ◌+◌, ◌-◌, ◌==◌, nat_eq, Bool, true, false, ◌&&◌, ◌||◌, List, [], ◌∷◌, ◌++◌, Some, None, take, drop, codes}
use Rattle.std.specs.Cmp.Lexicographic.{pointwise}
use Rattle.dt_text.specs.Lexeme.Bytes.{begins}
use Rattle.dt_text.specs.Lexeme.Families.{IsLongest, slashed}
use Rattle.dt_text.specs.Lexeme.Fronts.{Front, closes, closes_character}
use Rattle.dt_text.specs.Lexeme.Gaps.{IsGap, begins_comment}
use Rattle.dt_text.specs.declared.lexeme.language.Language.TheVariants.{Dtc}
use Rattle.dt_text.specs.declared.lexeme.lexeme.Kind.{Kind}
use Rattle.dt_text.specs.Expression.Escape.{unescaped}
use Rattle.dt_text.specs.declared.include.words.Inclusion.{Inclusion}
use Rattle.dt_text.specs.declared.include.words.Inclusion.TheVariants.{Binary, Source}

-- ---- the words

-- Behind a gap stands this sign.
pub record Sign (c : ℕ) (s rest : List ℕ) : Type 0 where
  pub start : List ℕ
  pub gap : IsGap Dtc s start
  pub sign : begins c start ≡ true
  pub rest_is : rest ≡ drop 1 start

-- Behind a gap stands a string (34 is its quote): between its quotes is the name.
pub record Quoted (s name rest : List ℕ) : Type 0 where
  pub start : List ℕ
  pub len : ℕ
  pub gap : IsGap Dtc s start
  pub quote : begins 34 start ≡ true
  pub string : Front (closes 34 true) start (Some len)
  pub name_is : name ≡ drop 1 (take (len - 1) start)
  pub rest_is : rest ≡ drop len start

-- Behind `(` (40) stands the name.
pub record Bracketed (s name rest : List ℕ) : Type 0 where
  pub inside : List ℕ
  pub open_sign : Sign 40 s inside
  pub quoted : Quoted inside name rest

abbrev pub begins_include : List ℕ → Bool
begins_include s = pointwise nat_eq (take 9 s) (codes "/include/")

abbrev pub begins_incbin : List ℕ → Bool
begins_incbin s = pointwise nat_eq (take 8 s) (codes "/incbin/")

-- These words stand at the front, and the rest behind them.
abbrev pub NamesFile : List ℕ → Inclusion → List ℕ → Type 0
NamesFile s (Source name) rest = (begins_include s ≡ true) × Quoted (drop 9 s) name.now rest
NamesFile s (Binary name) rest = (begins_incbin s ≡ true) × Bracketed (drop 8 s) name.now rest

-- Behind `/include/` no name stands.
abbrev pub IsBroken : List ℕ → Type 0
IsBroken s = (begins_include s ≡ true) × ((name rest : List ℕ) → Quoted (drop 9 s) name rest → ⊥)

-- Behind `/incbin/` no name stands.
abbrev pub IsNameless : List ℕ → Type 0
IsNameless s = (begins_incbin s ≡ true) × ((name rest : List ℕ) → Bracketed (drop 8 s) name rest → ⊥)

-- The name in words that name a file. In an `/incbin/`'s stand the escapes of strings, in an `/include/`'s none (dtc 1.6, dtc-lexer.l).
abbrev pub name_of : Inclusion → List ℕ
name_of (Source name) = name.now
name_of (Binary name) = unescaped Dtc 0 name.now

-- ---- which words are next

-- of a string or of a character literal
abbrev pub is_quote : ℕ → Bool
is_quote c = c == 34 || c == 39

abbrev pub begins_quote : List ℕ → Bool
begins_quote [] = false
begins_quote (c ∷ s) = is_quote c

abbrev pub begins_line_comment : List ℕ → Bool
begins_line_comment [] = false
begins_line_comment (c ∷ []) = false
begins_line_comment (c ∷ d ∷ s) = c == 47 && d == 47

abbrev pub begins_remark : List ℕ → Bool
begins_remark s = begins_comment s || begins_line_comment s

abbrev pub begins_keyword : List ℕ → Bool
begins_keyword s = begins_include s || begins_incbin s

-- Strings, character literals, comments with the gap behind them, `/incbin/`s without a name, slashes with the other keywords that
-- they begin, and bytes that begin none of these lie between the front of the first text and the second text.
pub data Passes : List ℕ → List ℕ → Type 0 where
  nothing : {s : List ℕ} → Passes s s
  string : {s t : List ℕ} (n : ℕ) → begins 34 s ≡ true → Front (closes 34 true) s (Some n) → Passes (drop n s) t → Passes s t
  character : {s t : List ℕ} (n : ℕ) → begins 39 s ≡ true → Front (closes_character false) (drop 1 s) (Some n) → Passes (drop (n + 1) s) t → Passes s t
  remark : {s t : List ℕ} (behind : List ℕ) → begins_remark s ≡ true → IsGap Dtc s behind → Passes behind t → Passes s t
  nameless : {s t : List ℕ} → IsNameless s → Passes (drop 8 s) t → Passes s t
  slash : {s t : List ℕ} (kind : Kind) (n : ℕ) → begins 47 s ≡ true → (begins_remark s || begins_keyword s) ≡ false → IsLongest (slashed Dtc) (drop 1 s) kind n
      → Passes (drop (n + 1) s) t → Passes s t
  byte : {s t : List ℕ} → (begins_quote s || begins 47 s) ≡ false → Passes (drop 1 s) t → Passes s t

-- A string, a character literal or a comment is open up to the text's end.
pub data IsOpen (s : List ℕ) : Type 0 where
  open_string : begins 34 s ≡ true → Front (closes 34 true) s None → IsOpen s
  open_character : begins 39 s ≡ true → Front (closes_character false) (drop 1 s) None → IsOpen s
  open_comment : begins_remark s ≡ true → ((t : List ℕ) → IsGap Dtc s t → ⊥) → IsOpen s

-- No words that name a file stand in the text.
abbrev pub HoldsNone : List ℕ → Type 0
HoldsNone s = (t : List ℕ) × Passes s t × (t ≡ [] ⊎ IsOpen t)

-- A file may end so. One that another takes in leaves nothing open, as a lexeme ends with its file (dtc 1.6, dtc-lexer.l); the user's
-- own may: its text has no lexemes then.
abbrev pub MayEnd : (nested : Bool) → List ℕ → Type 0
MayEnd true s = Passes s []
MayEnd false s = HoldsNone s

-- The text has these words, what stands before the first of them, and what stands behind.
pub record HasNext (text : List ℕ) (inclusion : Inclusion) (before rest : List ℕ) : Type 0 where
  pub at : List ℕ
  pub passes : Passes text at
  pub names : NamesFile at inclusion rest
  pub before_is : before ++ at ≡ text
