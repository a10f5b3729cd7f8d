-- Blanks, comments and line markers, which may stand between any two lexemes
-- (Devicetree Specification v0.4, section 6; the markers are those of the C preprocessor).
use Rattle.std.specs.Prelude.{◌≡◌, ℕ, ◌==◌, Bool, true, false, ◌&&◌, ◌||◌, List, [], ◌∷◌, drop, Option, Some, None, if◌then◌else◌}
use Rattle.dt_text.specs.declared.lexeme.language.Language.{Language}
use Rattle.dt_text.specs.declared.lexeme.language.Language.TheVariants.{Profile, Dtc}
use Rattle.dt_text.specs.Lexeme.Bytes.{is_blank, is_digit}

abbrev pub begins_blank : List ℕ → Bool
begins_blank [] = false
begins_blank (c ∷ s) = is_blank c

abbrev pub begins_comment : List ℕ → Bool
begins_comment [] = false
begins_comment (c ∷ []) = false
begins_comment (c ∷ d ∷ s) = c == 47 && d == 42

abbrev pub ends_comment : List ℕ → Bool
ends_comment [] = false
ends_comment (c ∷ []) = false
ends_comment (c ∷ d ∷ s) = c == 42 && d == 47

abbrev pub begins_digit : List ℕ → Bool
begins_digit [] = false
begins_digit (c ∷ s) = is_digit c

-- a comment of two slashes, or a line marker: `# ` and a digit
abbrev pub begins_plain_line : List ℕ → Bool
begins_plain_line [] = false
begins_plain_line (c ∷ []) = false
begins_plain_line (c ∷ d ∷ s) = c == 47 && d == 47 || c == 35 && d == 32 && begins_digit s

-- ---- markers of dtc's language (dtc 1.6, manual.txt, section 4.1): `#` or `#line`, spaces and tabs, a number

-- a text without the word `line` at its front
abbrev pub behind_word : List ℕ → List ℕ
behind_word (a ∷ b ∷ c ∷ d ∷ s) = if a == 108 && b == 105 && c == 110 && d == 101 then s else a ∷ b ∷ c ∷ d ∷ s
behind_word s = s

-- a space or a tab
abbrev pub is_space : ℕ → Bool
is_space c = c == 32 || c == 9

unfoldable pub behind_blanks : List ℕ → List ℕ
behind_blanks [] = []
behind_blanks (c ∷ s) = if is_space c then behind_blanks s else c ∷ s

abbrev pub begins_number : List ℕ → Bool
begins_number [] = false
begins_number (c ∷ s) = is_space c && begins_digit (behind_blanks s)

abbrev pub begins_dtc_marker : List ℕ → Bool
begins_dtc_marker [] = false
begins_dtc_marker (c ∷ s) = c == 35 && begins_number (behind_word s)

-- what reaches to the end of its line, in each language
abbrev pub begins_line : Language → List ℕ → Bool
begins_line Profile s = begins_plain_line s
begins_line Dtc s = begins_plain_line s || begins_dtc_marker s

-- what follows the first end of a comment
unfoldable pub comment_end : List ℕ → Option (List ℕ)
comment_end [] = None
comment_end (c ∷ []) = None
comment_end (c ∷ d ∷ s) = if c == 42 && d == 47 then Some s else comment_end (d ∷ s)

-- what stands from the first line feed on
unfoldable pub line_end : List ℕ → List ℕ
line_end [] = []
line_end (c ∷ s) = if c == 10 then c ∷ s else line_end s

-- Blanks, comments and skipped lines lie between the front of the first text and the second text.
pub data Gap (language : Language) : List ℕ → List ℕ → Type 0 where
  nothing : {s : List ℕ} → Gap language s s
  blank : {s t : List ℕ} → begins_blank s ≡ true → Gap language (drop 1 s) t → Gap language s t
  line : {s t : List ℕ} → begins_line language s ≡ true → Gap language (line_end (drop 2 s)) t → Gap language s t
  comment : {s m t : List ℕ} → begins_comment s ≡ true → comment_end (drop 2 s) ≡ Some m → Gap language m t → Gap language s t

-- No blank, no comment and no marker stands here.
pub record NoGap (language : Language) (s : List ℕ) : Type 0 where
  pub blank : begins_blank s ≡ false
  pub line : begins_line language s ≡ false
  pub comment : begins_comment s ≡ false

-- where a gap ends that reaches as far as it can
pub record IsGap (language : Language) (s t : List ℕ) : Type 0 where
  pub gap : Gap language s t
  pub over : NoGap language t

-- what follows the gap at the front, if its comments end
abbrev pub SkipsGap : Language → List ℕ → Option (List ℕ) → Type 0
SkipsGap language s None = (t : List ℕ) → IsGap language s t → ⊥
SkipsGap language s (Some t) = IsGap language s t

-- The gap at the front breaks off at a comment that doesn't end.
pub record BreaksOff (language : Language) (s t : List ℕ) : Type 0 where
  pub gap : Gap language s t
  pub begins : begins_comment t ≡ true
  pub endless : comment_end (drop 2 t) ≡ None
