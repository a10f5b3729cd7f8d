-- The lexemes of a text.
use Rattle.std.specs.Prelude.{◌≡◌, ◌≢◌, ◌⊎◌, ℕ, ◌+◌, ◌-◌, List, [], ◌∷◌, length, drop, Option, Some, None}
use Rattle.dt_text.specs.declared.lexeme.lexeme.Lexeme.{Lexeme}
use Rattle.dt_text.specs.declared.lexeme.language.Language.{Language}
use Rattle.dt_text.specs.declared.lexeme.context.Context.{Context}
use Rattle.dt_text.specs.Lexeme.Gaps.{IsGap, BreaksOff}
use Rattle.dt_text.specs.Lexeme.Families.{Longest, IsLongest, kind_of}
use Rattle.dt_text.specs.Lexeme.Contexts.{step, start}

-- Gaps and lexemes in turn, each lexeme the longest that can stand in its context. The text is what is left of one of
-- total bytes.
unfoldable pub Left : ℕ → Context → List ℕ → List Lexeme → Type 0
Left total context text [] = IsGap context.language text []
Left total context text (l ∷ ls) =
    (s : List ℕ) × (n : ℕ) × IsGap context.language text s × IsLongest (kind_of context) s l.kind n
    × (l.start ≡ total - length s) × (l.end ≡ total - length s + n) × Left total (step context l.kind) (drop n s) ls

-- These are the lexemes of a text in this language.
unfoldable pub Lexemes : Language → List ℕ → List Lexeme → Type 0
Lexemes language text ls = Left (length text) (start language) text ls

-- The text has no list of lexemes.
abbrev pub HasNone : Language → List ℕ → Type 0
HasNone language text = (ls : List Lexeme) → Lexemes language text ls → ⊥

-- The text breaks off here: behind the gap stands a comment that doesn't end, or bytes with which no lexeme begins.
abbrev pub BreaksAt : Context → List ℕ → List ℕ → Type 0
BreaksAt context text s = BreaksOff context.language text s ⊎ (IsGap context.language text s × (s ≢ []) × Longest (kind_of context) s None)

-- Gaps and lexemes in turn as above, up to this place, where the text breaks off.
unfoldable pub LeftTo : ℕ → ℕ → Context → List ℕ → List Lexeme → Type 0
LeftTo total stop context text [] = (s : List ℕ) × BreaksAt context text s × (stop ≡ total - length s)
LeftTo total stop context text (l ∷ ls) =
    (s : List ℕ) × (n : ℕ) × IsGap context.language text s × IsLongest (kind_of context) s l.kind n
    × (l.start ≡ total - length s) × (l.end ≡ total - length s + n) × LeftTo total stop (step context l.kind) (drop n s) ls

-- These are the text's lexemes before the place where it breaks off.
unfoldable pub LexemesTo : Language → ℕ → List ℕ → List Lexeme → Type 0
LexemesTo language stop text ls = LeftTo (length text) stop (start language) text ls

-- the text breaks off at this place, behind lexemes
abbrev pub IsStop : Language → List ℕ → ℕ → Type 0
IsStop language text stop = (before : List Lexeme) × LexemesTo language stop text before

-- the text's lexemes, or those before the place where it breaks off
abbrev pub Scanned : Language → List ℕ → List Lexeme → Option ℕ → Type 0
Scanned language text ls None = Lexemes language text ls
Scanned language text ls (Some stop) = HasNone language text × LexemesTo language stop text ls
