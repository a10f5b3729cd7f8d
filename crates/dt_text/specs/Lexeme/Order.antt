-- Lexemes in the order of the text.
use Rattle.std.specs.Prelude.{◌≡◌, ◌≤◌, ◌<◌, ℕ, List, [], ◌∷◌}
use Rattle.dt_text.specs.declared.lexeme.lexeme.Lexeme.{Lexeme}
use Rattle.dt_text.specs.declared.lexeme.language.Language.{Language}
use Rattle.dt_text.specs.Lexeme.Lexemes.{Lexemes}

-- These lexemes stand one behind the other, at or behind this place.
unfoldable pub Above : ℕ → List Lexeme → Type 0
Above p [] = Unit {0}
Above p (l ∷ ls) = (p ≤ l.start) × (l.start < l.end) × Above l.end ls

-- A text's lexemes stand one behind the other.
abbrev pub LexemesAreInOrder : Type 0
LexemesAreInOrder = (language : Language) (text : List ℕ) (ls : List Lexeme) → Lexemes language text ls → Above 0 ls

-- A text has one list of lexemes at most.
abbrev pub OneList : Type 0
OneList = (language : Language) (text : List ℕ) (a b : List Lexeme) → Lexemes language text a → Lexemes language text b → a ≡ b
