-- Faults in the order of the text.
use Rattle.std.specs.Prelude.{◌≡◌, ℕ, ◌≤◌, List, [], ◌∷◌, Option, Some, None, Contains, All}
use Rattle.dt_text.specs.declared.lexeme.language.Language.{Language}
use Rattle.dt_text.specs.declared.lexeme.lexeme.Lexeme.{Lexeme}
use Rattle.dt_text.specs.declared.lexeme.lexeme.Fault.{Fault}
use Rattle.dt_text.specs.Lexeme.Lexemes.{Lexemes}
use Rattle.dt_source.specs.Source.{SourceTree, Spells, faults_of}

abbrev pub first_of : List Fault → Option Fault
first_of [] = None
first_of (f ∷ fs) = Some f

-- It is one of the faults, and none stands before it in the text; or there is none.
abbrev pub IsFirstInText : Option Fault → List Fault → Type 0
IsFirstInText None fs = fs ≡ []
IsFirstInText (Some f) fs = Contains fs f × All (λ g. f.place ≤ g.place) fs

-- The first fault that is met is the first in the text.
abbrev pub FaultsAreInOrder : Type 0
FaultsAreInOrder = (language : Language) (text : List ℕ) (ls : List Lexeme) (s : SourceTree) → Lexemes language text ls → Spells language s ls → IsFirstInText (first_of (faults_of language text s)) (faults_of language text s)
