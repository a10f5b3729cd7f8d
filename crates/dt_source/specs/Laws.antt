-- What reading a source has to do with what its lexemes spell.
use Rattle.std.specs.Prelude.{◌≡◌, ◌⊎◌, ℕ, List, Option, Ok}
use Rattle.dt_text.specs.declared.lexeme.language.Language.{Language}
use Rattle.dt_text.specs.declared.lexeme.lexeme.Lexeme.{Lexeme}
use Rattle.dt_text.specs.declared.lexeme.lexeme.Fault.{Fault}
use Rattle.dt_source.specs.declared.error.SourceErrorKind.{SourceErrorKind}
use Rattle.dt_source.specs.declared.place.Place.{Place}
use Rattle.dt_source.specs.declared.error.SourceErrorKind.TheVariants.{NoMemory}
use Rattle.dt_source.specs.SourceError.{kind_of_fault}
use Rattle.dt_source.specs.Order.{first_of}
use Rattle.dt_source.specs.Parse.{IsShort, Says, HasFirstFault, Refuses}
use Rattle.dt_source.specs.TreeMeaning.Syntax.{Meaning}
use Rattle.dt_source.specs.Source.{SourceTree, Spells, said, faults_of}
use Rattle.dt_source.specs.Reading.Whole.{source_at}

-- What is read is spelled so: it says that, and has that first fault.
abbrev pub SourcesAreSpelled : Type 0
SourcesAreSpelled =
    (language : Language) (text : List ℕ) (ts : List Lexeme) (m : Meaning) (f : Option Fault) → source_at language text ts ≡ Ok (m, f)
    → (s : SourceTree) × Spells language s ts × (said language text s ≡ m) × (first_of (faults_of language text s) ≡ f)

-- What is spelled is read.
abbrev pub SourcesAreRead : Type 0
SourcesAreRead =
    (language : Language) (text : List ℕ) (s : SourceTree) (ts : List Lexeme) → Spells language s ts → source_at language text ts ≡ Ok (said language text s, first_of (faults_of language text s))

-- Lexemes spell at most one source, in one way.
abbrev pub OneSpelling : Type 0
OneSpelling = (language : Language) (ts : List Lexeme) (s t : SourceTree) → Spells language s ts → Spells language t ts → s ≡ t

-- Nothing but want of memory refuses a text that says something.
abbrev pub OnlyMemoryRefusesWhatIsSaid : Type 0
OnlyMemoryRefusesWhatIsSaid =
    (language : Language) (text : List ℕ) (m : Meaning) (k : SourceErrorKind) (p : Place) → IsShort text → Says language text m → Refuses language text k p → k ≡ NoMemory

-- Nothing but its first fault and want of memory refuses a text that has one.
abbrev pub OnlyMemoryAndTheFaultRefuse : Type 0
OnlyMemoryAndTheFaultRefuse =
    (language : Language) (text : List ℕ) (f : Fault) (k : SourceErrorKind) (p : Place) → IsShort text → HasFirstFault language text f → Refuses language text k p
    → (k ≡ NoMemory) ⊎ (k ≡ kind_of_fault f.kind)
