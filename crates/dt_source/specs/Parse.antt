-- What text is a source in a language, and what parsing answers (Devicetree Specification v0.4, chapter 6).
use Rattle.std.specs.Prelude.{◌≡◌, ℕ, ◌<◌, ◌≤◌, nat_lt, List, [], length, Option, Some, None, Result, Ok, Err, if◌then◌else◌}
use Rattle.dt_text.specs.Lexeme.Limits.{text_limit}
use Rattle.dt_text.specs.declared.lexeme.language.Language.{Language}
use Rattle.dt_text.specs.declared.lexeme.lexeme.Lexeme.{Lexeme}
use Rattle.dt_text.specs.declared.lexeme.lexeme.Fault.{Fault}
use Rattle.dt_text.specs.declared.lexeme.lexeme.FaultKind.{FaultKind}
use Rattle.dt_text.specs.declared.lexeme.lexeme.FaultKind.TheVariants.{ElementRange, DivideByZero, BadBits, LiteralRange, BadEscape}
use Rattle.dt_text.specs.declared.lexeme.lexeme.Refusal.{Refusal}
use Rattle.dt_text.specs.declared.lexeme.lexeme.RefusalKind.{RefusalKind}
use Rattle.dt_text.specs.declared.lexeme.lexeme.RefusalKind.TheVariants.{Syntax, TooDeep}
use Rattle.dt_source.specs.declared.error.SourceErrorKind.{SourceErrorKind}
use Rattle.dt_source.specs.declared.error.SourceErrorKind.TheVariants as kinds
use Rattle.dt_text.specs.declared.lexeme.lexeme.ReadError.{ReadError}
use Rattle.dt_text.specs.declared.lexeme.lexeme.ReadError.TheVariants as errors
use Rattle.dt_text.specs.Lexeme.Lexemes.{Lexemes, Scanned}
use Rattle.dt_source.specs.declared.place.Place.{Place}
use Rattle.dt_source.specs.Places.{beginning, nowhere, place_at}
use Rattle.dt_source.specs.TreeMeaning.Syntax.{Meaning}
use Rattle.dt_source.specs.Order.{first_of}
use Rattle.dt_source.specs.Order.{IsFirstInText}
use Rattle.dt_source.specs.Source.{SourceTree, Spells, said, faults_of}
use Rattle.dt_source.specs.Reading.Whole.{source_at}

-- at most 16 MiB
abbrev pub IsShort : List ℕ → Type 0
IsShort text = length text ≤ text_limit

-- Some lexemes of the text spell the source.
abbrev pub IsSource : Language → List ℕ → SourceTree → Type 0
IsSource language text s = (ls : List Lexeme) × Lexemes language text ls × Spells language s ls

-- The text isn't in the bounded grammar.
abbrev pub IsNoSource : Language → List ℕ → Type 0
IsNoSource language text = (s : SourceTree) → IsSource language text s → ⊥

-- The text spells a source without faults, and this is what it says.
abbrev pub Says : Language → List ℕ → Meaning → Type 0
Says language text m = (s : SourceTree) × IsSource language text s × (faults_of language text s ≡ []) × (said language text s ≡ m)

-- The first of the faults, which is the first in the text, or there is none.
abbrev pub IsFirst : Option Fault → List Fault → Type 0
IsFirst f fs = (first_of fs ≡ f) × IsFirstInText f fs

-- The text spells a source with faults, and this is the first of them.
abbrev pub HasFirstFault : Language → List ℕ → Fault → Type 0
HasFirstFault language text f = (s : SourceTree) × IsSource language text s × IsFirst (Some f) (faults_of language text s)

-- ---- where a text that is no source stops

-- no lexeme stands at this place
abbrev pub no_lexeme : ℕ → Refusal
no_lexeme place = record { kind = Syntax; place = place }

-- the first of two refusals, the second of a place without a lexeme
abbrev pub refusal_before : ℕ → Refusal → Refusal
refusal_before place r = if nat_lt r.place place then r else no_lexeme place

-- Why lexemes are refused that reach to the end of the text, or to a place where no lexeme stands: one of them can't
-- follow or nests too deep, or it is that place.
abbrev pub refusal_of : {A : Type 0} → Option ℕ → Result A Refusal → Option Refusal
refusal_of None (Ok x) = None
refusal_of None (Err r) = Some r
refusal_of (Some place) (Ok x) = Some (no_lexeme place)
refusal_of (Some place) (Err r) = Some (refusal_before place r)

-- The text is refused at this place: its lexemes, or those before it breaks off, read from left to right, are refused there.
abbrev pub StopsAt : Language → List ℕ → Refusal → Type 0
StopsAt language text r = (ls : List Lexeme) × (end : Option ℕ) × Scanned language text ls end × (refusal_of end (source_at language text ls) ≡ Some r)

abbrev pub IsRefused : Language → List ℕ → Refusal → Type 0
IsRefused language text r = IsNoSource language text × StopsAt language text r

-- ---- when each refusal comes, and its place

-- The text isn't in the bounded grammar, and stops for this reason at this place.
abbrev pub HasStop : Language → List ℕ → RefusalKind → Place → Type 0
HasStop language text k p = IsShort text × ((r : Refusal) × IsRefused language text r × (r.kind ≡ k) × (p ≡ place_at text r.place))

-- Its first fault is of this kind, at this place.
abbrev pub HasFault : Language → List ℕ → FaultKind → Place → Type 0
HasFault language text k p = IsShort text × ((f : Fault) × HasFirstFault language text f × (f.kind ≡ k) × (p ≡ place_at text f.place))

abbrev pub Refuses : Language → List ℕ → SourceErrorKind → Place → Type 0
Refuses language text kinds.NoMemory p = IsShort text × (p ≡ nowhere)
Refuses language text kinds.Syntax p = HasStop language text Syntax p
Refuses language text kinds.TooDeep p = HasStop language text TooDeep p
Refuses language text kinds.TooLong p = (text_limit < length text) × (p ≡ beginning)
Refuses language text kinds.ElementRange p = HasFault language text ElementRange p
Refuses language text kinds.DivideByZero p = HasFault language text DivideByZero p
Refuses language text kinds.BadBits p = HasFault language text BadBits p
Refuses language text kinds.LiteralRange p = HasFault language text LiteralRange p
Refuses language text kinds.BadEscape p = HasFault language text BadEscape p

-- what was read of a text: what its source says, and the first of its faults
abbrev pub IsRead : Language → List ℕ → Meaning → Option Fault → Type 0
IsRead language text m f = (s : SourceTree) × IsSource language text s × (said language text s ≡ m) × IsFirst f (faults_of language text s)

abbrev pub IfRefused : Language → List ℕ → ReadError → Type 0
IfRefused language text errors.NoMemory = Unit {0}
IfRefused language text (errors.Refused r) = IsRefused language text r

-- the refusal where no lexeme stands at this place
abbrev pub refused_at : {A : Type 0} → ℕ → Result A ReadError → ReadError
refused_at place (Ok x) = errors.Refused (no_lexeme place)
refused_at place (Err errors.NoMemory) = errors.NoMemory
refused_at place (Err (errors.Refused r)) = errors.Refused (refusal_before place r)
