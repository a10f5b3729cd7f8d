-- What each error says of the meaning; want of memory says nothing of it. Where an error stands, `FaultPlaces` says.
use Rattle.std.specs.Prelude.{◌≡◌, ℕ, List, Result, Ok, Err, MatchResult}
use Rattle.dt_source.specs.TreeMeaning.Edits.{State, counted}
use Rattle.dt_source.specs.TreeMeaning.Statements.{Fault}
use Rattle.dt_source.specs.TreeMeaning.Statements as meaning
use Rattle.dt_source.specs.TreeMeaning.Syntax.{Piece}
use Rattle.dt_live.specs.declared.live_tree.LiveTree.{LiveTree}
use Rattle.dt_build.specs.declared.edit.error.EditError.{EditError}
use Rattle.dt_build.specs.declared.edit.error.EditErrorKind.{EditErrorKind}
use Rattle.dt_build.specs.declared.edit.error.EditErrorKind.TheVariants.{NoMemory, UnknownLabel, DuplicateLabel, UnknownPath, DuplicateInBody, ReservedName, TooDeep}
use Rattle.dt_build.specs.Edit.Said.{Parts, tree_of}

abbrev pub IsFault : {A : Type 0} → EditErrorKind → Result A Fault → Type 0
IsFault NoMemory r = Unit {0}
IsFault UnknownLabel r = r ≡ Err meaning.UnknownLabel
IsFault DuplicateLabel r = r ≡ Err meaning.DuplicateLabel
IsFault UnknownPath r = r ≡ Err meaning.UnknownPath
IsFault DuplicateInBody r = r ≡ Err meaning.DuplicateInBody
IsFault ReservedName r = r ≡ Err meaning.ReservedName
IsFault TooDeep r = r ≡ Err meaning.TooDeep

-- a call gives what the meaning gives, or has its fault
abbrev pub Gives : {A B : Type 0} → Result A Fault → (B → A) → Result B EditError → Type 0
Gives meant value result = MatchResult result (λ b. meant ≡ Ok (value b)) (λ e. IsFault e.kind meant)

-- a call leaves a live tree that shows what the meaning gives, after however many fragments, or has its fault
abbrev pub Shows : {A : Type 0} → Result (State (List Piece)) Fault → LiveTree Parts → Result A EditError → Type 0
Shows meant d result = MatchResult result (λ _. (n : ℕ) × (meant ≡ Ok (counted n (tree_of d)))) (λ e. IsFault e.kind meant)
