-- A fault of the first step is the fault of all.
use Rattle.std.proofs.Common.{◌≡◌, ℕ, Result, Err, refl, sym, ap, subst}
use Rattle.dt_tree.specs.Steps.{then_do}
use Rattle.dt_source.specs.TreeMeaning.Statements.{Fault}
use Rattle.dt_build.specs.declared.edit.error.EditErrorKind.{EditErrorKind}
use Rattle.dt_build.specs.declared.edit.error.EditErrorKind.TheVariants.{NoMemory, UnknownLabel, DuplicateLabel, UnknownPath, DuplicateInBody, ReservedName, TooDeep}
use Rattle.dt_source.specs.TreeMeaning.Statements as meaning
use Rattle.dt_live.specs.declared.labels.LabelError.{LabelError}
use Rattle.dt_live.specs.declared.labels.LabelError.TheVariants as labels
use Rattle.dt_live.specs.declared.placed.error.StandError.{StandError}
use Rattle.dt_live.specs.declared.placed.error.StandError.TheVariants as stands
use Rattle.dt_build.specs.Edit.EditFault.{IsFault}
use Rattle.dt_build.specs.Edit.Private.LabelFault.{edit_error}
use Rattle.dt_build.specs.Edit.Private.StandFault.{stand_error}

pub fault-then : {A B : Type 0} (e : EditErrorKind) (r : Result A Fault) (f : A → Result B Fault) → IsFault e r → IsFault e (then_do r f)
fault-then NoMemory r f h = h
fault-then UnknownLabel r f h = ap (λ x. then_do x f) h
fault-then DuplicateLabel r f h = ap (λ x. then_do x f) h
fault-then UnknownPath r f h = ap (λ x. then_do x f) h
fault-then DuplicateInBody r f h = ap (λ x. then_do x f) h
fault-then ReservedName r f h = ap (λ x. then_do x f) h
fault-then TooDeep r f h = ap (λ x. then_do x f) h

pub fault-same : {A : Type 0} (e : EditErrorKind) (r r' : Result A Fault) → r' ≡ r → IsFault e r → IsFault e r'
fault-same {A} e r r' same h = subst (λ (q : Result A Fault). IsFault e q) (sym same) h

-- a label that isn't given
pub label-says : {A : Type 0} (a : LabelError) (r : Result A Fault) → (a ≡ labels.DuplicateLabel → r ≡ Err meaning.DuplicateLabel) → IsFault (edit_error a) r
label-says labels.NoMemory r h = tt
label-says labels.DuplicateLabel r h = h refl

-- a label that stands at two nodes
pub stand-says : {A : Type 0} (a : StandError) (r : Result A Fault) → ((at : ℕ) → a ≡ stands.DuplicateLabel at → r ≡ Err meaning.DuplicateLabel) → IsFault (stand_error a) r
stand-says stands.NoMemory r h = tt
stand-says (stands.DuplicateLabel at) r h = h at refl

pub fault-error : {A : Type 0} (e e' : EditErrorKind) (r : Result A Fault) → e ≡ e' → IsFault e' r → IsFault e r
fault-error e e' r same h = subst (λ (d : EditErrorKind). IsFault d r) (sym same) h
