-- A fault of the first step is the fault of all.
use Rattle.std.proofs.Common.{◌≡◌, Bool, true, false, Result, Ok, Err, if◌then◌else◌, sym, ap, subst}
use Rattle.dt_tree.specs.Steps.{then_do}
use Rattle.dt_source.specs.TreeMeaning.Statements.{Fault}
use Rattle.dt_build.specs.declared.edit.error.EditErrorKind.{EditErrorKind}
use Rattle.dt_build.specs.declared.edit.error.EditErrorKind.TheVariants as edits
use Rattle.dt_build.specs.Edit.EditFault as edit
use Rattle.dt_build.specs.declared.resolve.error.BuildErrorKind.{BuildErrorKind}
use Rattle.dt_build.specs.declared.resolve.error.BuildErrorKind.TheVariants.{NoMemory, UnknownLabel, DuplicateLabel, UnknownPath, BadPhandle, DuplicatePhandle, DuplicateInBody, PathInPlugin, ReservedName, TooDeep}
use Rattle.dt_build.specs.Resolve.BuildFault.{IsFault, build_error}

pub fault-then : {A B : Type 0} (e : BuildErrorKind) (r : Result A Fault) (f : A → Result B Fault) → IsFault e r → IsFault e (then_do r f)
fault-then NoMemory r f h = h
fault-then UnknownLabel r f h = ap (λ x. then_do x f) h
fault-then DuplicateLabel r f h = ap (λ x. then_do x f) h
fault-then UnknownPath r f h = ap (λ x. then_do x f) h
fault-then BadPhandle r f h = ap (λ x. then_do x f) h
fault-then DuplicatePhandle r f h = ap (λ x. then_do x f) h
fault-then DuplicateInBody r f h = ap (λ x. then_do x f) h
fault-then PathInPlugin r f h = ap (λ x. then_do x f) h
fault-then ReservedName r f h = ap (λ x. then_do x f) h
fault-then TooDeep r f h = ap (λ x. then_do x f) h

pub fault-same : {A : Type 0} (e : BuildErrorKind) (r r' : Result A Fault) → r' ≡ r → IsFault e r → IsFault e r'
fault-same {A} e r r' same h = subst (λ (q : Result A Fault). IsFault e q) (sym same) h

-- a fault of the second step, where the first has none
pub fault-second : {A B C : Type 0} (e : BuildErrorKind) (b : Bool) (f : Fault) (r : Result A Fault) (q : Result B Fault) (g : A → B → Result C Fault) → IsFault e (if b then Err f else then_do r (λ _. q))
    → IsFault e (if b then Err f else then_do r (λ x. then_do q (g x)))
fault-second {A} {B} {C} e true f r q g h = fault-then {A = B} {B = C} e (Err f) (λ _. Err f) h
fault-second {A} {B} {C} e false f (Err a) q g h = fault-then {A = B} {B = C} e (Err a) (λ _. Err a) h
fault-second e false f (Ok x) q g h = fault-then e q (g x) h

-- a fault of the edits
pub edit-fault : {A : Type 0} (a : EditErrorKind) (r : Result A Fault) → edit.IsFault a r → IsFault (build_error a) r
edit-fault edits.NoMemory r h = h
edit-fault edits.UnknownLabel r h = h
edit-fault edits.DuplicateLabel r h = h
edit-fault edits.UnknownPath r h = h
edit-fault edits.DuplicateInBody r h = h
edit-fault edits.ReservedName r h = h
edit-fault edits.TooDeep r h = h
