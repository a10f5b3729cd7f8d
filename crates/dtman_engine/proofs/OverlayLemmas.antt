-- From what the parts answer to what applying an overlay answers.
use Rattle.std.proofs.Common.{◌≡◌, ◌<◌, ◌↔◌, inl, inr, ℕ, List, Vec, length, Some, Result, Ok, Err, IfErr, IfOk, MatchResult, refl, ap, sym, ◌∙◌, subst, arith}
use Rattle.std.specs.Prelude.{IsErrAnd, IsErrOf}
use Rattle.dt_tree.specs.PathMap.{TreeMap}
use Rattle.dt_tree.specs.TreeData.{TreeData, IsTree}
use Rattle.dt_tree.proofs.MapLaws.{same_tree}
use Rattle.dt_blob.specs.declared.error.BlobError.{BlobError}
use Rattle.dt_blob.specs.declared.error.BlobError.TheVariants.{TooLarge}
use Rattle.dt_blob.specs.HeaderWords.{header_fault}
use Rattle.dt_blob.specs.Blob.{blob_of}
use Rattle.dt_blob.specs.Holds.{Holds}
use Rattle.dt_overlay.specs.Applied.{IsApplied, IsLonger}
use Rattle.dtman_engine.specs.declared.fault.Fault.{Fault}
use Rattle.dtman_engine.specs.Copy.{CannotWrite}
use Rattle.dtman_engine.specs.Dump.{Explains, IsUnread}
use Rattle.dtman_engine.specs.Fault.{Answer, FaultValue, fault_value, no_memory}
use Rattle.dtman_engine.specs.BlobFaults.{blob_fault}
use Rattle.dtman_engine.specs.Limits.{blob_limit}
use Rattle.dtman_engine.specs.Overlay.{Applies, CannotApply, HasLongResult, IsBlobOfApplied, IsOverlaid, IsOverlayRefusal, IsToldOver}
use Rattle.dtman_engine.proofs.ValueSizes.{values-fit}

-- a result whose values are too long has a blob that is too long
pub long-result : (base over : TreeData) → IsLonger base over blob_limit → HasLongResult base over
long-result base over longer = record {
  lists = longer.lists;
  result = longer.result;
  long = λ tree is same. omega (arith, longer.longer, longer.trees tree.root is.sound (ap (λ (x : TreeMap). x.nodes) same), values-fit tree);
}

-- each tree with the result's map is this one
pub long-applied : (base over t : TreeData) → IsTree t → IsApplied base over t → blob_limit < length (blob_of t) → HasLongResult base over
long-applied base over t is of long = record {
  lists = of.lists;
  result = of.result;
  long = λ tree also same. subst (λ (x : TreeData). blob_limit < length (blob_of x)) (same_tree t tree is also (of.map ∙ sym same)) long;
}

pub unwritten : (base over t : TreeData) (fault : FaultValue) → IsTree t → IsApplied base over t → CannotWrite (length (blob_of t)) fault → CannotApply base over fault
unwritten base over t fault is of (inl wanted) = inl wanted
unwritten base over t fault is of (inr large) = inr (inr (large.0, long-applied base over t is of large.1))

-- ---- what the reader answers
pub unread : {T : Type 0} (blob : List ℕ) (e : BlobError) → (IsErrOf {T = T} (Err e) TooLarge ↔ (header_fault blob ≡ Some TooLarge)) → Explains blob e → IsUnread blob (blob_fault e)
unread {T} blob e large why =
    let refused : BlobError → Result T BlobError = λ x. Err x in
    record { error = e; told = refl; explained = why; size = λ is. large.0 (ap refused is) }

-- the trees that were read are those that the bytes hold
pub of-held : {V : Type 0} (bytes : V → List ℕ) (r : Result V Fault) (b c o p : TreeData) → b ≡ c → o ≡ p
    → MatchResult r (λ blob. IsBlobOfApplied b o (bytes blob)) (λ fault. CannotApply b o (fault_value fault))
    → MatchResult r (λ blob. IsBlobOfApplied c p (bytes blob)) (λ fault. CannotApply c p (fault_value fault))
of-held bytes r b c o p same also h =
    subst (λ (x : TreeData). MatchResult r (λ blob. IsBlobOfApplied c x (bytes blob)) (λ fault. CannotApply c x (fault_value fault))) also
    (subst (λ (x : TreeData). MatchResult r (λ blob. IsBlobOfApplied x o (bytes blob)) (λ fault. CannotApply x o (fault_value fault))) same h)

-- what is made of two trees that the bytes hold
pub overlaid : (base over : List ℕ) (b o : TreeData) (r : Answer) → Holds base b → Holds over o → Applies b o r
    → IfOk r (λ blob. IsOverlaid base over blob.items)
overlaid base over b o (Ok blob) base_held over_held made =
    record { base_tree = b; base_held = base_held; over_tree = o; over_held = over_held; blob_is = made }
overlaid base over b o (Err fault) base_held over_held made = tt

-- and why nothing is
pub in-vain : (base over : List ℕ) (b o : TreeData) (r : Answer) → Holds base b → Holds over o → Applies b o r
    → IfErr r (λ fault. IsOverlayRefusal base over (fault_value fault))
in-vain base over b o (Ok blob) base_held over_held made = tt
in-vain base over b o (Err fault) base_held over_held made =
    inr (inr (record { base_tree = b; base_held = base_held; over_tree = o; over_held = over_held; cannot = made }))

-- a fault that is handed on: want of memory, and that of the overlay's header
pub unread-over : (b o : TreeData) (r : Answer) (e : Fault) → IsErrAnd r (λ x. x ≡ e) → fault_value e ≡ no_memory → Applies b o r
unread-over b o (Ok blob) e handed is = elim handed [ ]
unread-over b o (Err x) e handed is = inl (ap fault_value handed ∙ is)

pub header-over : (kind : BlobError) (r : Answer) (e : Fault) → IsErrAnd r (λ x. x ≡ e) → fault_value e ≡ blob_fault kind → IsToldOver kind r
header-over kind (Ok blob) e handed is = elim handed [ ]
header-over kind (Err x) e handed is = inr (ap fault_value handed ∙ is)
