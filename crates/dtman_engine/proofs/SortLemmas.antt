-- From what the parts answer to what a sorted blob is.
use Rattle.std.proofs.Common.{◌≡◌, ◌≤◌, inl, inr, ℕ, List, length, Result, Ok, Err, IfOk, IfErr, MatchResult}
use Rattle.dt_tree.specs.TreeData.{TreeData, IsTree}
use Rattle.dt_tree.specs.Sort.Sorted.{IsSortedTree}
use Rattle.dt_blob.specs.Blob.{blob_of}
use Rattle.dt_blob.specs.Holds.{Holds}
use Rattle.dtman_engine.specs.declared.fault.Fault.{Fault}
use Rattle.dtman_engine.specs.Fault.{FaultValue, fault_value}
use Rattle.dtman_engine.specs.Limits.{blob_limit}
use Rattle.dtman_engine.specs.Copy.{CannotWrite}
use Rattle.dtman_engine.specs.Sort.{CannotSort, IsSort, IsSortedBlob, IsSortRefusal}

unwritten : (tree sorted : TreeData) (fault : FaultValue) → IsTree sorted → IsSortedTree tree sorted → CannotWrite (length (blob_of sorted)) fault → CannotSort tree fault
unwritten tree sorted fault is order (inl wanted) = inl wanted
unwritten tree sorted fault is order (inr large) = inr (large.0, record { sorted = sorted; is = is; order = order; long = large.1 })

module _ {V : Type 0} (bytes : V → List ℕ) (tree : TreeData) where
  pub written : (sorted : TreeData) → IsTree sorted → IsSortedTree tree sorted → (r : Result V Fault)
      → MatchResult r (λ v. (bytes v ≡ blob_of sorted) × (length (bytes v) ≤ blob_limit)) (λ fault. CannotWrite (length (blob_of sorted)) (fault_value fault))
      → MatchResult r (λ v. IsSortedBlob tree (bytes v)) (λ fault. CannotSort tree (fault_value fault))
  written sorted is order (Ok v) h = record { sorted = sorted; is = is; order = order; blob_is = h.0; fits = h.1 }
  written sorted is order (Err fault) h = unwritten tree sorted (fault_value fault) is order h

  module _ (blob : List ℕ) (held : Holds blob tree) where
    pub sorts : (r : Result V Fault) → MatchResult r (λ v. IsSortedBlob tree (bytes v)) (λ fault. CannotSort tree (fault_value fault)) → IfOk r (λ v. IsSort blob (bytes v))
    sorts (Ok v) h = record { tree = tree; held = held; sorted_is = h }
    sorts (Err fault) h = tt

    pub unsorted : (r : Result V Fault) → MatchResult r (λ v. IsSortedBlob tree (bytes v)) (λ fault. CannotSort tree (fault_value fault)) → IfErr r (λ fault. IsSortRefusal blob (fault_value fault))
    unsorted (Ok v) h = tt
    unsorted (Err fault) h = inr (record { tree = tree; held = held; cannot = h })
