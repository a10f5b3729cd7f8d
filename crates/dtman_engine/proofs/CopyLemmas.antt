-- From what the reader and the writer answer to what a copy is.
use Rattle.std.proofs.Common.{◌≡◌, ◌≤◌, inr, ℕ, List, length, Result, Ok, Err, IfOk, IfErr, MatchResult}
use Rattle.dt_tree.specs.TreeData.{TreeData}
use Rattle.dt_blob.specs.Blob.{blob_of}
use Rattle.dt_blob.specs.Holds.{Holds}
use Rattle.dtman_engine.specs.declared.fault.Fault.{Fault}
use Rattle.dtman_engine.specs.Copy.{CannotCopy, IsCopy, IsCopyRefusal}
use Rattle.dtman_engine.specs.Fault.{fault_value}
use Rattle.dtman_engine.specs.Limits.{blob_limit}

-- the answer to a tree that the bytes hold
module _ {V : Type 0} (bytes : V → List ℕ) (blob : List ℕ) (tree : TreeData) (held : Holds blob tree) where
  pub copied : (r : Result V Fault)
      → MatchResult r (λ v. (bytes v ≡ blob_of tree) × (length (bytes v) ≤ blob_limit)) (λ fault. CannotCopy tree (fault_value fault))
      → IfOk r (λ v. IsCopy blob (bytes v))
  copied (Ok v) h = record { tree = tree; held = held; copy_is = h.0; fits = h.1 }
  copied (Err fault) h = tt

  pub uncopied : (r : Result V Fault)
      → MatchResult r (λ v. (bytes v ≡ blob_of tree) × (length (bytes v) ≤ blob_limit)) (λ fault. CannotCopy tree (fault_value fault))
      → IfErr r (λ fault. IsCopyRefusal blob (fault_value fault))
  uncopied (Ok v) h = tt
  uncopied (Err fault) h = inr (record { tree = tree; held = held; cannot = h })
