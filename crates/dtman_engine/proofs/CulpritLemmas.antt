-- Which word of a blob a fault tells.
use Rattle.std.proofs.Common.{◌≡◌, inl, inr, None, Some, ℕ, List, Option, Result, Ok, Err, IfErr, refl, ap, sym, ◌∙◌, subst}
use Rattle.dt_tree.specs.TreeData.{TreeData}
use Rattle.dt_blob.specs.declared.error.BlobError.{BlobError}
use Rattle.dt_blob.specs.declared.error.BlobError.TheVariants.{NoMemory, Truncated, BadMagic, BadVersion, BadLayout, BadToken, BadString, PropertyAfterNode, BadTree, TooLarge}
use Rattle.dt_blob.specs.declared.read_error.ReadError.{ReadError}
use Rattle.dt_blob.specs.HeaderWords.{IsRefusedAt}
use Rattle.dt_blob.specs.Holds.{Holds}
use Rattle.dtman_engine.specs.declared.culprit.BlobRole.{BlobRole}
use Rattle.dtman_engine.specs.declared.culprit.BlobRole.TheVariants.{Base, Applied}
use Rattle.dtman_engine.specs.declared.culprit.Culprit.{Culprit}
use Rattle.dtman_engine.specs.declared.culprit.Culprit.TheVariants.{Property, Overlay, Blob}
use Rattle.dtman_engine.specs.declared.fault.Fault.{Fault}
use Rattle.dtman_engine.specs.BlobFaults.{blob_fault}
use Rattle.dtman_engine.specs.Culprit.{IsHeldBlob, IsOfNoBlob, IsWordOf, Places, PlacesIn, PlacesOver, word_of}
use Rattle.dtman_engine.specs.Dump.{HoldsNone}
use Rattle.dtman_engine.specs.Fault.{FaultValue, fault_value}

-- what the reader refuses of the bytes
module _ (which : BlobRole) (bytes : List ℕ) (fault : FaultValue) (refused : ReadError) (told : fault ≡ blob_fault refused.kind) (placed : IsRefusedAt bytes refused) where
  words : HoldsNone bytes → IsWordOf which bytes fault (record { role = which; refused = refused })
  words none = record { role_is = refl; told = told; none = none; word = placed }

  of-kind : (kind : BlobError) → refused.kind ≡ kind → ((tree : TreeData) → Holds bytes tree → kind ≡ NoMemory)
      → PlacesIn which bytes fault (word_of kind (record { role = which; refused = refused }))
  of-kind NoMemory is only = inl (told ∙ ap blob_fault is)
  of-kind Truncated is only = words (λ tree held. let same = only tree held in cc)
  of-kind BadMagic is only = words (λ tree held. let same = only tree held in cc)
  of-kind BadVersion is only = words (λ tree held. let same = only tree held in cc)
  of-kind BadLayout is only = words (λ tree held. let same = only tree held in cc)
  of-kind BadToken is only = words (λ tree held. let same = only tree held in cc)
  of-kind BadString is only = words (λ tree held. let same = only tree held in cc)
  of-kind PropertyAfterNode is only = words (λ tree held. let same = only tree held in cc)
  of-kind BadTree is only = words (λ tree held. let same = only tree held in cc)
  of-kind TooLarge is only = words (λ tree held. let same = only tree held in cc)

  pub of-reader : (culprit : Option Culprit) → culprit ≡ word_of refused.kind (record { role = which; refused = refused })
      → ((tree : TreeData) → Holds bytes tree → refused.kind ≡ NoMemory) → PlacesIn which bytes fault culprit
  of-reader culprit is only = subst (λ (c : Option Culprit). PlacesIn which bytes fault c) (sym is) (of-kind refused.kind refl only)

-- where nothing is told, no word is
pub of-none : (culprit : Option Culprit) → culprit ≡ None → IsOfNoBlob culprit
of-none culprit is = subst (λ (c : Option Culprit). IsOfNoBlob c) (sym is) tt

-- what is refused of a tree that the bytes hold
pub of-held : (which : BlobRole) (bytes : List ℕ) (fault : FaultValue) (culprit : Option Culprit) → IsHeldBlob bytes → IsOfNoBlob culprit → PlacesIn which bytes fault culprit
of-held which bytes fault None held untold = inr held
of-held which bytes fault (Some (Property property)) held untold = held
of-held which bytes fault (Some (Overlay error)) held untold = held
of-held which bytes fault (Some (Blob unread)) held untold = elim untold [ ]

pub held-word : {V : Type 0} (which : BlobRole) (bytes : List ℕ) (tree : TreeData) (r : Result V Fault) → Holds bytes tree
    → IfErr r (λ fault. IsOfNoBlob fault.culprit) → IfErr r (λ fault. Places which bytes fault)
held-word which bytes tree (Ok v) held untold = tt
held-word which bytes tree (Err fault) held untold = of-held which bytes (fault_value fault) fault.culprit (record { tree = tree; held = held }) untold

pub over-word : {V : Type 0} (base over : List ℕ) (b o : TreeData) (r : Result V Fault) → Holds base b → Holds over o
    → IfErr r (λ fault. IsOfNoBlob fault.culprit) → IfErr r (λ fault. PlacesOver base over fault)
over-word base over b o (Ok v) base_held over_held untold = tt
over-word base over b o (Err fault) base_held over_held untold =
    inr (record { tree = b; held = base_held }, of-held Applied over (fault_value fault) fault.culprit (record { tree = o; held = over_held }) untold)
