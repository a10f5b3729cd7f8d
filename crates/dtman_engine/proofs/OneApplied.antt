-- A base and an overlay have one answer, but for want of memory; so has a tree that is printed.
use Rattle.std.proofs.Common.{◌≡◌, ◌⊎◌, ◌<◌, ◌≤◌, inl, inr, ℕ, List, length, Ok, refl, sym, ap, ◌∙◌, arith}
use Rattle.dt_tree.specs.PathMap.{TreeMap}
use Rattle.dt_tree.specs.TreeData.{TreeData}
use Rattle.dt_tree.proofs.MapLaws.{same_tree}
use Rattle.dt_source.specs.TreeMeaning.MapOf.{map_of}
use Rattle.dt_source.specs.TreeMeaning.Resolved.{Resolved}
use Rattle.dt_overlay.specs.Applied.{applied_lists}
use Rattle.dt_blob.specs.Blob.{blob_of}
use Rattle.dt_blob.specs.SourceText.{text_of}
use Rattle.dtman_engine.specs.Dump.{CannotPrint}
use Rattle.dtman_engine.specs.Fault.{FaultValue, no_memory}
use Rattle.dtman_engine.specs.OverlayFaults.{overlay_fault}
use Rattle.dtman_engine.specs.Laws.{IsOneAnswer}
use Rattle.dtman_engine.specs.Limits.{blob_limit}
use Rattle.dtman_engine.specs.Overlay.{CannotApply, HasLongResult, IsBlobOfApplied, IsUnapplied}
use Rattle.dtman_engine.proofs.OneErrors.{same-lists, one-unapplied, none-unapplied, told}

module _ (base over : TreeData) where
  abbrev map_with : Resolved → TreeMap
  map_with lists = record { nodes = map_of lists; reserves = base.reserves; boot_cpu = base.boot_cpu }

  same-blob : (one other : List ℕ) → IsBlobOfApplied base over one → IsBlobOfApplied base over other → one ≡ other
  same-blob one other a b =
      let lists : a.tree_is.lists ≡ b.tree_is.lists = same-lists (applied_lists base over) a.tree_is.lists b.tree_is.lists a.tree_is.result b.tree_is.result in
      let tree : a.tree ≡ b.tree = same_tree a.tree b.tree a.is b.is (a.tree_is.map ∙ ap map_with lists ∙ sym b.tree_is.map) in
      a.blob_is ∙ ap blob_of tree ∙ sym b.blob_is

  wanted : (lists : Resolved) (fault : FaultValue) → applied_lists base over ≡ Ok lists → IsUnapplied base over fault → fault ≡ no_memory
  wanted lists fault result none = none.told ∙ none-unapplied (applied_lists base over) lists none.error result none.refused

  not-long : (blob : List ℕ) → IsBlobOfApplied base over blob → HasLongResult base over → ⊥
  not-long blob made long =
      let lists : made.tree_is.lists ≡ long.lists = same-lists (applied_lists base over) made.tree_is.lists long.lists made.tree_is.result long.result in
      let more : blob_limit < length (blob_of made.tree) = long.long made.tree made.is (made.tree_is.map ∙ ap map_with lists) in
      let size : length blob ≡ length (blob_of made.tree) = ap (λ (x : List ℕ). length x) made.blob_is in
      omega (arith, made.fits, more, size)

  same-fault : (one other : FaultValue) → CannotApply base over one → CannotApply base over other → (one ≡ no_memory) ⊎ (other ≡ no_memory) ⊎ (one ≡ other)
  same-fault one other (inl a) b = inl a
  same-fault one other (inr a) (inl b) = inr (inl b)
  same-fault one other (inr (inl a)) (inr (inl b)) =
      told (λ (f : FaultValue). f) (overlay_fault a.error) (overlay_fault b.error) no_memory one other no_memory a.told b.told refl (one-unapplied (applied_lists base over) a.error b.error a.refused b.refused)
  same-fault one other (inr (inl a)) (inr (inr b)) = inl (wanted b.1.lists one b.1.result a)
  same-fault one other (inr (inr a)) (inr (inl b)) = inr (inl (wanted a.1.lists other a.1.result b))
  same-fault one other (inr (inr a)) (inr (inr b)) = inr (inr (a.0 ∙ sym b.0))

  fault-apart : (blob : List ℕ) (fault : FaultValue) → IsBlobOfApplied base over blob → CannotApply base over fault → fault ≡ no_memory
  fault-apart blob fault made (inl none) = none
  fault-apart blob fault made (inr (inl none)) = wanted made.tree_is.lists fault made.tree_is.result none
  fault-apart blob fault made (inr (inr long)) = absurd (not-long blob made long.1)

  pub one-overlaid : IsOneAnswer (IsBlobOfApplied base over) (CannotApply base over)
  one-overlaid = record { bytes = same-blob; faults = same-fault; apart = fault-apart }

-- ---- a tree that is printed
abbrev pub IsPrint : TreeData → List ℕ → Type 0
IsPrint tree text = (text ≡ text_of tree) × (length text ≤ blob_limit)

module _ (tree : TreeData) where
  unprinted : (one other : FaultValue) → CannotPrint tree one → CannotPrint tree other → (one ≡ no_memory) ⊎ (other ≡ no_memory) ⊎ (one ≡ other)
  unprinted one other (inl a) b = inl a
  unprinted one other (inr a) (inl b) = inr (inl b)
  unprinted one other (inr a) (inr b) = inr (inr (a.0 ∙ sym b.0))

  print-apart : (text : List ℕ) (fault : FaultValue) → IsPrint tree text → CannotPrint tree fault → fault ≡ no_memory
  print-apart text fault made (inl none) = none
  print-apart text fault made (inr long) =
      let size : length text ≡ length (text_of tree) = ap (λ (x : List ℕ). length x) made.0 in
      absurd (omega (arith, made.1, long.1, size))

  pub one-print : IsOneAnswer (IsPrint tree) (CannotPrint tree)
  one-print = record { bytes = λ one other a b. a.0 ∙ sym b.0; faults = unprinted; apart = print-apart }
