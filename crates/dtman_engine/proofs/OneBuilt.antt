-- What is meant has one answer, but for want of memory.
use Rattle.std.proofs.Common.{◌≡◌, ◌⊎◌, ◌<◌, ◌≤◌, inl, inr, ℕ, List, length, Ok, refl, sym, ap, ◌∙◌, subst, arith}
use Rattle.dt_tree.specs.PathMap.{TreeMap, tree_map}
use Rattle.dt_tree.specs.TreeData.{TreeData, IsTree}
use Rattle.dt_tree.proofs.MapLaws.{same_tree}
use Rattle.dt_build.specs.declared.resolve.error.BuildErrorKind.TheVariants as builds
use Rattle.dt_blob.specs.Blob.{blob_of}
use Rattle.dtman_engine.specs.Fault.{FaultValue, no_memory}
use Rattle.dtman_engine.specs.Meant.{CannotBuild, HasLongBlob, IsBlobOf, MeansNone, Meant}
use Rattle.dtman_engine.specs.SourceFaults.{build_fault}
use Rattle.dtman_engine.specs.Laws.{IsOneAnswer}
use Rattle.dtman_engine.specs.Limits.{blob_limit}
use Rattle.dtman_engine.proofs.OneErrors.{same-lists, one-built, none-built, told}

module _ (meant : Meant) where
  same-blob : (one other : List ℕ) → IsBlobOf meant one → IsBlobOf meant other → one ≡ other
  same-blob one other a b =
      let maps : tree_map a.tree ≡ tree_map b.tree = same-lists meant (tree_map a.tree) (tree_map b.tree) a.means b.means in
      let tree : a.tree ≡ b.tree = same_tree a.tree b.tree a.is b.is maps in
      a.blob_is ∙ ap blob_of tree ∙ sym b.blob_is

  -- where a tree is meant nothing but want of memory says that there is none
  pub wanted : (map : TreeMap) (fault : FaultValue) → meant ≡ Ok map → MeansNone meant fault → fault ≡ no_memory
  wanted map fault means none = none.told ∙ ap build_fault (none-built meant map none.error means none.refuses)

  -- nor is the blob of a tree too long that fits
  pub fits-not : (t : TreeData) → IsTree t → meant ≡ Ok (tree_map t) → length (blob_of t) ≤ blob_limit → HasLongBlob meant → ⊥
  fits-not t is means fits long =
      let same : tree_map t ≡ long.map = same-lists meant (tree_map t) long.map means long.means in
      let over : blob_limit < length (blob_of t) = long.long t is same in
      omega (arith, fits, over)

  not-long : (blob : List ℕ) → IsBlobOf meant blob → HasLongBlob meant → ⊥
  not-long blob made long =
      fits-not made.tree made.is made.means (subst (λ (x : List ℕ). length x ≤ blob_limit) made.blob_is made.fits) long

  same-fault : (one other : FaultValue) → CannotBuild meant one → CannotBuild meant other → (one ≡ no_memory) ⊎ (other ≡ no_memory) ⊎ (one ≡ other)
  same-fault one other (inl a) b = inl a
  same-fault one other (inr a) (inl b) = inr (inl b)
  same-fault one other (inr (inl a)) (inr (inl b)) =
      told build_fault a.error b.error builds.NoMemory one other no_memory a.told b.told refl (one-built meant a.error b.error a.refuses b.refuses)
  same-fault one other (inr (inl a)) (inr (inr b)) = inl (wanted b.1.map one b.1.means a)
  same-fault one other (inr (inr a)) (inr (inl b)) = inr (inl (wanted a.1.map other a.1.means b))
  same-fault one other (inr (inr a)) (inr (inr b)) = inr (inr (a.0 ∙ sym b.0))

  pub fault-apart : (blob : List ℕ) (fault : FaultValue) → IsBlobOf meant blob → CannotBuild meant fault → fault ≡ no_memory
  fault-apart blob fault made (inl none) = none
  fault-apart blob fault made (inr (inl none)) = wanted (tree_map made.tree) fault made.means none
  fault-apart blob fault made (inr (inr long)) = absurd (not-long blob made long.1)

  pub one-blob : IsOneAnswer (IsBlobOf meant) (CannotBuild meant)
  one-blob = record { bytes = same-blob; faults = same-fault; apart = fault-apart }

-- what gives and refuses no more has one answer, too
pub narrower : (Gives Less : List ℕ → Type 0) (Refuses Fewer : FaultValue → Type 0) → ((bytes : List ℕ) → Less bytes → Gives bytes) → ((fault : FaultValue) → Fewer fault → Refuses fault)
    → IsOneAnswer Gives Refuses → IsOneAnswer Less Fewer
narrower Gives Less Refuses Fewer gives refuses all = record {
  bytes = λ one other a b. all.bytes one other (gives one a) (gives other b);
  faults = λ one other a b. all.faults one other (refuses one a) (refuses other b);
  apart = λ bytes fault a b. all.apart bytes fault (gives bytes a) (refuses fault b);
}
