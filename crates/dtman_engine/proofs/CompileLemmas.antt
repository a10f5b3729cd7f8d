-- From what the parts answer to what compiling answers, in either language.
use Rattle.std.proofs.Common.{◌≡◌, ◌<◌, ◌≤◌, ◌⊎◌, inl, inr, ℕ, Bool, List, length, Result, Ok, Err, IfOk, IfErr, MatchResult, refl, ap, sym, ◌∙◌, subst, arith}
use Rattle.dt_tree.specs.NodeData.{NodeData}
use Rattle.dt_tree.specs.PathMap.{TreeMap, path_map, tree_map}
use Rattle.dt_tree.specs.Sound.{IsSound}
use Rattle.dt_tree.specs.Steps.{then_do}
use Rattle.dt_tree.specs.TreeData.{TreeData, IsTree}
use Rattle.dt_tree.proofs.MapLaws.{same_tree}
use Rattle.dt_live.specs.Builder.Sizes.{size_below, size_in}
use Rattle.dt_source.specs.TreeMeaning.Syntax.{Meaning}
use Rattle.dt_source.specs.TreeMeaning.MapOf.{tree_map_of}
use Rattle.dt_source.specs.TreeMeaning.Resolved.{Resolved, resolved}
use Rattle.dt_source.specs.TreeMeaning.Statements as meaning
use Rattle.dt_source.specs.declared.error.SourceErrorKind.{SourceErrorKind}
use Rattle.dt_blob.specs.declared.error.BlobError.{BlobError}
use Rattle.dt_blob.specs.Blob.{blob_of}
use Rattle.dt_blob.specs.Blob as blob
use Rattle.dt_build.specs.Built.{IsLonger, IsTreeOf}
use Rattle.dtman_engine.specs.Copy.{CannotWrite}
use Rattle.dtman_engine.specs.Compile.{meant_by}
use Rattle.dt_source.specs.declared.place.Place.{Place}
use Rattle.dtman_engine.specs.Meant.{CannotBuild, HasLongBlob, IsBlobOf, IsBlobOfText, Meant, SaysInVain, SaysNone}
use Rattle.dtman_engine.specs.declared.fault.Fault.{Fault}
use Rattle.dtman_engine.specs.Fault.{FaultValue, fault_value}
use Rattle.dtman_engine.specs.BlobFaults.{blob_fault}
use Rattle.dtman_engine.specs.Limits.{blob_limit, IsShort}
use Rattle.dtman_engine.proofs.OneErrors.{same-lists}
use Rattle.dtman_engine.proofs.ValueSizes.{values-fit}

pub written : (size : ℕ) (e : BlobError) (fault : FaultValue) → fault ≡ blob_fault e → blob.Refuses size e → CannotWrite size fault
written size e fault told (inl none) = inl (told ∙ ap blob_fault none)
written size e fault told (inr large) = inr (told ∙ ap blob_fault large.0, large.1)

-- ---- of what is meant
module _ (meant : Meant) where
  -- values that are too long make a blob that is too long
  pub long-values : (map : TreeMap) (size : ℕ) → meant ≡ Ok map → blob_limit < size → ((b : NodeData) → IsSound b → path_map b ≡ map.nodes → size ≤ size_below b) → HasLongBlob meant
  long-values map size means longer trees = record {
    map = map;
    means = means;
    long = λ tree is same. omega (arith, longer, trees tree.root is.sound (ap (λ (x : TreeMap). x.nodes) same), values-fit tree);
  }

  -- each tree that is meant is this one
  long-tree : (t : TreeData) → IsTree t → meant ≡ Ok (tree_map t) → blob_limit < length (blob_of t) → HasLongBlob meant
  long-tree t is means long = record {
    map = tree_map t;
    means = means;
    long = λ tree also same. subst (λ (x : TreeData). blob_limit < length (blob_of x)) (same_tree t tree is also (sym same)) long;
  }

  pub unbuilt : (t : TreeData) (fault : FaultValue) → IsTree t → meant ≡ Ok (tree_map t) → CannotWrite (length (blob_of t)) fault → CannotBuild meant fault
  unbuilt t fault is means (inl none) = inl none
  unbuilt t fault is means (inr large) = inr (inr (large.0, long-tree t is means large.1))

-- ---- of a source of the profile
module _ (symbols : Bool) (m : Meaning) where
  lists-meant : (lists : Resolved) → resolved symbols m ≡ Ok lists → meant_by symbols m ≡ Ok (tree_map_of m lists)
  lists-meant lists resolves = ap (λ x. then_do x (λ l. Ok (tree_map_of m l))) resolves

  pub tree-meant : (t : TreeData) → IsTreeOf symbols m t → meant_by symbols m ≡ Ok (tree_map t)
  tree-meant t of = lists-meant of.lists of.resolves ∙ ap (λ x. Ok x) (sym of.map)

  pub long-blob : IsLonger symbols m blob_limit → HasLongBlob (meant_by symbols m)
  long-blob longer =
      long-values (meant_by symbols m) (tree_map_of m longer.lists) (size_in longer.lists.properties) (lists-meant longer.lists longer.resolves) longer.longer longer.trees

tree-of-lists : (symbols : Bool) (m : Meaning) (t : TreeData) (r : Result Resolved meaning.Fault) → resolved symbols m ≡ r → then_do r (λ l. Ok (tree_map_of m l)) ≡ Ok (tree_map t) → IsTreeOf symbols m t
tree-of-lists symbols m t (Ok lists) is e = record { lists = lists; resolves = is; map = same-lists (Ok (tree_map_of m lists)) (tree_map t) (tree_map_of m lists) e refl }
tree-of-lists symbols m t (Err fault) is e = cc

pub tree-of-meant : (symbols : Bool) (m : Meaning) (t : TreeData) → meant_by symbols m ≡ Ok (tree_map t) → IsTreeOf symbols m t
tree-of-meant symbols m t means = tree-of-lists symbols m t (resolved symbols m) refl means

-- ---- what is said of the result of a source is said of the text's
module _ {V : Type 0} (bytes : V → List ℕ) (Says : Meaning → Type 0) (meant : Meaning → Meant) (text : List ℕ) (m : Meaning) where
  pub compiled : (r : Result V Fault) → IsShort text → Says m → MatchResult r (λ v. IsBlobOf (meant m) (bytes v)) (λ fault. CannotBuild (meant m) (fault_value fault))
      → IfOk r (λ v. IsBlobOfText Says meant text (bytes v))
  compiled (Ok v) short says h = record { said = m; short = short; says = says; blob_is = h }
  compiled (Err fault) short says h = tt

  module _ (Refuses : SourceErrorKind → Place → Type 0) where
    pub in-vain : (r : Result V Fault) → IsShort text → Says m → MatchResult r (λ v. IsBlobOf (meant m) (bytes v)) (λ fault. CannotBuild (meant m) (fault_value fault))
        → IfErr r (λ fault. SaysNone Refuses (fault_value fault) ⊎ SaysInVain Says meant text (fault_value fault))
    in-vain (Ok v) short says h = tt
    in-vain (Err fault) short says h = inr (record { said = m; short = short; says = says; cannot = h })
