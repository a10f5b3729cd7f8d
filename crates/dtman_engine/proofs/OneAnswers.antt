-- What an input means is one, and that has one answer.
use Rattle.std.proofs.Common.{◌≡◌, inl, inr, ℕ, Bool, List, ap, ◌∙◌, subst}
use Rattle.dt_text.specs.declared.lexeme.language.Language.TheVariants.{Profile}
use Rattle.dt_tree.specs.TreeData.{TreeData}
use Rattle.dt_source.specs.declared.error.SourceErrorKind.{SourceErrorKind}
use Rattle.dt_source.specs.Laws.{OnlyMemoryRefusesWhatIsSaid}
use Rattle.dt_source.specs.Parse.{IsShort, Says}
use Rattle.dt_source.specs.TreeMeaning.Syntax.{Meaning}
use Rattle.dt_blob.specs.Holds.{Holds}
use Rattle.dtman_engine.specs.Compile.{CannotBuild, IsBlobOf, IsCompiled, IsCompileRefusal, meant_by}
use Rattle.dtman_engine.specs.Dump.{CannotPrint, IsDump, IsRefusal}
use Rattle.dtman_engine.specs.Fault.{FaultValue}
use Rattle.dtman_engine.specs.Laws.{IsOneAnswer}
use Rattle.dtman_engine.specs.Overlay.{CannotApply, IsBlobOfApplied, IsOverlaid, IsOverlayRefusal}
use Rattle.dtman_engine.specs.SourceFaults.{source_fault}
use Rattle.dtman_engine.proofs.LawLemmas.{dumped, undumped, unread}
use Rattle.dtman_engine.proofs.OneApplied.{IsPrint, one-overlaid, one-print}
use Rattle.dtman_engine.proofs.OneBuilt.{narrower, one-blob}

module _ (accepted : OnlyMemoryRefusesWhatIsSaid) (meaning : (text : List ℕ) (m n : Meaning) → Says Profile text m → Says Profile text n → m ≡ n) (symbols : Bool) (text : List ℕ) (m : Meaning) (short : IsShort text) (says : Says Profile text m) where
  gives : (blob : List ℕ) → IsCompiled symbols text blob → IsBlobOf symbols m blob
  gives blob made = subst (λ (x : Meaning). IsBlobOf symbols x blob) (meaning text made.said m made.says says) made.blob_is

  refuses : (fault : FaultValue) → IsCompileRefusal symbols text fault → CannotBuild symbols m fault
  refuses fault (inl none) =
      inl (none.told ∙ ap (λ (k : SourceErrorKind). source_fault k none.place) (accepted Profile text m none.kind none.place short says none.refuses))
  refuses fault (inr vain) = subst (λ (x : Meaning). CannotBuild symbols x fault) (meaning text vain.said m vain.says says) vain.cannot

  pub compiled-once : IsOneAnswer (IsCompiled symbols text) (IsCompileRefusal symbols text)
  compiled-once = narrower (IsBlobOf symbols m) (IsCompiled symbols text) (CannotBuild symbols m) (IsCompileRefusal symbols text) gives refuses (one-blob (meant_by symbols m))

module _ (one : (bytes : List ℕ) (tree other : TreeData) → Holds bytes tree → Holds bytes other → tree ≡ other) (base over : List ℕ) (b o : TreeData) (held : Holds base b) (also : Holds over o) where
  overlays : (blob : List ℕ) → IsOverlaid base over blob → IsBlobOfApplied b o blob
  overlays blob made =
      subst (λ (x : TreeData). IsBlobOfApplied b x blob) (one over made.over_tree o made.over_held also)
      (subst (λ (x : TreeData). IsBlobOfApplied x made.over_tree blob) (one base made.base_tree b made.base_held held) made.blob_is)

  unoverlaid : (fault : FaultValue) → IsOverlayRefusal base over fault → CannotApply b o fault
  unoverlaid fault (inl bad) = inl (unread one base b held fault bad)
  unoverlaid fault (inr (inl bad)) = inl (unread one over o also fault bad.unread)
  unoverlaid fault (inr (inr vain)) =
      subst (λ (x : TreeData). CannotApply b x fault) (one over vain.over_tree o vain.over_held also)
      (subst (λ (x : TreeData). CannotApply x vain.over_tree fault) (one base vain.base_tree b vain.base_held held) vain.cannot)

  pub overlaid-once : IsOneAnswer (IsOverlaid base over) (IsOverlayRefusal base over)
  overlaid-once = narrower (IsBlobOfApplied b o) (IsOverlaid base over) (CannotApply b o) (IsOverlayRefusal base over) overlays unoverlaid (one-overlaid b o)

module _ (one : (bytes : List ℕ) (tree other : TreeData) → Holds bytes tree → Holds bytes other → tree ≡ other) (blob : List ℕ) (t : TreeData) (held : Holds blob t) where
  prints : (text : List ℕ) → IsDump blob text → IsPrint t text
  prints text dump = (dumped one blob t held text dump, dump.fits)

  pub dumped-once : IsOneAnswer (IsDump blob) (IsRefusal blob)
  dumped-once = narrower (IsPrint t) (IsDump blob) (CannotPrint t) (IsRefusal blob) prints (undumped one blob t held) (one-print t)
