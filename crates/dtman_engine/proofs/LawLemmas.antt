-- A blob comes back from its dump, by the laws of the crates below.
use Rattle.std.proofs.Common.{◌≡◌, ◌<◌, ◌≤◌, inl, inr, ℕ, false, List, length, None, Some, refl, ap, ◌∙◌, subst}
use Rattle.dt_text.specs.declared.lexeme.language.Language.TheVariants.{Profile}
use Rattle.dt_tree.specs.PathMap.{tree_map}
use Rattle.dt_tree.specs.TreeData.{TreeData, IsTree}
use Rattle.dt_source.specs.declared.error.SourceErrorKind.{SourceErrorKind}
use Rattle.dt_source.specs.declared.error.SourceErrorKind.TheVariants as kinds
use Rattle.dt_source.specs.Parse as parse
use Rattle.dt_source.specs.Parse.{IsShort, Says}
use Rattle.dt_source.specs.TreeMeaning.Syntax.{Meaning}
use Rattle.dt_build.specs.Built.{IsTreeOf}
use Rattle.dt_blob.specs.declared.error.BlobError.{BlobError}
use Rattle.dt_blob.specs.declared.error.BlobError.TheVariants.{NoMemory, Truncated, BadMagic, BadVersion, BadLayout, BadToken, BadString, PropertyAfterNode, BadTree, TooLarge}
use Rattle.dt_blob.specs.Blob.{blob_of}
use Rattle.dt_blob.specs.HeaderWords.{header_fault}
use Rattle.dt_blob.specs.Holds.{Holds}
use Rattle.dt_blob.specs.SourceText.{text_of}
use Rattle.dtman_engine.specs.Compile.{CannotBuild, IsCompileRefusal, meant_by}
use Rattle.dtman_engine.specs.Dump.{CannotPrint, Explains, IsDump, IsRefusal, IsUnread}
use Rattle.dtman_engine.specs.Fault.{FaultValue, no_memory}
use Rattle.dt_source.specs.declared.place.Place.{Place}
use Rattle.dtman_engine.specs.SourceFaults.{source_fault}
use Rattle.dtman_engine.specs.BlobFaults.{blob_fault}
use Rattle.dtman_engine.specs.Laws.{CannotCompile}
use Rattle.dtman_engine.specs.Limits.{blob_limit}
use Rattle.dtman_engine.proofs.CompileLemmas.{tree-meant}
use Rattle.dtman_engine.proofs.OneBuilt.{fits-not}
use Rattle.dtman_engine.proofs.OneBuilt as one_built

no-fault : (bytes : List ℕ) (t : TreeData) (e : BlobError) → Holds bytes t → header_fault bytes ≡ Some e → ⊥
no-fault bytes t e held bad = let none : header_fault bytes ≡ None = held.header in cc

-- ---- bytes that hold a tree, and at most one
module _ (one : (bytes : List ℕ) (tree other : TreeData) → Holds bytes tree → Holds bytes other → tree ≡ other) (bytes : List ℕ) (t : TreeData) (held : Holds bytes t) where
  pub dumped : (text : List ℕ) → IsDump bytes text → text ≡ text_of t
  dumped text dump = dump.text_is ∙ ap text_of (one bytes dump.tree t dump.held held)

  unprinted : (e : BlobError) (fault : FaultValue) → fault ≡ blob_fault e → Explains bytes e → CannotPrint t fault
  unprinted NoMemory fault told why = inl told
  unprinted Truncated fault told why = elim (no-fault bytes t Truncated held why) [ ]
  unprinted BadMagic fault told why = elim (no-fault bytes t BadMagic held why) [ ]
  unprinted BadVersion fault told why = elim (no-fault bytes t BadVersion held why) [ ]
  unprinted BadLayout fault told (inl bad) = elim (no-fault bytes t BadLayout held bad) [ ]
  unprinted BadLayout fault told (inr endless) = elim (endless.1 t.reserves held.reserves) [ ]
  unprinted BadToken fault told why = elim (why t held) [ ]
  unprinted BadString fault told why = elim (why t held) [ ]
  unprinted PropertyAfterNode fault told why = elim (why t held) [ ]
  unprinted BadTree fault told why = elim (why t held) [ ]
  unprinted TooLarge fault told (inl bad) = elim (no-fault bytes t TooLarge held bad) [ ]
  unprinted TooLarge fault told (inr holds) =
      inr (told, subst (λ (x : TreeData). blob_limit < length (text_of x)) (one bytes holds.tree t holds.held held) holds.long)

  pub undumped : (fault : FaultValue) → IsRefusal bytes fault → CannotPrint t fault
  undumped fault refusal = unprinted refusal.error fault refusal.told refusal.explained

  unwanted : (e : BlobError) (fault : FaultValue) → fault ≡ blob_fault e → Explains bytes e → (e ≡ TooLarge → header_fault bytes ≡ Some TooLarge) → fault ≡ no_memory
  unwanted NoMemory fault told why size = told
  unwanted Truncated fault told why size = elim (no-fault bytes t Truncated held why) [ ]
  unwanted BadMagic fault told why size = elim (no-fault bytes t BadMagic held why) [ ]
  unwanted BadVersion fault told why size = elim (no-fault bytes t BadVersion held why) [ ]
  unwanted BadLayout fault told (inl bad) size = elim (no-fault bytes t BadLayout held bad) [ ]
  unwanted BadLayout fault told (inr endless) size = elim (endless.1 t.reserves held.reserves) [ ]
  unwanted BadToken fault told why size = elim (why t held) [ ]
  unwanted BadString fault told why size = elim (why t held) [ ]
  unwanted PropertyAfterNode fault told why size = elim (why t held) [ ]
  unwanted BadTree fault told why size = elim (why t held) [ ]
  unwanted TooLarge fault told why size = elim (no-fault bytes t TooLarge held (size refl)) [ ]

  -- bytes that hold a tree are read, unless memory is wanted
  pub unread : (fault : FaultValue) → IsUnread bytes fault → fault ≡ no_memory
  unread fault refusal = unwanted refusal.error fault refusal.told refusal.explained refusal.size

-- ---- a text that says what means the tree
module _ (accepted : (text : List ℕ) (m : Meaning) (k : SourceErrorKind) (place : Place) → IsShort text → Says Profile text m → parse.Refuses Profile text k place → k ≡ kinds.NoMemory) (meaning : (text : List ℕ) (m n : Meaning) → Says Profile text m → Says Profile text n → m ≡ n) (text : List ℕ) (s : Meaning) (t : TreeData) (is : IsTree t) (says : Says Profile text s) (of : IsTreeOf false s t) (fits : length (blob_of t) ≤ blob_limit) where
  wanted : (k : SourceErrorKind) (place : Place) (fault : FaultValue) → fault ≡ source_fault k place → IsShort text → parse.Refuses Profile text k place → CannotCompile text fault
  wanted k place fault told short why = inl (told ∙ ap (λ (x : SourceErrorKind). source_fault x place) (accepted text s k place short says why))

  unsaid : (k : SourceErrorKind) (place : Place) (fault : FaultValue) → fault ≡ source_fault k place → parse.Refuses Profile text k place → CannotCompile text fault
  unsaid kinds.NoMemory place fault told why = inl told
  unsaid kinds.TooLong place fault told why = inr (told ∙ ap (source_fault kinds.TooLong) why.1, why.0)
  unsaid kinds.Syntax place fault told why = wanted kinds.Syntax place fault told why.0 why
  unsaid kinds.TooDeep place fault told why = wanted kinds.TooDeep place fault told why.0 why
  unsaid kinds.ElementRange place fault told why = wanted kinds.ElementRange place fault told why.0 why
  unsaid kinds.DivideByZero place fault told why = wanted kinds.DivideByZero place fault told why.0 why
  unsaid kinds.BadBits place fault told why = wanted kinds.BadBits place fault told why.0 why
  unsaid kinds.LiteralRange place fault told why = wanted kinds.LiteralRange place fault told why.0 why
  unsaid kinds.BadEscape place fault told why = wanted kinds.BadEscape place fault told why.0 why

  unbuilt : (m : Meaning) (fault : FaultValue) → IsTreeOf false m t → CannotBuild false m fault → CannotCompile text fault
  unbuilt m fault also (inl none) = inl none
  unbuilt m fault also (inr (inl none)) = inl (one_built.wanted (meant_by false m) (tree_map t) fault (tree-meant false m t also) none)
  unbuilt m fault also (inr (inr long)) = elim (fits-not (meant_by false m) t is (tree-meant false m t also) fits long.1) [ ]

  pub uncompiled : (fault : FaultValue) → IsCompileRefusal false text fault → CannotCompile text fault
  uncompiled fault (inl none) = unsaid none.kind none.place fault none.told none.refuses
  uncompiled fault (inr vain) =
      unbuilt vain.said fault (subst (λ (x : Meaning). IsTreeOf false x t) (meaning text s vain.said says vain.says) of) vain.cannot
