-- What the engines keep together, over all that their clauses let them answer.
use Rattle.std.specs.Prelude.{◌≡◌, ◌<◌, ◌≤◌, ◌⊎◌, ℕ, Bool, false, List, length}
use Rattle.dt_text.specs.declared.lexeme.language.Language.TheVariants.{Profile}
use Rattle.dt_tree.specs.TreeData.{TreeData, IsTree}
use Rattle.dt_text.specs.declared.lexeme.binary.Binary.{Binary}
use Rattle.dt_source.specs.declared.error.SourceErrorKind.TheVariants.{TooLong}
use Rattle.dt_source.specs.Parse.{Says}
use Rattle.dt_source.specs.TreeMeaning.Syntax.{Meaning}
use Rattle.dt_blob.specs.Blob.{blob_of}
use Rattle.dt_blob.specs.Holds.{Holds}
use Rattle.dt_blob.specs.SourceText.{text_of}
use Rattle.dtman_engine.specs.Canonical.Bytes.{HasBytes}
use Rattle.dtman_engine.specs.Canonical.Conditions.{IsSourceTree}
use Rattle.dtman_engine.specs.Compile.{IsCompiled, IsCompileRefusal}
use Rattle.dtman_engine.specs.CompileDtc.{IsDtcCompiled, IsDtcRefusal, SaysWith}
use Rattle.dtman_engine.specs.Dump.{CannotPrint, IsDump, IsRefusal}
use Rattle.dtman_engine.specs.declared.compiling_dtc.DtcOptions.{DtcOptions}
use Rattle.dtman_engine.specs.Fault.{FaultValue, no_memory}
use Rattle.dtman_engine.specs.SourceFaults.{source_fault}
use Rattle.dt_source.specs.Places.{beginning}
use Rattle.dtman_engine.specs.Limits.{blob_limit, source_limit, IsShort}
use Rattle.dtman_engine.specs.Overlay.{IsOverlaid, IsOverlayRefusal}

-- a tree with canonical source, whose blob is written: no processor but 0 boots, and its phandles are those of a source
pub record HasCanonicalSource (tree : TreeData) : Type 0 where
  pub is : IsTree tree
  pub bytes : HasBytes tree
  pub source : IsSourceTree tree
  pub fits : length (blob_of tree) ≤ blob_limit

-- why a text isn't compiled, though it means a tree whose blob fits: memory is wanted, or it is over 16 MiB
abbrev pub CannotCompile : List ℕ → FaultValue → Type 0
CannotCompile text fault = (fault ≡ no_memory) ⊎ ((fault ≡ source_fault TooLong beginning) × (source_limit < length text))

-- the blob of the tree comes back: `dump_bytes` of it is the tree's text, and `compile_bytes` of that text, without
-- symbols, is the blob, unless memory is wanted or the text is too long
pub record ComesBack (tree : TreeData) : Type 0 where
  pub dumped : (text : List ℕ) → IsDump (blob_of tree) text → text ≡ text_of tree
  pub undumped : (fault : FaultValue) → IsRefusal (blob_of tree) fault → CannotPrint tree fault
  pub compiled : (blob : List ℕ) → IsCompiled false (text_of tree) blob → blob ≡ blob_of tree
  pub uncompiled : (fault : FaultValue) → IsCompileRefusal false (text_of tree) fault → CannotCompile (text_of tree) fault

-- each blob of a tree with canonical source comes back
abbrev pub BlobsComeBack : Type 0
BlobsComeBack = (tree : TreeData) → HasCanonicalSource tree → ComesBack tree

-- Of what a call may answer to one input: all bytes are the same, all faults but want of memory are, and a fault beside
-- bytes is want of memory.
pub record IsOneAnswer (Gives : List ℕ → Type 0) (Refuses : FaultValue → Type 0) : Type 0 where
  pub bytes : (one other : List ℕ) → Gives one → Gives other → one ≡ other
  pub faults : (one other : FaultValue) → Refuses one → Refuses other → (one ≡ no_memory) ⊎ (other ≡ no_memory) ⊎ (one ≡ other)
  pub apart : (bytes : List ℕ) (fault : FaultValue) → Gives bytes → Refuses fault → fault ≡ no_memory

-- So it is of compiling a text that says something, in dtc's language with its files, and of overlays and dumps of bytes that hold trees.
pub record OneAnswer : Type 0 where
  pub compiled : (symbols : Bool) (text : List ℕ) (m : Meaning) → IsShort text → Says Profile text m → IsOneAnswer (IsCompiled symbols text) (IsCompileRefusal symbols text)
  pub compiled_dtc : (options : DtcOptions) (text : List ℕ) (files : List Binary) (m : Meaning) → IsShort text → SaysWith text files m
      → IsOneAnswer (IsDtcCompiled options text files) (IsDtcRefusal options text files)
  pub overlaid : (base over : List ℕ) (b o : TreeData) → Holds base b → Holds over o → IsOneAnswer (IsOverlaid base over) (IsOverlayRefusal base over)
  pub dumped : (blob : List ℕ) (tree : TreeData) → Holds blob tree → IsOneAnswer (IsDump blob) (IsRefusal blob)
