-- The blob that dtc's command line makes of an input (dtc's manual, Documentation/manual.txt, section 'Command-line arguments').
use Rattle.std.specs.Prelude.{◌≡◌, ◌≤◌, ℕ, List, length, Option, Some, None, Ok}
use Rattle.dt_text.specs.Include.Inclusion.{IsIncluded}
use Rattle.dt_text.specs.declared.include.inclusion.Whole.{Whole}
use Rattle.dt_tree.specs.PathMap.{tree_map}
use Rattle.dt_tree.specs.Sort.Sorted.{IsSortedTree}
use Rattle.dt_tree.specs.TreeData.{TreeData, IsTree}
use Rattle.dt_source.specs.TreeMeaning.Syntax.{Meaning}
use Rattle.dt_blob.specs.Blob.{blob_of}
use Rattle.dt_blob.specs.Holds.{Holds}
use Rattle.dtman_blobs.specs.Widening.{blob_with_room}
use Rattle.dtman_blobs.specs.declared.widening.Room.{Room}
use Rattle.dtman_check.specs.OwnNames.{once_tree}
use Rattle.dtman_engine.specs.CompileDtc.{SaysWith, dtc_meant}
use Rattle.dtman_engine.specs.Limits.{blob_limit}
use Rattle.dtman_engine.specs.declared.compiling_dtc.DtcOptions.{DtcOptions}
use Rattle.dtman_host.specs.SourceFiles.{SomeFile}
use Rattle.dtman_words.specs.declared.dtc_options.Format.{Format}
use Rattle.dtman_words.specs.declared.dtc_options.Format.TheVariants.{Dts, Dtb, Folder}
use Rattle.dtman_words.specs.declared.dtc_options.Options.{Options}
use Rattle.dtman_words.specs.declared.dtc_options.Order.{Order}
use Rattle.dtman_words.specs.declared.dtc_options.Order.TheVariants.{AsRead, ByName}

-- ---- the tree that an input says
-- -@ and -b, where a source is compiled
abbrev pub asked_of : Options → DtcOptions
asked_of options = record { symbols = options.symbols; boot_processor = options.boot_cpu }

-- what a source says with all that it takes in
pub record IsSaid (options : DtcOptions) (source : List ℕ) (tree : TreeData) : Type 0 where
  pub name : List ℕ
  pub whole : Whole
  pub included : IsIncluded SomeFile name source whole
  pub said : Meaning
  pub says : SaysWith whole.text.items whole.binaries.items said
  pub means : dtc_meant options said ≡ Ok (tree_map tree)

-- -b: the processor that boots
abbrev pub boots : Option ℕ → TreeData → TreeData
boots None tree = tree
boots (Some n) tree = record tree { boot_cpu = n }

-- what bytes hold, with each node's name told once, on that processor
pub record IsHeld (processor : Option ℕ) (bytes : List ℕ) (tree : TreeData) : Type 0 where
  pub held : TreeData
  pub holds : Holds bytes held
  pub boots_on : tree ≡ boots processor (once_tree held)

-- of a folder: what the bytes of its blob hold
abbrev pub IsTreeOf : Options → Format → List ℕ → TreeData → Type 0
IsTreeOf options Dts bytes tree = IsSaid (asked_of options) bytes tree
IsTreeOf options Dtb bytes tree = IsHeld options.boot_cpu bytes tree
IsTreeOf options Folder bytes tree = IsHeld options.boot_cpu bytes tree

-- ---- its blob
pub record IsBlobFor (tree : TreeData) (blob : List ℕ) : Type 0 where
  pub is : IsTree tree
  pub blob_is : blob ≡ blob_of tree
  pub fits : length blob ≤ blob_limit

-- the blob of the tree that an input says
pub record IsRead (options : Options) (from : Format) (bytes blob : List ℕ) : Type 0 where
  pub tree : TreeData
  pub tree_is : IsTreeOf options from bytes tree
  pub blob_is : IsBlobFor tree blob

-- ---- the output
-- -s: in order of names
abbrev pub IsOrdered : Order → TreeData → TreeData → Type 0
IsOrdered AsRead tree ordered = ordered ≡ tree
IsOrdered ByName tree ordered = IsSortedTree tree ordered

-- -R, -S, -p, -a: with room
abbrev pub HasRoom : Room → List ℕ → List ℕ → Type 0
HasRoom room blob wide = (tree : TreeData) → IsTree tree → blob ≡ blob_of tree → wide ≡ blob_with_room room tree

pub record IsOutput (options : Options) (tree : TreeData) (output : List ℕ) : Type 0 where
  pub ordered : TreeData
  pub is : IsTree ordered
  pub in_order : IsOrdered options.order tree ordered
  pub output_is : output ≡ blob_with_room options.room ordered

-- exactly the blob, in the order and with the room that are asked for, of a tree that the input says
pub record IsConverted (options : Options) (from : Format) (bytes output : List ℕ) : Type 0 where
  pub tree : TreeData
  pub tree_is : IsTreeOf options from bytes tree
  pub output_is : IsOutput options tree output
