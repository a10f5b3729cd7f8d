-- What `compile_bytes` answers: the blob of the tree that the source in a text means, or why there is none.
use Rattle.std.specs.Prelude.{◌⊎◌, ℕ, Bool, List, Ok}
use Rattle.dt_text.specs.declared.lexeme.language.Language.TheVariants.{Profile}
use Rattle.dt_tree.specs.Steps.{then_do}
use Rattle.dt_source.specs.Parse as parse
use Rattle.dt_source.specs.TreeMeaning.Syntax.{Meaning}
use Rattle.dt_source.specs.TreeMeaning.MapOf.{tree_map_of}
use Rattle.dt_source.specs.TreeMeaning.Resolved.{resolved}
use Rattle.dtman_engine.specs.Fault.{Answer, FaultValue}
use Rattle.dtman_engine.specs.Meant as meant

-- what a source means: its resolved tree
abbrev pub meant_by : Bool → Meaning → meant.Meant
meant_by symbols m = then_do (resolved symbols m) (λ lists. Ok (tree_map_of m lists))

-- the blob of the tree that a source means
abbrev pub IsBlobOf : Bool → Meaning → List ℕ → Type 0
IsBlobOf symbols m blob = meant.IsBlobOf (meant_by symbols m) blob

-- why what a source says makes no blob: memory is wanted, it means no tree, or the blob is too long
abbrev pub CannotBuild : Bool → Meaning → FaultValue → Type 0
CannotBuild symbols m fault = meant.CannotBuild (meant_by symbols m) fault

-- the answer to what a source says: its blob, or why there is none
abbrev pub Builds : Bool → Meaning → Answer → Type 0
Builds symbols m given = meant.Builds (meant_by symbols m) given

-- the text says something, and this is its blob
abbrev pub IsCompiled : Bool → List ℕ → List ℕ → Type 0
IsCompiled symbols text blob = meant.IsBlobOfText (parse.Says Profile text) (meant_by symbols) text blob

-- the text says nothing, or what it says makes no blob
abbrev pub IsCompileRefusal : Bool → List ℕ → FaultValue → Type 0
IsCompileRefusal symbols text fault =
    meant.SaysNone (parse.Refuses Profile text) fault ⊎ meant.SaysInVain (parse.Says Profile text) (meant_by symbols) text fault
