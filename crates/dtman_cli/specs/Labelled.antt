-- What `dump --labels` prints: a source with labels that compiles to the tree of the blob again, or else what `dump` prints.
use Rattle.std.specs.Prelude.{◌⊎◌, ℕ, List, false}
use Rattle.dtman_engine.specs.Compile.{IsCompiled}
use Rattle.dtman_engine.specs.Copy.{IsCopy}
use Rattle.dtman_engine.specs.Dump.{IsDump}

-- the text compiles to the blob of a tree that the bytes hold
pub record CompilesAgain (blob text : List ℕ) : Type 0 where
  pub made : List ℕ
  pub compiled : IsCompiled false text made
  pub copied : IsCopy blob made

abbrev pub IsLabelled : List ℕ → List ℕ → Type 0
IsLabelled blob text = CompilesAgain blob text ⊎ IsDump blob text
