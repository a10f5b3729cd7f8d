-- The blob of a board: a file's bytes, or what its source was compiled to.
use Rattle.std.specs.Prelude.{ℕ, List}
use Rattle.dtman_host.specs.declared.compiling.Board.{Board}
use Rattle.dtman_host.specs.declared.compiling.Board.TheVariants.{Blob, Source}

abbrev pub board_blob : Board → List ℕ
board_blob (Blob blob) = blob.items
board_blob (Source made) = made.compiled.blob.items
