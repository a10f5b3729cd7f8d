-- How much is read and written, and how many workers there may be.
use Rattle.std.specs.Prelude.{◌≤◌, ℕ, List, length}

-- the most bytes of a blob, and of the canonical source of one
abbrev pub blob_limit : ℕ
blob_limit = 268435456

-- the most bytes of a source
abbrev pub source_limit : ℕ
source_limit = 16777216

abbrev pub IsShort : List ℕ → Type 0
IsShort text = length text ≤ source_limit

-- the most bytes of a text file of the bus
abbrev pub text_limit : ℕ
text_limit = 268435456

-- the most workers of a run
abbrev pub worker_limit : ℕ
worker_limit = 64
