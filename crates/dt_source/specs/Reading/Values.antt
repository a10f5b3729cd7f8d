-- A value while it is read.
use Rattle.std.specs.Prelude.{ℕ, List, [], ◌∷◌, ◌++◌, fold, map}
use Rattle.dt_source.specs.declared.parts.Parts.{Parts}
use Rattle.dt_source.specs.TreeMeaning.Syntax.{Piece, Plain, PhandleOf, PathOf, Stored}
use Rattle.dt_source.specs.Tree.{part_view}

-- the parts that are closed, and the bytes behind them
pub record Built : Type 0 where
  pub closed : List Piece
  pub bytes : List ℕ

abbrev pub built : Parts → Built
built p = record { closed = map part_view p.closed.items; bytes = p.bytes.items }

abbrev pub bytes_piece : List ℕ → List Piece
bytes_piece [] = []
bytes_piece (b ∷ bs) = Plain (b ∷ bs) ∷ []

abbrev pub flushed : Built → List Piece
flushed b = b.closed ++ bytes_piece b.bytes

-- the bytes closed, and a part that isn't bytes behind them
abbrev pub closed_by : Built → Piece → Built
closed_by b part = record { closed = flushed b ++ part ∷ []; bytes = [] }

abbrev pub put : Built → Piece → Built
put b (Plain bytes) = record { closed = b.closed; bytes = b.bytes ++ bytes }
put b (PhandleOf target) = closed_by b (PhandleOf target)
put b (PathOf target) = closed_by b (PathOf target)
put b (Stored at offset length) = closed_by b (Stored at offset length)

abbrev pub put_all : Built → List Piece → Built
put_all b ps = fold put b ps
