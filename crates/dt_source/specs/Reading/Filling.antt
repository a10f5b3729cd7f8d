-- Filling in a value part by part.
use Rattle.std.specs.Prelude.{Ok}
use Rattle.dt_text.specs.Expression.Reading.{◌>>=◌}
use Rattle.dt_source.specs.TreeMeaning.Syntax.{Piece}
use Rattle.dt_source.specs.Filled.{Filled}
use Rattle.dt_source.specs.Reading.Values.{Built, put}

-- what was filled in, put behind the parts that are there
abbrev pub put_filled : Built → Filled Piece → Filled Built
put_filled b read = read >>= λ x. Ok (put b x.0, x.1)
