-- How long the text of a source may be: this project's number, as the Devicetree Specification v0.4 sets none.
use Rattle.std.specs.Prelude.{ℕ}

-- the most bytes of a source: 16 MiB
abbrev pub text_limit : ℕ
text_limit = 16777216
