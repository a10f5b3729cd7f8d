-- Limits of texts.
use Rattle.std.specs.Prelude.{ℕ}

-- the most bytes of a text that is made: 64 MiB
abbrev pub text_limit : ℕ
text_limit = 67108864
