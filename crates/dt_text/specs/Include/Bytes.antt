-- Classes of bytes of a source (dtc 1.6, Documentation/dts-format.txt).
use Rattle.std.specs.Prelude.{ℕ, ◌==◌, Bool, not, ◌&&◌, List}
use Rattle.std.specs.List.{prefix_len}
use Rattle.dt_text.specs.Lexeme.Bytes.{is_blank, is_digit, is_word}
use Rattle.dt_text.specs.declared.include.bytes.Class.{Class}
use Rattle.dt_text.specs.declared.include.bytes.Class.TheVariants.{Word, Digit, Blank, Line, Plain}

-- whether a byte stands in a run of this class; a string begins with 34, a character literal with 39, a comment or a keyword with 47
abbrev pub passes : Class → ℕ → Bool
passes Word c = is_word c
passes Digit c = is_digit c
passes Blank c = is_blank c
passes Line c = not (c == 10)
passes Plain c = not (c == 34) && not (c == 39) && not (c == 47)

-- how many bytes of a class stand at the front
abbrev pub run_of : Class → List ℕ → ℕ
run_of class s = prefix_len (passes class) s
