-- What a lexeme names, and where it stands (Devicetree Specification v0.4, section 6.2).
use Rattle.std.specs.Prelude.{◌≡◌, ℕ, ◌+◌, ◌-◌, ◌<◌, ◌≤◌, nat_lt, nat_le, Bool, false, ◌&&◌, List, length, slice_get, slice_range, Option, Some, None}
use Rattle.dt_text.specs.declared.lexeme.lexeme.Lexeme.{Lexeme}
use Rattle.dt_text.specs.declared.lexeme.lexeme.Kind.{Kind}
use Rattle.dt_text.specs.declared.lexeme.lexeme.Kind.TheVariants.{Label, Reference, PathReference}
use Rattle.dt_text.specs.Lexeme.Fronts.{path_of}
use Rattle.dt_text.specs.declared.place.located.LocatedLexeme.{LocatedLexeme}
use Rattle.dt_text.specs.Place.Positions.{site_at, site_of}

-- A label without its colon, what a reference names without `&` and braces, nor a slash behind a path, or else the whole lexeme.
abbrev pub name_between : Kind → List ℕ → ℕ → ℕ → List ℕ
name_between Label text i j = slice_range text i (j - 1)
name_between Reference text i j = slice_range text (i + 1) j
name_between PathReference text i j = path_of (slice_range text (i + 2) (j - 1))
name_between _ text i j = slice_range text i j

abbrev pub name_in : List ℕ → Lexeme → List ℕ
name_in text lexeme = name_between lexeme.kind text lexeme.start lexeme.end

-- This is the lexeme of the text with this index: it lies inside the text, the name is the lexeme's, and file, line and column are
-- those of its first byte.
pub record IsLocated (text : List ℕ) (lexemes : List Lexeme) (index : ℕ) (here : LocatedLexeme) : Type 0 where
  pub lexeme : slice_get lexemes index ≡ Some here.lexeme
  pub some : here.lexeme.start < here.lexeme.end
  pub inside : here.lexeme.end ≤ length text
  pub name : here.name.now ≡ name_in text here.lexeme
  pub site : site_of here.position ≡ site_at text here.lexeme.start

-- the lexeme has bytes, and all of them are the text's
abbrev pub is_inside : List ℕ → Option Lexeme → Bool
is_inside text None = false
is_inside text (Some lexeme) = nat_lt lexeme.start lexeme.end && nat_le lexeme.end (length text)

-- the place is one of the lexeme's
abbrev pub has_place : ℕ → Lexeme → Bool
has_place place lexeme = nat_le lexeme.start place && nat_lt place lexeme.end
