-- Reading the words that name a part of a file: `/incbin/("NAME")`, `/incbin/("NAME", OFFSET, LENGTH)`.
use Rattle.std.specs.Prelude.{ℕ, List, [], ◌∷◌, Option, Some, None, Result, Ok, Err}
use Rattle.dt_text.specs.declared.lexeme.language.Language.{Language}
use Rattle.dt_text.specs.declared.lexeme.lexeme.Lexeme.{Lexeme}
use Rattle.dt_text.specs.declared.lexeme.lexeme.Fault.{Fault}
use Rattle.dt_text.specs.declared.lexeme.lexeme.Refusal.{Refusal}
use Rattle.dt_text.specs.declared.lexeme.lexeme.Kind.{Kind}
use Rattle.dt_text.specs.declared.lexeme.lexeme.Kind.TheVariants.{Text, Comma, Paren, EndParen}
use Rattle.dt_text.specs.Expression.Values.{Value}
use Rattle.dt_text.specs.Expression.Reading.{◌>>=◌, Read, syntax_at}
use Rattle.dt_text.specs.Expression.ReadingExpressions.{primary_at}
use Rattle.dt_source.specs.TreeMeaning.Syntax.{Piece}
use Rattle.dt_source.specs.Reading.Several.{earlier, Part}
use Rattle.dt_source.specs.Strings.{string_faults}
use Rattle.dt_source.specs.Pieces.{fault_in, portion_pieces}
use Rattle.dt_source.specs.Order.{first_of}

-- ---- what follows a parenthesis or a comma

abbrev pub paren_kind : Kind → Lexeme → List Lexeme → Result (List Lexeme) Refusal
paren_kind Paren t ts = Ok ts
paren_kind _ t ts = Err (syntax_at (t ∷ ts))

abbrev pub paren_at : List Lexeme → Result (List Lexeme) Refusal
paren_at [] = Err (syntax_at [])
paren_at (t ∷ ts) = paren_kind t.kind t ts

abbrev pub end_paren_kind : Kind → Lexeme → List Lexeme → Result (List Lexeme) Refusal
end_paren_kind EndParen t ts = Ok ts
end_paren_kind _ t ts = Err (syntax_at (t ∷ ts))

abbrev pub end_paren_at : List Lexeme → Result (List Lexeme) Refusal
end_paren_at [] = Err (syntax_at [])
end_paren_at (t ∷ ts) = end_paren_kind t.kind t ts

abbrev pub separator_kind : Kind → Lexeme → List Lexeme → Result (List Lexeme) Refusal
separator_kind Comma t ts = Ok ts
separator_kind _ t ts = Err (syntax_at (t ∷ ts))

abbrev pub separator_at : List Lexeme → Result (List Lexeme) Refusal
separator_at [] = Err (syntax_at [])
separator_at (t ∷ ts) = separator_kind t.kind t ts

-- ---- a file

-- the fault of a file's name
abbrev pub file_name_by : Language → List ℕ → Kind → Lexeme → List Lexeme → Read (Option Fault)
file_name_by language text Text t ts = Ok (first_of (string_faults language text t), ts)
file_name_by language text _ t ts = Err (syntax_at (t ∷ ts))

abbrev pub file_name_at : Language → List ℕ → List Lexeme → Read (Option Fault)
file_name_at language text [] = Err (syntax_at [])
file_name_at language text (t ∷ ts) = file_name_by language text t.kind t ts

-- an offset and a length, and the parenthesis behind them
unfoldable pub both_at : List ℕ → List Lexeme → Read (Option (Value × Value))
both_at text ts = do
  x ← primary_at text ts
  a ← separator_at x.1
  y ← primary_at text a
  b ← end_paren_at y.1
  Ok (Some (x.0, y.0), b)

abbrev pub portion_by : List ℕ → Kind → Lexeme → List Lexeme → Read (Option (Value × Value))
portion_by text EndParen t ts = Ok (None, ts)
portion_by text Comma t ts = both_at text ts
portion_by text _ t ts = Err (syntax_at (t ∷ ts))

-- what stands behind a file's name
abbrev pub portion_at : List ℕ → List Lexeme → Read (Option (Value × Value))
portion_at text [] = Err (syntax_at [])
portion_at text (t ∷ ts) = portion_by text t.kind t ts

abbrev pub portion_fault : Option (Value × Value) → Option Fault
portion_fault None = None
portion_fault (Some x) = earlier (fault_in x.0) (fault_in x.1)

-- a part of a file whose word was read and stands at this place
unfoldable pub included_at : Language → List ℕ → ℕ → List Lexeme → Part (List Piece)
included_at language text at ts = do
  a ← paren_at ts
  x ← file_name_at language text a
  p ← portion_at text x.1
  Ok (portion_pieces at p.0, earlier x.0 (portion_fault p.0), p.1)
