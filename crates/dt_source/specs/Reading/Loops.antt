-- What loops that read keep: what was read before, and what is still read.
use Rattle.std.specs.Prelude.{ℕ, List, [], ◌∷◌, Option, Some, None, Ok, fold}
use Rattle.dt_text.specs.declared.lexeme.lexeme.Fault.{Fault}
use Rattle.dt_text.specs.declared.lexeme.lexeme.Lexeme.{Lexeme}
use Rattle.dt_text.specs.declared.lexeme.lexeme.Kind.{Kind}
use Rattle.dt_text.specs.declared.lexeme.lexeme.Kind.TheVariants.{Comma}
use Rattle.dt_text.specs.Expression.Reading.{◌>>=◌}
use Rattle.dt_source.specs.Reading.Several.{earlier, Part}
use Rattle.dt_source.specs.TreeMeaning.Syntax.{Piece}
use Rattle.dt_source.specs.Reading.Values.{Built, put_all}

-- what was read, put behind the parts that are there
abbrev pub into : Built → Part (List Piece) → Part Built
into b read = read >>= λ y. Ok (put_all b y.0, y.1, y.2)

-- what was read, put one after the other behind what is there
abbrev pub folded : {A B : Type 0} → (B → A → B) → B → Option Fault → Part (List A) → Part B
folded comb b f read = read >>= λ y. Ok (fold comb b y.0, earlier f y.1, y.2)

abbrev pub byte_list : Option ℕ → List ℕ
byte_list None = []
byte_list (Some b) = b ∷ []

abbrev pub comma_by_kind : Kind → List Lexeme → Option (List Lexeme)
comma_by_kind Comma ts = Some ts
comma_by_kind _ ts = None

-- what follows a comma
abbrev pub comma_rest : List Lexeme → Option (List Lexeme)
comma_rest [] = None
comma_rest (t ∷ ts) = comma_by_kind t.kind ts
