-- What labels and names are in the text, and bytes one after the other.
use Rattle.std.specs.Prelude.{ℕ, ◌-◌, List, [], ◌∷◌, ◌++◌, slice_range}
use Rattle.dt_text.specs.declared.lexeme.lexeme.Lexeme.{Lexeme}

-- without the colon
abbrev pub label_bytes : List ℕ → Lexeme → List ℕ
label_bytes text l = slice_range text l.start (l.end - 1)

abbrev pub name_bytes : List ℕ → Lexeme → List ℕ
name_bytes text l = slice_range text l.start l.end

abbrev pub concat : List (List ℕ) → List ℕ
concat [] = []
concat (b ∷ bs) = b ++ concat bs
