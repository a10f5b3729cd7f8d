-- What a label is (Devicetree Specification v0.4, section 6.2): letters, digits and `_`, the first no digit. Here it
-- has at most 255 of them, as a name does.
use Rattle.std.specs.Prelude.{ℕ, Bool, false, ◌&&◌, List, [], ◌∷◌, IsTrue}
use Rattle.std.specs.List.{list_all}
use Rattle.dt_tree.specs.Name.{is_name}
use Rattle.dt_text.specs.Lexeme.Bytes.{is_letter, is_word}

-- a letter or `_`, and then letters, digits or `_`
abbrev pub has_label_form : List ℕ → Bool
has_label_form [] = false
has_label_form (c ∷ s) = is_letter c && list_all is_word s

-- It is a lawful name and has a label's form.
abbrev pub IsLabel : List ℕ → Type 0
IsLabel bytes = IsTrue (is_name bytes) × IsTrue (has_label_form bytes)
