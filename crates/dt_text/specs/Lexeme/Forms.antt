-- The bytes of a name, a label and a reference (Devicetree Specification v0.4, sections 2.2.1, 2.2.3 and 6.2).
use Rattle.std.specs.Prelude.{ℕ, ◌+◌, ◌-◌, List, [], ◌∷◌, slice_range, IsTrue}
use Rattle.dt_tree.specs.Name.{is_name}
use Rattle.dt_tree.specs.Path.{is_path}
use Rattle.dt_text.specs.declared.lexeme.lexeme.Lexeme.{Lexeme}
use Rattle.dt_text.specs.declared.lexeme.lexeme.Kind.{Kind}
use Rattle.dt_text.specs.declared.lexeme.lexeme.Kind.TheVariants.{Name, Label, Reference, PathReference}
use Rattle.dt_text.specs.declared.lexeme.language.Language.{Language}
use Rattle.dt_text.specs.Lexeme.Fronts.{path_of}
use Rattle.dt_text.specs.Lexeme.Label.{IsLabel}
use Rattle.dt_text.specs.Lexeme.Lexemes.{Lexemes}

-- Between the two places of the text stands a lexeme of this kind. A label's colon is no part of it, nor are a
-- reference's `&` and braces, nor in dtc's language the slash behind a path.
abbrev pub FormAt : Kind → List ℕ → ℕ → ℕ → Type 0
FormAt Name text i j = IsTrue (is_name (slice_range text i j))
FormAt Label text i j = IsLabel (slice_range text i (j - 1))
FormAt Reference text i j = IsLabel (slice_range text (i + 1) j)
FormAt PathReference text i j = IsTrue (is_path (path_of (slice_range text (i + 2) (j - 1))))
FormAt _ text i j = Unit {0}

-- Each of these lexemes of the text has its kind's form.
unfoldable pub AllLawful : List ℕ → List Lexeme → Type 0
AllLawful text [] = Unit {0}
AllLawful text (l ∷ ls) = FormAt l.kind text l.start l.end × AllLawful text ls

-- A text's lexemes have their kinds' forms.
abbrev pub LexemesAreLawful : Type 0
LexemesAreLawful = (language : Language) (text : List ℕ) (ls : List Lexeme) → Lexemes language text ls → AllLawful text ls
