-- What stands before a name in a body: labels (Devicetree Specification v0.4, section 6.2), and in dtc's language `/omit-if-no-ref/`
-- (dtc 1.6, Documentation/dts-format.txt).
use Rattle.std.specs.Prelude.{Bool, true, false, ◌||◌, List, [], ◌∷◌}
use Rattle.std.specs.List.{filter}
use Rattle.dt_text.specs.declared.lexeme.lexeme.Lexeme.{Lexeme}
use Rattle.dt_text.specs.declared.lexeme.lexeme.Kind.{Kind}
use Rattle.dt_text.specs.declared.lexeme.lexeme.Kind.TheVariants.{Label, OmitIfNoRef}

abbrev pub is_label : Kind → Bool
is_label Label = true
is_label _ = false

abbrev pub is_mark : Kind → Bool
is_mark Label = true
is_mark OmitIfNoRef = true
is_mark _ = false

abbrev pub is_omission : Kind → Bool
is_omission OmitIfNoRef = true
is_omission _ = false

-- `/omit-if-no-ref/` is among them
abbrev pub omits : List Lexeme → Bool
omits [] = false
omits (m ∷ ms) = is_omission m.kind || omits ms

abbrev pub labels_in : List Lexeme → List Lexeme
labels_in ms = filter (λ m. is_label m.kind) ms
