-- What a node is asked for: a string of its `compatible` (Devicetree Specification v0.4, section 2.3.1), a property by its name, or one with a
-- value: one of its strings, or one of its cells (section 2.2.4).
use Rattle.std.specs.Prelude.{ℕ, Bool, false, ◌||◌, ◌==◌, codes, List, is_some, Option}
use Rattle.std.specs.Option.{option_map_or}
use Rattle.std.specs.List.{list_any, slice_split}
use Rattle.std.specs.Str.{bytes_eq}
use Rattle.dt_tree.specs.declared.property.Property.{Property}
use Rattle.dt_tree.specs.PathMap.{value_of}
use Rattle.dt_check.specs.Cells.{cells_of}
use Rattle.dt_questions.specs.declared.question.Question.{Question}
use Rattle.dt_questions.specs.declared.question.Question.TheVariants.{Named, Valued}

-- what stands between zero bytes is a string
abbrev pub has_text : List ℕ → List ℕ → Bool
has_text text value = list_any (λ s. bytes_eq s text) (slice_split (λ b. b == 0) value)

abbrev pub has_number : ℕ → List ℕ → Bool
has_number number value = list_any (λ cell. cell == number) (cells_of value)

abbrev pub is_value : List ℕ → Option ℕ → List ℕ → Bool
is_value text number value = has_text text value || option_map_or (λ n. has_number n value) number false

abbrev pub has_compatible : List ℕ → List Property → Bool
has_compatible string ps = option_map_or (has_text string) (value_of ps (codes "compatible")) false

abbrev pub fits : Question → List Property → Bool
fits (Named word) ps = has_compatible word.now ps || is_some (value_of ps word.now)
fits (Valued name text number) ps = option_map_or (is_value text.now number) (value_of ps name.now) false
