-- What a text's writer has made so far, and how it prints a value.
use Rattle.std.specs.Prelude.{◌≡◌, ℕ, ◌≤◌, ◌%◌, ◌==◌, ◌||◌, ◌&&◌, not, Bool, false, List, ◌++◌, length, Result, MatchResult, if◌then◌else◌}
use Rattle.dt_blob.specs.declared.error.BlobError.{BlobError}
use Rattle.dt_blob.specs.declared.value_form.ValueForm.{ValueForm}
use Rattle.dt_blob.specs.declared.value_form.ValueForm.TheVariants as form
use Rattle.dt_blob.specs.Blob.{limit}
use Rattle.dt_blob.specs.Blob.{Refuses}
use Rattle.dt_blob.specs.SourceText.{are_strings, character, comma}

-- the text is now `whole`, and fits
abbrev pub Prints : {T : Type 0} → Result T BlobError → List ℕ → List ℕ → Type 0
Prints result new whole = MatchResult result (λ _. (new ≡ whole) × (length whole ≤ limit)) (λ e. Refuses (length whole) e)

-- the first form that fits
abbrev pub form_of : List ℕ → ValueForm
form_of value = if are_strings false value then form.Strings else (if length value % 4 == 0 then form.Cells else form.Pairs)

-- a byte that strings don't print as it is: the end of one, a quotation mark or a backslash
abbrev pub is_mark : ℕ → Bool
is_mark b = (b == 0 || b == 34) || b == 92

-- what is printed for a mark, with what leads to the next string unless no byte follows
abbrev pub mark_text : ℕ → Bool → List ℕ
mark_text b is_last = character b ++ comma (b == 0 && not is_last)
