-- Values whose parts of files are filled in (dtc 1.6, Documentation/dts-format.txt: `/incbin/`). The files come in the order of the text.
use Rattle.std.specs.Prelude.{ℕ, Bool, true, false, ◌||◌, ◌==◌, List, [], ◌∷◌, Option, Some, None, Result, Ok, Err, take, drop, if◌then◌else◌}
use Rattle.dt_text.specs.declared.lexeme.lexeme.Refusal.{Refusal}
use Rattle.dt_text.specs.Expression.Reading.{◌>>=◌}
use Rattle.dt_source.specs.TreeMeaning.Syntax.{Piece, Plain, PhandleOf, PathOf, Stored, Entry, Defines, Undefines, Child, Removes, Body, Done, Then, Edit, Rooted, Extends, Deletes, Omits, Meaning}
use Rattle.dt_text.specs.declared.lexeme.binary.Binary.{Binary}
use Rattle.dt_source.specs.Parse.{no_lexeme}
use Rattle.dt_source.specs.Pieces.{joined}

-- What is filled in, and the files behind those that it took; or the `/incbin/` whose file isn't there, by its place.
abbrev pub Filled : Type 0 → Type 0
Filled A = Result (A × List Binary) Refusal

-- the part of a file from an offset on, so many bytes of it as there are
abbrev pub part_of : ℕ → Option ℕ → List ℕ → List ℕ
part_of offset None bytes = drop offset bytes
part_of offset (Some n) bytes = take n (drop offset bytes)

-- the next file, where it is that of the `/incbin/` at this place
abbrev pub file_at : ℕ → List Binary → Filled (List ℕ)
file_at at [] = Err (no_lexeme at)
file_at at (f ∷ fs) = if f.at == at then Ok (f.bytes.items, fs) else Err (no_lexeme at)

abbrev pub filled_piece : Piece → List Binary → Filled Piece
filled_piece (Plain bytes) fs = Ok (Plain bytes, fs)
filled_piece (PhandleOf target) fs = Ok (PhandleOf target, fs)
filled_piece (PathOf target) fs = Ok (PathOf target, fs)
filled_piece (Stored at offset length) fs = file_at at fs >>= λ x. Ok (Plain (part_of offset length x.0), x.1)

-- one after the other
abbrev pub filled_each : {A : Type 0} → (A → List Binary → Filled A) → List A → List Binary → Filled (List A)
filled_each one [] fs = Ok ([], fs)
filled_each one (a ∷ others) fs = one a fs >>= λ x. filled_each one others x.1 >>= λ y. Ok (x.0 ∷ y.0, y.1)

abbrev pub is_stored : Piece → Bool
is_stored (Stored at offset length) = true
is_stored _ = false

abbrev pub holds_file : List Piece → Bool
holds_file [] = false
holds_file (p ∷ ps) = is_stored p || holds_file ps

-- Where a value holds parts of files, its bytes join anew.
abbrev pub filled_value : List Piece → List Binary → Filled (List Piece)
filled_value v fs = if holds_file v then (filled_each filled_piece v fs >>= λ x. Ok (joined x.0, x.1)) else Ok (v, fs)

abbrev mutual
  pub filled_entry : Entry (List Piece) → List Binary → Filled (Entry (List Piece))
  filled_entry (Defines name value) fs = filled_value value fs >>= λ x. Ok (Defines name x.0, x.1)
  filled_entry (Undefines name) fs = Ok (Undefines name, fs)
  filled_entry (Child omitted labels name body) fs = filled_body body fs >>= λ x. Ok (Child omitted labels name x.0, x.1)
  filled_entry (Removes name) fs = Ok (Removes name, fs)

  pub filled_body : Body (List Piece) → List Binary → Filled (Body (List Piece))
  filled_body Done fs = Ok (Done, fs)
  filled_body (Then first others) fs = filled_entry first fs >>= λ x. filled_body others x.1 >>= λ y. Ok (Then x.0 y.0, y.1)

abbrev pub filled_edit : Edit → List Binary → Filled Edit
filled_edit (Rooted body) fs = filled_body body fs >>= λ x. Ok (Rooted x.0, x.1)
filled_edit (Extends labels target body) fs = filled_body body fs >>= λ x. Ok (Extends labels target x.0, x.1)
filled_edit (Deletes target) fs = Ok (Deletes target, fs)
filled_edit (Omits target) fs = Ok (Omits target, fs)

-- what a source says once its files are filled in
abbrev pub filled : List Binary → Meaning → Result Meaning Refusal
filled files m = filled_each filled_edit m.items files >>= λ x. Ok (record { plugin = m.plugin; reserves = m.reserves; items = x.0 })
