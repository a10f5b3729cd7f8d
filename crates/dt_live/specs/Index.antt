-- What an index has at a node and a name.
use Rattle.std.specs.Prelude.{◌≡◌, ℕ, Bool, ◌&&◌, ◌==◌, List, Option, None, Some, if◌then◌else◌, slice_index_or, unwrap_or}
use Rattle.std.specs.List.{position_or_len}
use Rattle.std.specs.Str.{bytes_eq}
use Rattle.dt_tree.specs.declared.key.KeyName.{KeyName}
use Rattle.dt_live.specs.declared.index.IndexEntry.{IndexEntry}
use Rattle.dt_live.specs.declared.index.Index.{Index}

-- both are the same node and the same name
abbrev pub is_key : ℕ → List ℕ → ℕ → List ℕ → Bool
is_key n k m j = n == m && bytes_eq k j

-- where a key stands, the length where it wasn't met
abbrev pub slot_of : List (ℕ × KeyName) → ℕ → List ℕ → ℕ
slot_of keys n k = position_or_len (λ key. is_key n k key.0 key.1.bytes.now) keys

-- the entry of a key that wasn't met
abbrev pub absent : IndexEntry
absent = record { row = None; stamp = 0 }

abbrev pub entry_of : Index → ℕ → List ℕ → IndexEntry
entry_of index n k = slice_index_or index.entries.items (slot_of index.keys.keys n k) absent

-- the row of a key that stands
abbrev pub row_of : Index → ℕ → List ℕ → Option ℕ
row_of index n k = (entry_of index n k).row

-- the stamp of the body that defined a key last, 0 where none did
abbrev pub stamp_of : Index → ℕ → List ℕ → ℕ
stamp_of index n k = (entry_of index n k).stamp

-- what keys have, once a key has another value and the others keep theirs
abbrev pub IsSetAt : {A : Type 0} → ℕ → List ℕ → A → (ℕ → List ℕ → A) → (ℕ → List ℕ → A) → Type 0
IsSetAt n0 k0 value old new = (n : ℕ) (k : List ℕ) → new n k ≡ (if is_key n0 k0 n k then value else old n k)

-- the row of a key is another one
abbrev pub SetsRow : ℕ → List ℕ → Option ℕ → Index → Index → Type 0
SetsRow n k row old new = IsSetAt n k row (row_of old) (row_of new)

-- a key that has a row keeps it, and another gets the given one
abbrev pub DefinesRow : ℕ → List ℕ → ℕ → Index → Index → Type 0
DefinesRow n k row old new = SetsRow n k (Some (unwrap_or (row_of old n k) row)) old new
