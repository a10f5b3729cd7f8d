-- Lists of nodes or rows as a function of their owner.
use Rattle.std.specs.Prelude.{◌≡◌, ◌==◌, ◌∷◌, ◌++◌, ℕ, List, [], if◌then◌else◌, length, map, slice_index_or}
use Rattle.dt_live.specs.declared.preorder.lists.Lists.{Lists}

abbrev pub list_of : Lists → ℕ → List ℕ
list_of l n = slice_index_or (map (λ list. list.items) l.lists.items) n []

abbrev pub list_count : Lists → ℕ
list_count l = length l.lists.items

-- an owner's list has one more
abbrev pub IsPushed : ℕ → ℕ → Lists → Lists → Type 0
IsPushed owner number old new = (n : ℕ) → list_of new n ≡ list_of old n ++ (if n == owner then number ∷ [] else [])
