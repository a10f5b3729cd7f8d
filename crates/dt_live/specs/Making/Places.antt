-- Where a text has the nodes and the properties of a tree.
use Rattle.std.specs.Prelude.{◌+◌, ◌-◌, ℕ, List, [], ◌∷◌, drop, take, nat_lt, Option, None, Some, if◌then◌else◌, slice_index_or}
use Rattle.dt_live.specs.declared.making.places.Places.{Places}

-- an offset, none where no text has it
abbrev pub told : ℕ → Option ℕ
told at = if nat_lt 0 at then Some at else None

abbrev pub told_in : List ℕ → Option ℕ → Option ℕ
told_in places None = None
told_in places (Some k) = told (slice_index_or places k 0)

-- the number of one of those that begin at the first of some starts and end before the second
abbrev pub number_in : List ℕ → ℕ → Option ℕ
number_in [] i = None
number_in (start ∷ []) i = None
number_in (start ∷ end ∷ more) i = if nat_lt i (end - start) then Some (start + i) else None

-- those from a start on, so many as there are up to an end
abbrev pub between : List ℕ → ℕ → ℕ → List ℕ
between xs start end = take (end - start) (drop start xs)

abbrev pub bounded : List ℕ → List ℕ → List ℕ
bounded [] xs = []
bounded (start ∷ []) xs = []
bounded (start ∷ end ∷ more) xs = between xs start end

-- the number of a node's property among those of all nodes
abbrev pub number_of : Places → ℕ → ℕ → Option ℕ
number_of p n i = number_in (drop n p.starts.items) i

-- where the text has it
abbrev pub property_place : Places → ℕ → ℕ → Option ℕ
property_place p n i = told_in p.properties.items (number_of p n i)

-- the references in its value
abbrev pub references_by : Places → Option ℕ → List ℕ
references_by p None = []
references_by p (Some k) = bounded (drop k p.reference_starts.items) p.references.items

abbrev pub references_in : Places → ℕ → ℕ → List ℕ
references_in p n i = references_by p (number_of p n i)

-- how many stand before each, where each has so many, and how many there are
abbrev pub totals : ℕ → List ℕ → List ℕ
totals k [] = k ∷ []
totals k (n ∷ ns) = k ∷ totals (k + n) ns
