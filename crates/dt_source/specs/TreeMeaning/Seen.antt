-- How the two languages meet: where no name has two places, what is made or removed in dtc's language is made or removed in the profile,
-- seen at its place.
use Rattle.std.specs.Prelude.{◌≡◌, ℕ, Bool, true, not, ◌&&◌, List, [], ◌∷◌, ◌++◌, map, Option, Some, None, if◌then◌else◌}
use Rattle.std.specs.List.{filter, list_any}
use Rattle.dt_source.specs.TreeMeaning.Paths.{Path, is_listed, is_within, same_path}
use Rattle.dt_source.specs.TreeMeaning.Syntax.{Piece}
use Rattle.dt_source.specs.TreeMeaning.Edits.{Definition, definition, is_of, put}
use Rattle.dt_source.specs.TreeMeaning.Places.{Row, row, place, all_removed, put_in_place}

-- ---- nodes
-- all places, each with whether its node is listed
abbrev pub seen_at : List Path → Path → Row Path
seen_at nodes p = record { what = p; stands = is_listed p nodes }

abbrev pub seen : List Path → List Path → List (Row Path)
seen places nodes = map (seen_at nodes) places

-- one more goes last, as in the profile
abbrev pub with_path : Path → List Path → List Path
with_path p ps = if is_listed p ps then ps else ps ++ p ∷ []

-- no path stands twice
abbrev pub are_once : List Path → Bool
are_once [] = true
are_once (p ∷ ps) = not (is_listed p ps) && are_once ps

-- a node is made at its place, or at a new one behind the others
abbrev pub IsNodeMade : Path → List Path → List Path → Type 0
IsNodeMade p places nodes = put_in_place (same_path p) p (seen places nodes) ≡ seen (with_path p places) (with_path p nodes)

-- a node is removed with all below it, and all keep their places
abbrev pub AreNodesRemoved : Path → List Path → List Path → Type 0
AreNodesRemoved p places nodes =
    all_removed (is_within p) (seen places nodes) ≡ seen places (filter (λ q. not (is_within p q)) nodes)

-- ---- properties; a place has a path and a name alone
abbrev pub Value : Type 0
Value = List Piece

abbrev pub Valued : Type 0
Valued = Definition Value

abbrev pub Keyed : Type 0
Keyed = Definition (Unit {0})

abbrev pub found_value : {V : Type 0} → Path → List ℕ → List (Definition V) → Option V
found_value p n [] = None
found_value p n (e ∷ es) = if is_of p n e then Some e.value else found_value p n es

abbrev pub row_of_value : {A : Type 0} → Path → List ℕ → Option (List A) → Row (Definition (List A))
row_of_value p n None = place (definition p n [])
row_of_value p n (Some v) = row (definition p n v)

abbrev pub property_at_place : {A U : Type 0} → List (Definition (List A)) → Definition U → Row (Definition (List A))
property_at_place es k = row_of_value k.path k.name (found_value k.path k.name es)

abbrev pub properties_seen : {A U : Type 0} → List (Definition U) → List (Definition (List A)) → List (Row (Definition (List A)))
properties_seen places es = map (property_at_place es) places

-- what a removed property was doesn't count
abbrev pub bare : {A : Type 0} → Row (Definition (List A)) → Row (Definition (List A))
bare r = if r.stands then r else place (definition r.what.path r.what.name [])

-- no path and name stand twice
abbrev pub properties_once : {V : Type 0} → List (Definition V) → Bool
properties_once [] = true
properties_once (e ∷ es) = not (list_any (is_of e.path e.name) es) && properties_once es

-- a property is made at its place, or at a new one behind the others
abbrev pub IsPropertyMade : Path → List ℕ → Value → List Keyed → List Valued → Type 0
IsPropertyMade p n v places es =
    put_in_place (is_of p n) (definition p n v) (properties_seen places es) ≡ properties_seen (put p n tt places) (put p n v es)

-- the properties of a node and of all below it are removed, and keep their places
abbrev pub ArePropertiesRemoved : Path → List Keyed → List Valued → Type 0
ArePropertiesRemoved p places es =
    map bare (all_removed (λ e. is_within p e.path) (properties_seen places es)) ≡ properties_seen places (filter (λ e. not (is_within p e.path)) es)
