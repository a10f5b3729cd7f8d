-- Resolved tree: the edits, and then phandles, symbols and fixups (Devicetree Specification v0.4, section 6.3; dt-object-internal,
-- sections 1.1 and 2), or the first fault.
use Rattle.std.specs.Prelude.{ℕ, Bool, true, false, ◌&&◌, ◌||◌, List, [], ◌∷◌, ◌++◌, length, map, Result, Ok, Err, if◌then◌else◌, nat_lt, codes}
use Rattle.std.specs.List.{list_any, flat_map}
use Rattle.std.specs.Int.{to_be_bytes, w32}
use Rattle.dt_tree.specs.Steps.{then_do}
use Rattle.dt_tree.specs.Path.{path_text}
use Rattle.dt_source.specs.TreeMeaning.Paths.{Path, is_listed}
use Rattle.dt_source.specs.TreeMeaning.Names.{symbols_name, fixups_name, local_fixups_name}
use Rattle.dt_source.specs.TreeMeaning.Syntax.{Piece, Meaning}
use Rattle.dt_source.specs.TreeMeaning.Edits.{Definition, definition, Label, State}
use Rattle.dt_source.specs.TreeMeaning.Statements.{Fault, ReservedName, TooDeep, edited}
use Rattle.dt_source.specs.TreeMeaning.References.{Found, in_order, references}
use Rattle.dt_source.specs.TreeMeaning.Phandles.{PathPhandle, given_of, new_ones, wanted, assigned}
use Rattle.dt_source.specs.TreeMeaning.Fixups.{value_bytes, sites, fixups, local_fixups}

-- a tree whose values are bytes: its nodes below the root and its properties, each in order of definition
pub record Resolved : Type 0 where
  pub nodes : List Path
  pub properties : List (Definition (List ℕ))

-- ---- properties with nodes of their own, behind all others
-- a path and those above it, from the root's child down
abbrev pub fronts : Path → List Path
fronts [] = []
fronts (n ∷ ns) = (n ∷ []) ∷ map (λ p. n ∷ p) (fronts ns)

abbrev pub with_more : List (Definition (List ℕ)) → Resolved → Resolved
with_more es r = record { nodes = r.nodes ++ new_ones [] (flat_map (λ e. fronts e.path) es); properties = r.properties ++ es }

-- ---- what is added
abbrev pub with_bytes : List PathPhandle → Definition (List Found) → Definition (List ℕ)
with_bytes xs e = definition e.path e.name (value_bytes xs e.value)

abbrev pub phandle_property : PathPhandle → Definition (List ℕ)
phandle_property x = definition x.path (codes "phandle") (to_be_bytes w32 x.phandle)

abbrev pub symbol : Label → Definition (List ℕ)
symbol l = definition (symbols_name ∷ []) l.label (path_text l.path ++ 0 ∷ [])

abbrev pub when : {A : Type 0} → Bool → List A → List A
when true xs = xs
when false xs = []

-- all, where `xs` are the phandles given and `new` those that nodes get
abbrev pub put_together : Bool → Bool → State (List Piece) → List (Definition (List Found)) → List PathPhandle → List PathPhandle → Resolved
put_together symbols plugin s es xs new =
    with_more (when plugin (local_fixups (sites (xs ++ new) es) []))
    (with_more (when plugin (fixups (sites (xs ++ new) es) []))
    (with_more (when symbols (map symbol s.labels))
    (record { nodes = s.nodes; properties = map (with_bytes (xs ++ new)) es ++ map phandle_property new })))

-- ---- faults of the whole
abbrev pub has_child : {V : Type 0} → State V → List ℕ → Bool
has_child s n = is_listed (n ∷ []) s.nodes

-- the root has a child whose name is kept for what is added
abbrev pub names_taken : {V : Type 0} → Bool → Bool → State V → Bool
names_taken symbols plugin s =
    (symbols && has_child s symbols_name) || (plugin && (has_child s fixups_name || has_child s local_fixups_name))

abbrev pub is_too_deep : Path → Bool
is_too_deep p = nat_lt 64 (length p)

abbrev pub shallow : Resolved → Result Resolved Fault
shallow r = if list_any is_too_deep r.nodes then Err TooDeep else Ok r

-- ---- in order
abbrev pub resolved_state : Bool → Bool → State (List Piece) → Result Resolved Fault
resolved_state symbols plugin s =
    if names_taken symbols plugin s then Err ReservedName
    else then_do (given_of (in_order s) []) (λ given.
    then_do (references plugin s) (λ es.
    shallow (put_together symbols plugin s es given (assigned given 0 (wanted symbols s given es)))))

abbrev pub resolved : Bool → Meaning → Result Resolved Fault
resolved symbols m = then_do (edited m) (resolved_state symbols m.plugin)
