-- Laws of dtc's language: the tree that stands when all is read, and what omission leaves of it, is one that a resolved tree can hold
-- (Devicetree Specification v0.4, sections 2.2.1, 2.2.3 and 2.2.4). N is what is true of each name that a source gives.
use Rattle.std.specs.Prelude.{◌≡◌, ℕ, Bool, true, false, List, [], ◌∷◌, ◌++◌, All, Ok}
use Rattle.std.specs.List.{list_any}
use Rattle.dt_source.specs.TreeMeaning.Names.{fragment_name, overlay_name}
use Rattle.dt_source.specs.TreeMeaning.Paths.{Path, is_listed}
use Rattle.dt_source.specs.TreeMeaning.Syntax.{Target, OfLabel, OfPath, Piece, PhandleOf, PathOf, Entry, Defines, Undefines, Child, Removes, Body, Done, Then, Edit, Rooted, Extends, Deletes, Omits, Meaning}
use Rattle.dt_source.specs.TreeMeaning.Edits.{State, has_node}
use Rattle.dt_source.specs.TreeMeaning.Statements.{target_name}
use Rattle.dt_source.specs.TreeMeaning.Resolved.{is_too_deep}
use Rattle.dt_source.specs.TreeMeaning.DtcEdits.{DtcTree}
use Rattle.dt_source.specs.TreeMeaning.DtcStatements.{label_twice, dtc_edited, dtc_state}
use Rattle.dt_source.specs.TreeMeaning.DtcResolved.{rest_of}
use Rattle.dt_source.specs.TreeMeaning.Seen.{are_once, properties_once}

-- ---- what a source names: properties, nodes and labels, those of references among them
abbrev pub TargetHas : (List ℕ → Type 0) → Target → Type 0
TargetHas N (OfLabel l) = N l
TargetHas N (OfPath t) = Unit {0}

abbrev pub PieceHas : (List ℕ → Type 0) → Piece → Type 0
PieceHas N (PhandleOf t) = TargetHas N t
PieceHas N (PathOf t) = TargetHas N t
PieceHas N _ = Unit {0}

abbrev pub ValueHas : (List ℕ → Type 0) → List Piece → Type 0
ValueHas N v = All (PieceHas N) v

abbrev mutual
  pub EntryHas : (List ℕ → Type 0) → Entry (List Piece) → Type 0
  EntryHas N (Defines n v) = N n × ValueHas N v
  EntryHas N (Undefines n) = Unit {0}
  EntryHas N (Child omitted ls n body) = All N ls × N n × BodyHas N body
  EntryHas N (Removes n) = Unit {0}

  pub BodyHas : (List ℕ → Type 0) → Body (List Piece) → Type 0
  BodyHas N Done = Unit {0}
  BodyHas N (Then e others) = EntryHas N e × BodyHas N others

abbrev pub EditHas : (List ℕ → Type 0) → Edit → Type 0
EditHas N (Rooted body) = BodyHas N body
EditHas N (Extends ls target body) = All N ls × TargetHas N target × BodyHas N body
EditHas N (Deletes target) = Unit {0}
EditHas N (Omits target) = Unit {0}

-- the names that fragments bring
pub record FragmentsHave (N : List ℕ → Type 0) : Type 0 where
  pub fragment : (n : ℕ) → N (fragment_name n)
  pub overlay : N overlay_name
  pub target : (t : Target) → N (target_name t)

-- ---- what a resolved tree can hold
pub record IsSoundState (N : List ℕ → Type 0) (s : State (List Piece)) : Type 0 where
  -- nodes: all names are so, none is deeper than 64, the root isn't listed, none stands twice, and with each the one above it stands
  pub nodes : All (λ p. All N p) s.nodes
  pub shallow : list_any is_too_deep s.nodes ≡ false
  pub no_root : is_listed [] s.nodes ≡ false
  pub once : are_once s.nodes ≡ true
  pub above : (p : Path) (n : List ℕ) → is_listed (p ++ n ∷ []) s.nodes ≡ true → is_listed p ([] ∷ s.nodes) ≡ true
  -- properties: each is at a node, its name and its value's labels are so, and no node has two of one name
  pub owners : All (λ e. has_node e.path s ≡ true) s.properties
  pub names : All (λ e. N e.name) s.properties
  pub values : All (λ e. ValueHas N e.value) s.properties
  pub keys : properties_once s.properties ≡ true
  -- labels: each is at a node and is so, and none stands twice
  pub labelled : All (λ l. has_node l.path s ≡ true) s.labels
  pub labels : All (λ l. N l.label) s.labels
  pub words : label_twice s.labels ≡ false

-- the name passes the test
abbrev pub Passes : (List ℕ → Bool) → List ℕ → Type 0
Passes test n = test n ≡ true

-- ---- the laws
-- the tree that stands when all is read
abbrev pub IsDtcSound : (List ℕ → Type 0) → Meaning → DtcTree → Type 0
IsDtcSound N m t = FragmentsHave N → All (EditHas N) m.items → dtc_edited m ≡ Ok t → IsSoundState N (dtc_state t)

-- whatever its names are
abbrev pub IsAny : List ℕ → Type 0
IsAny n = Unit {0}

abbrev pub IsDtcTree : Meaning → DtcTree → Type 0
IsDtcTree m t = dtc_edited m ≡ Ok t → IsSoundState IsAny (dtc_state t)

-- what is left, whatever goes
abbrev pub IsRestSound : (List ℕ → Type 0) → List Path → State (List Piece) → Type 0
IsRestSound N gone s = IsSoundState N s → IsSoundState N (rest_of gone s)
