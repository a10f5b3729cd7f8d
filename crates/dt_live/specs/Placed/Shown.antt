-- What stands of a placed tree, as a live tree (Devicetree Specification v0.4, section 6.3; where it is silent, dtc 1.6.1, tried by hand).
use Rattle.std.specs.Prelude.{◌≡◌, ℕ, suc, ◌≤◌, true, false, All, List, [], length, map, Option, Some, None, slice_index_or}
use Rattle.dt_source.specs.TreeMeaning.Paths.{Path, is_listed}
use Rattle.dt_source.specs.TreeMeaning.Edits.{Definition, State}
use Rattle.dt_live.specs.declared.live_tree.LiveTree.{LiveTree}
use Rattle.dt_live.specs.Rows.{Found, IsLiveTree, IsNode, is_standing, standing, state_of}
use Rattle.dt_live.specs.Rows as live
use Rattle.dt_live.specs.declared.placed.place.Place.{Place}
use Rattle.dt_live.specs.declared.placed.shown.Shown.{Shown}
use Rattle.dt_live.specs.Placed.Rows.{holds, path_of, place_at}
use Rattle.dt_live.specs.Placed.Tables.{IsTable}
use Rattle.dt_live.specs.Placed.PlacedTrees.{IsOwner}

-- what is true of the rows of nodes
pub record AreNodeRows {X : Type 0} (nodes : List (Place X)) (found : Found) : Type 0 where
  pub table : IsTable nodes found
  pub grown : (k : ℕ) → (place_at nodes k).owner ≤ k
  pub owners : (k : ℕ) → IsOwner nodes found (place_at nodes k).owner

-- the paths of the first nodes that stand, in the order of their places
abbrev pub first_standing : {X : Type 0} → List (Place X) → ℕ → List Path
first_standing nodes n = standing (path_of nodes) (holds nodes) n

-- the number of a node in the live tree, none where it doesn't stand
abbrev pub number_at : List (Option ℕ) → ℕ → Option ℕ
number_at numbers k = slice_index_or numbers k None

-- node k of the placed tree is node m of the live tree
pub record IsShownAt {X W : Type 0} (nodes : List (Place X)) (d : LiveTree W) (k m : ℕ) : Type 0 where
  pub known : k ≤ length nodes
  pub stands : holds nodes k ≡ true
  pub node : IsNode d m
  pub there : is_standing d m ≡ true
  pub path : live.node_path d m ≡ path_of nodes k

-- nodes alone
abbrev pub bare : {W : Type 0} → List Path → State W
bare nodes = record { nodes = nodes; properties = []; labels = []; fragments = 0 }

-- of the first nodes each that stands has its number, and no other one has
pub record AreNumbered {X W : Type 0} (nodes : List (Place X)) (n : ℕ) (s : Shown W) : Type 0 where
  pub sound : IsLiveTree s.live
  pub count : length s.numbers.items ≡ suc n
  pub here : (k m : ℕ) → number_at s.numbers.items k ≡ Some m → IsShownAt nodes s.live k m
  pub gone : (k : ℕ) → k ≤ n → number_at s.numbers.items k ≡ None → holds nodes k ≡ false

-- the first nodes are shown, and nothing else
pub record AreShown {X W : Type 0} (nodes : List (Place X)) (n : ℕ) (s : Shown W) : Type 0 where
  pub numbered : AreNumbered nodes n s
  pub state : state_of s.live ≡ bare (first_standing nodes n)

-- the next node is defined, if it stands
pub record Defines {X W : Type 0} (nodes : List (Place X)) (row : ℕ) (old new : Shown W) (number : Option ℕ) : Type 0 where
  pub sound : IsLiveTree new.live
  pub numbers : new.numbers.items ≡ old.numbers.items
  pub kept : (k m : ℕ) → IsShownAt nodes old.live k m → IsShownAt nodes new.live k m
  pub here : (m : ℕ) → number ≡ Some m → IsShownAt nodes new.live (suc row) m
  pub gone : number ≡ None → holds nodes (suc row) ≡ false
  pub state : state_of new.live ≡ bare (first_standing nodes (suc row))

-- a property whose value is its node, which stands
pub record IsOwn {X : Type 0} (nodes : List (Place X)) (e : Definition ℕ) : Type 0 where
  pub known : e.value ≤ length nodes
  pub stands : holds nodes e.value ≡ true
  pub path : e.path ≡ path_of nodes e.value

-- some nodes are shown, and each of them has itself as the value of a property
pub record HasNodes {X : Type 0} (nodes : List (Place X)) (chosen : List ℕ) (s : Shown ℕ) : Type 0 where
  pub numbered : AreNumbered nodes (length nodes) s
  pub nodes_shown : (state_of s.live).nodes ≡ first_standing nodes (length nodes)
  pub right : All (IsOwn nodes) (state_of s.live).properties
  pub listed : (p : Path) → is_listed p (map (λ e. e.path) (state_of s.live).properties) ≡ is_listed p (map (path_of nodes) chosen)
