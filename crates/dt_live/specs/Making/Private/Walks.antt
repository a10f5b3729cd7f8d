-- How far a tree is made (Devicetree Specification v0.4, section 6.3).
use Rattle.std.specs.Prelude.{◌≡◌, ◌++◌, ℕ, List, length, Option, Vec}
use Rattle.std.specs.Global.{Global}
use Rattle.dt_tree.specs.declared.property.Property.{Property}
use Rattle.dt_source.specs.TreeMeaning.Paths.{Path}
use Rattle.dt_live.specs.Builder.Lists.{defined_at}
use Rattle.dt_live.specs.Builder.Private.Making.{IsMade}
use Rattle.dt_live.specs.declared.live_tree.LiveTree.{LiveTree}
use Rattle.dt_live.specs.declared.preorder.Preorder.{Preorder}
use Rattle.dt_live.specs.declared.preorder.properties.NodeProperty.{NodeProperty}
use Rattle.dt_live.specs.Making.Made.{IsRest, Made, entries, phandle_at, values_in}
use Rattle.dt_live.specs.declared.making.making.Walk.{Walk}

-- so many values are next, and these are their bytes
abbrev pub AreNext : {V : Type 0} → (List V → List (List ℕ)) → (List V → List (List ℕ)) → List (NodeProperty V) → List (List ℕ) → Type 0
AreNext {V} old new run bs = (vs : List V) → old (values_in run ++ vs) ≡ bs ++ new vs

-- the properties of a node whose run this is, with a new phandle last
pub record AreOfNode {V : Type 0} (old new : List V → List (List ℕ)) (run : List (NodeProperty V)) (phandle : Option ℕ) (list : Vec Property Global) : Type 0 where
  pub values : List (List ℕ)
  pub count : length values ≡ length run
  pub next : AreNext old new run values
  pub properties : (q : Path) → defined_at q list.items ≡ entries (λ _. q) run values ++ phandle_at q phandle

-- the properties of node n, as what makes the values makes them
abbrev pub AreMade : {S V : Type 0} → (S → Made) → (S → List V → List (List ℕ)) → S → S → ℕ → List (NodeProperty V) → Vec Property Global → Type 0
AreMade made bytes_of old new n run list = AreOfNode (bytes_of old) (bytes_of new) run ((made old).new_phandle n) list

pub record IsWalk {V : Type 0} (d : LiveTree V) (y : Preorder V) (m : Made) (bytes_of : List V → List (List ℕ)) (walk : Walk) : Type 0 where
  pub made : IsMade m.lists walk.node walk.builder
  pub rest : IsRest d y m bytes_of walk.node walk.property
