-- What a plan by links is made of.
use Rattle.std.specs.Prelude.{◌≡◌, ℕ, Bool, if◌then◌else◌, List, None}
use Rattle.dt_tree.specs.NodeData.{NodeData}
use Rattle.bus_plan.specs.Plan.{PlannedDevice}
use Rattle.bus_drivers.specs.Nodes.{tree_devices}
use Rattle.bus_plan.specs.Reach.Components.{AreComponents}
use Rattle.bus_links.specs.LinkDrivers.{LinkDriversData}
use Rattle.bus_links.specs.LinkPlan.{is_relaxed, counted_plan, relaxed_plan, late_plan, tree_refusal}
use Rattle.bus_links.specs.Links.{LinkData, WarningData, flags, flag_at, tree_links, tree_warnings}
use Rattle.bus_links.specs.declared.linked.Standing.{Standing}
use Rattle.bus_links.specs.declared.linked.Standing.TheVariants.{Needed, Early, Relaxed}

-- the plan, that behind the timeout, the links of each device, the warnings, which devices are early, and each device's component
pub record LinkedData : Type 0 where
  pub plan : List PlannedDevice
  pub late : List PlannedDevice
  pub links : List (List LinkData)
  pub warnings : List WarningData
  pub early : List Bool
  pub components : List ℕ

-- whether a link is waited for
abbrev pub standing_of : List Bool → List ℕ → LinkData → Standing
standing_of early components l = if flag_at early l.supplier then Early else (if is_relaxed components l then Relaxed else Needed)

-- what is made of a tree, by its root: two devices have one component exactly where each takes the other in the plan of all links that
-- count
pub record MakesLinked (root : NodeData) (set : LinkDriversData) (strict : Bool) (l : LinkedData) : Type 0 where
  pub links : l.links ≡ tree_links root set strict
  pub warnings : l.warnings ≡ tree_warnings root set strict
  pub early : l.early ≡ flags set.early (tree_devices root)
  pub cycles : AreComponents (counted_plan root set strict) l.components
  pub plan : l.plan ≡ relaxed_plan root set strict l.components
  pub late : l.late ≡ late_plan root set strict l.components l.plan

-- what linking a tree answers: that, where there is no refusal
pub record IsLinked (root : NodeData) (set : LinkDriversData) (strict : Bool) (l : LinkedData) : Type 0 where
  pub lawful : tree_refusal root set.drivers ≡ None
  pub made : MakesLinked root set strict l
