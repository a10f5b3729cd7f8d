-- The arrows of a picture: one for each link, from the consumer to the supplier (Linux driver-api, "Device links").
use Rattle.std.specs.Prelude.{◌≡◌, ℕ, ◌+◌, ◌==◌, Bool, if◌then◌else◌, List, [], ◌∷◌, ◌++◌, flat_map}
use Rattle.bus_core.specs.Due.{devices}
use Rattle.bus_plan.specs.Plan.{PlannedDevice, suppliers_of}
use Rattle.bus_plan.specs.Reach.Components.{AreComponents, component_of}
use Rattle.bus_links.specs.Links.{LinkData}
use Rattle.bus_links.specs.LinkPlan.{links_at}
use Rattle.bus_links.specs.Linked.{LinkedData, standing_of}
use Rattle.bus_links.specs.declared.linked.Standing.{Standing}
use Rattle.bus_links.specs.declared.linked.Standing.TheVariants as standing
use Rattle.bus_picture.specs.declared.arrows.Arrow.{Arrow}
use Rattle.bus_picture.specs.declared.arrows.Tie.{Tie}
use Rattle.bus_picture.specs.declared.arrows.Tie.TheVariants.{Needed, Cyclic, Early}

-- ---- by the links of Linux
abbrev pub tie_of : Standing → Tie
tie_of standing.Needed = Needed
tie_of standing.Relaxed = Cyclic
tie_of standing.Early = Early

-- that of a link, which stands at this place among the links of its consumer
abbrev pub link_arrow : List Bool → List ℕ → ℕ → LinkData → Arrow
link_arrow early components place l =
    record { consumer = l.consumer; supplier = l.supplier; tie = tie_of (standing_of early components l); link = place }

-- those of these links, the first of which has this place
abbrev pub link_arrows : List Bool → List ℕ → ℕ → List LinkData → List Arrow
link_arrows early components place [] = []
link_arrows early components place (l ∷ ls) = link_arrow early components place l ∷ link_arrows early components (place + 1) ls

-- those of a device
abbrev pub arrows_at : LinkedData → ℕ → List Arrow
arrows_at linked d = link_arrows linked.early linked.components 0 (links_at linked.links d)

abbrev pub linked_arrows : LinkedData → List Arrow
linked_arrows linked = flat_map (arrows_at linked) (devices linked.plan)

-- ---- of a plan alone
-- that to the supplier at this place among those of the consumer: in a cycle where the two have one component
abbrev pub supplier_arrow : List ℕ → ℕ → ℕ → ℕ → Arrow
supplier_arrow components d place s =
    record { consumer = d; supplier = s; tie = if component_of components d == component_of components s then Cyclic else Needed; link = place }

abbrev pub supplier_arrows : List ℕ → ℕ → ℕ → List ℕ → List Arrow
supplier_arrows components d place [] = []
supplier_arrows components d place (s ∷ more) = supplier_arrow components d place s ∷ supplier_arrows components d (place + 1) more

abbrev pub planned_at : List PlannedDevice → List ℕ → ℕ → List Arrow
planned_at plan components d = supplier_arrows components d 0 (suppliers_of plan d)

-- by some numbers of components
pub record ArePlanned (plan : List PlannedDevice) (arrows : List Arrow) : Type 0 where
  pub components : List ℕ
  pub are : AreComponents plan components
  pub arrows_are : arrows ≡ flat_map (planned_at plan components) (devices plan)
