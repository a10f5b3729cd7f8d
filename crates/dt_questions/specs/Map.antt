-- A memory map: the regions of all nodes in the order of their addresses, a line each, as /proc/iomem has them:
-- `09000000-09000fff 4K /uart@9000000 (regs) overlaps /timer@9000800`. A line that begins before the end of what reaches furthest so far
-- tells so, unless one of the two nodes stands above the other, memory holds what is reserved in it, or one of them isn't used.
use Rattle.std.specs.Prelude.{◌≡◌, ℕ, ◌+◌, Bool, not, ◌&&◌, ◌==◌, nat_lt, nat_le, codes, if◌then◌else◌, List, [], ◌∷◌, ◌++◌, length, Option, Some, None}
use Rattle.std.specs.Option.{option_map_or}
use Rattle.dt_check.specs.Nodes.{PlacedData}
use Rattle.dt_questions.specs.Explained.{is_explained}
use Rattle.dt_questions.specs.Nodes.{is_used}
use Rattle.dt_questions.specs.Numbers.{span_text}
use Rattle.dt_questions.specs.Order.{IsOrdered}
use Rattle.dt_questions.specs.Paths.{path_at}
use Rattle.dt_questions.specs.Regions.{RegionData, is_region, regions}

-- ---- lines
abbrev pub start_of : RegionData → ℕ
start_of r = r.start

abbrev pub end_of : RegionData → ℕ
end_of r = r.start + r.size

-- what reaches furthest, of what did and of this one
abbrev pub further : List PlacedData → Option RegionData → RegionData → Option RegionData
further nodes reach r =
    if not (is_used nodes r.node) then reach
    else option_map_or (λ o. if nat_le (end_of o) (end_of r) then Some r else Some o) reach (Some r)

abbrev pub overlap : List PlacedData → RegionData → RegionData → Bool
overlap nodes o r = nat_lt r.start (end_of o) && not (is_explained nodes o.node r.node)

abbrev pub reach_text : List PlacedData → RegionData → RegionData → List ℕ
reach_text nodes r o = if overlap nodes o r then codes " overlaps " ++ path_at nodes o.node else []

abbrev pub overlap_text : List PlacedData → Option RegionData → RegionData → List ℕ
overlap_text nodes reach r = if is_used nodes r.node then option_map_or (reach_text nodes r) reach [] else codes " disabled"

abbrev pub name_text : List ℕ → List ℕ
name_text name = if length name == 0 then [] else codes " (" ++ name ++ 41 ∷ []

abbrev pub region_text : List PlacedData → Option RegionData → RegionData → List ℕ
region_text nodes reach r =
    span_text r.start r.size ++ 32 ∷ [] ++ path_at nodes r.node ++ name_text r.name ++ overlap_text nodes reach r ++ 10 ∷ []

-- the lines of these regions, behind those of which this one reaches furthest
abbrev pub lines_from : List PlacedData → Option RegionData → List RegionData → List ℕ
lines_from nodes reach [] = []
lines_from nodes reach (r ∷ rs) = region_text nodes reach r ++ lines_from nodes (further nodes reach r) rs

-- ---- what the blob itself reserves (section 5.3), in its order
abbrev pub reserve_text : ℕ × ℕ → List ℕ
reserve_text r = if is_region r.0 r.1 then span_text r.0 r.1 ++ codes " reserved\n" else []

abbrev pub reserves_text : List (ℕ × ℕ) → List ℕ
reserves_text [] = []
reserves_text (r ∷ rs) = reserve_text r ++ reserves_text rs

-- a text has what is reserved, and the regions of all nodes
pub record TellsMap (nodes : List PlacedData) (reserves : List (ℕ × ℕ)) (text : List ℕ) : Type 0 where
  pub rows : List RegionData
  pub ordered : IsOrdered start_of (regions nodes) rows
  pub told : text ≡ reserves_text reserves ++ lines_from nodes None rows
