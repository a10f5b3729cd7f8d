-- What merging a node makes of a path map: the union of the two, path by path (Devicetree Specification v0.4, section 6.3).
use Rattle.std.specs.Prelude.{ℕ, ◌+◌, not, ◌&&◌, ◌||◌, List, ◌++◌, drop, filter, length, Option, Some, None, if◌then◌else◌, nat_lt}
use Rattle.dt_tree.specs.declared.error.TreeError.{TreeError}
use Rattle.dt_tree.specs.declared.error.TreeError.TheVariants.{TooDeep, NoSuchPath}
use Rattle.dt_tree.specs.Limits.{depth_limit}
use Rattle.dt_tree.specs.Changes.{is_within}
use Rattle.dt_tree.specs.NodeData.{NodeData, height_of}
use Rattle.dt_tree.specs.PathMap.{PathMap, path_map}
use Rattle.dt_tree.specs.Sound.{is_among}

-- what is there keeps its place, what is new follows in its own order
abbrev pub joined_names : List (List ℕ) → List (List ℕ) → List (List ℕ)
joined_names ns ms = ns ++ filter (λ m. not (is_among m ns)) ms

abbrev pub joined : Option (List (List ℕ)) → Option (List (List ℕ)) → Option (List (List ℕ))
joined None ms = ms
joined (Some ns) None = Some ns
joined (Some ns) (Some ms) = Some (joined_names ns ms)

-- the first of two, where it is there
abbrev pub first_of : {V : Type 0} → Option V → Option V → Option V
first_of None v = v
first_of (Some w) v = Some w

-- both maps; the second one's values stand over the first one's
abbrev pub union : {V : Type 0} → PathMap V → PathMap V → PathMap V
union m g = record {
  has = λ q. m.has q || g.has q;
  properties = λ q. joined (m.properties q) (g.properties q);
  children = λ q. joined (m.children q) (g.children q);
  value = λ q j. first_of (g.value q j) (m.value q j);
}

abbrev pub where_within : {A : Type 0} → List (List ℕ) → List (List ℕ) → Option A → Option A
where_within path q a = if is_within path q then a else None

-- the map with a path in front of each of its paths
abbrev pub placed : {V : Type 0} → List (List ℕ) → PathMap V → PathMap V
placed path g = record {
  has = λ q. is_within path q && g.has (drop (length path) q);
  properties = λ q. where_within path q (g.properties (drop (length path) q));
  children = λ q. where_within path q (g.children (drop (length path) q));
  value = λ q j. where_within path q (g.value (drop (length path) q) j);
}

-- the map with a node merged into the one at the path
abbrev pub with_merged : List (List ℕ) → NodeData → PathMap (List ℕ) → PathMap (List ℕ)
with_merged path b m = union m (placed path (path_map b))

-- why a node can't be merged there
abbrev pub merge_fault : {V : Type 0} → PathMap V → List (List ℕ) → NodeData → Option TreeError
merge_fault m path b =
    if not (m.has path) then Some NoSuchPath
    else (if nat_lt depth_limit (length path + height_of b.children) then Some TooDeep else None)
