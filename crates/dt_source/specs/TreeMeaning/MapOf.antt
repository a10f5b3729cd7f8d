-- The path map of a resolved tree, read off its lists.
use Rattle.std.specs.Prelude.{ℕ, Bool, List, [], ◌∷◌, map, Option, Some, None, if◌then◌else◌}
use Rattle.std.specs.List.{filter, filter_map}
use Rattle.dt_tree.specs.PathMap.{PathMap, TreeMap}
use Rattle.dt_tree.specs.TreeData.{is_reserve}
use Rattle.dt_source.specs.TreeMeaning.Paths.{Path, is_listed, name_below}
use Rattle.dt_source.specs.TreeMeaning.Syntax.{Meaning}
use Rattle.dt_source.specs.TreeMeaning.Edits.{Definition, is_of}
use Rattle.dt_source.specs.TreeMeaning.References.{held}
use Rattle.dt_source.specs.TreeMeaning.Resolved.{Resolved}

abbrev pub is_there : Resolved → Path → Bool
is_there r p = is_listed p ([] ∷ r.nodes)

abbrev pub value_in : List (Definition (List ℕ)) → Path → List ℕ → Option (List ℕ)
value_in [] p n = None
value_in (e ∷ es) p n = if is_of p n e then Some e.value else value_in es p n

abbrev pub map_of : Resolved → PathMap (List ℕ)
map_of r = record {
  has = λ p. is_there r p;
  properties = λ p. if is_there r p then Some (map (λ e. e.name) (held r.properties p)) else None;
  children = λ p. if is_there r p then Some (filter_map (name_below p) r.nodes) else None;
  value = λ p n. if is_there r p then value_in r.properties p n else None;
}

-- the tree of a source: its reservations without (0, 0), and the processor 0
abbrev pub tree_map_of : Meaning → Resolved → TreeMap
tree_map_of m r = record { nodes = map_of r; reserves = filter is_reserve m.reserves; boot_cpu = 0 }
