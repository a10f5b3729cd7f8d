-- Overlay result, path by path: the union of the base's map and of the map of each fragment's `__overlay__` with its target's path in
-- front, and then the symbols (dt-object-internal, section 3). `union` and `placed` are those by which one tree is merged into another.
use Rattle.std.specs.Prelude.{◌≡◌, ◌<◌, ℕ, true, List, [], ◌∷◌, ◌++◌, length, Option, Some, None, is_some, Ok, if◌then◌else◌, codes}
use Rattle.std.specs.List.{filter}
use Rattle.dt_tree.specs.Changes.{with_child, with_property}
use Rattle.dt_tree.specs.Merged.{placed, union}
use Rattle.dt_tree.specs.Path.{path_text}
use Rattle.dt_tree.specs.NodeData.{NodeData}
use Rattle.dt_tree.specs.PathMap.{PathMap, path_map}
use Rattle.dt_tree.specs.Preorder.{part_below}
use Rattle.dt_source.specs.TreeMeaning.MapOf.{map_of}
use Rattle.dt_source.specs.TreeMeaning.Names.{overlay_name, symbols_name}
use Rattle.dt_source.specs.TreeMeaning.Paths.{Path, same_path}
use Rattle.dt_source.specs.TreeMeaning.Resolved.{Resolved}
use Rattle.dt_live.specs.Builder.Lists.{lists_of}
use Rattle.dt_source.specs.OverlayMeaning.Applied.{symbol_path, target}
use Rattle.dt_source.specs.OverlayMeaning.Fault.{Fault, NoTarget, PhandleClash, TooDeep}
use Rattle.dt_source.specs.OverlayMeaning.Shifted.{Value, fragments, shifted_overlay}
use Rattle.dt_source.specs.OverlayMeaning.Texts.{ended_path}

abbrev pub Map : Type 0
Map = PathMap (List ℕ)

-- ---- fragments
-- the map of a fragment's node `__overlay__`
abbrev pub overlay_map : Resolved → List ℕ → Map
overlay_map over f = part_below (part_below (map_of over) f) overlay_name

-- that map with the path of the fragment's target in front, which is a node of the base as it was
pub record IsPlaced (base over : Resolved) (f : List ℕ) (g : Map) : Type 0 where
  pub path : Path
  pub found : target base over f ≡ Some path
  pub map : g ≡ placed path (overlay_map over f)

-- a phandle of the second would stand over one of the first
abbrev pub Clashes : Map → Map → Type 0
Clashes m g = (q : Path) × (is_some (m.value q (codes "phandle")) ≡ true) × (is_some (g.value q (codes "phandle")) ≡ true)

-- a node is more than 64 levels down
abbrev pub IsTooDeep : Map → Type 0
IsTooDeep g = (q : Path) × (g.has q ≡ true) × (64 < length q)

-- a map that may be put over another
pub record Fits (m g : Map) : Type 0 where
  pub phandles : Clashes m g → ⊥
  pub levels : IsTooDeep g → ⊥

-- a map and others, later ones over earlier ones
abbrev pub united : Map → List Map → Map
united m [] = m
united m (g ∷ gs) = united (union m g) gs

-- the fragments' maps, in order: each may be put over the map and those before it
abbrev pub AreStacked : Resolved → Resolved → List (List ℕ) → Map → List Map → Type 0
AreStacked base over [] m [] = Unit {0}
AreStacked base over [] m (g ∷ gs) = ⊥
AreStacked base over (f ∷ fs) m [] = ⊥
AreStacked base over (f ∷ fs) m (g ∷ gs) = IsPlaced base over f g × Fits m g × AreStacked base over fs (union m g) gs

-- why a fragment isn't put over a map: 41, 45, 46
abbrev pub IsWhy : Resolved → Resolved → List ℕ → Map → Fault → Type 0
IsWhy base over f m NoTarget = target base over f ≡ None
IsWhy base over f m PhandleClash = (g : Map) × IsPlaced base over f g × Clashes m g
IsWhy base over f m TooDeep = (g : Map) × IsPlaced base over f g × (Clashes m g → ⊥) × IsTooDeep g
IsWhy base over f m _ = ⊥

-- ---- symbols: properties of `/__symbols__`, which is made as the root's last child where it is wanted
abbrev pub with_symbols_node : Map → Map
with_symbols_node m = if m.has (symbols_name ∷ []) then m else with_child [] symbols_name m

-- a symbol whose path begins in a fragment, with the target's path there: in its place or last. Others are left out
abbrev pub with_symbol : List ℕ → Option Path → Map → Map
with_symbol n None m = m
with_symbol n (Some p) m = with_property (symbols_name ∷ []) n (path_text p ++ 0 ∷ []) (with_symbols_node m)

abbrev pub with_symbols : Resolved → Resolved → List Value → Map → Map
with_symbols base over [] m = m
with_symbols base over (e ∷ es) m = with_symbols base over es (with_symbol e.name (symbol_path base over (ended_path e.value)) m)

-- the overlay's own
abbrev pub symbols_in : Resolved → List Value
symbols_in over = filter (λ e. same_path (symbols_name ∷ []) e.path) over.properties

-- ---- all together
-- m is the union of the base and the fragments of the shifted overlay, and then its symbols
pub record IsUnion (base over : NodeData) (m : Map) : Type 0 where
  pub shifted : Resolved
  pub is_shifted : shifted_overlay (lists_of base) (lists_of over) ≡ Ok shifted
  pub maps : List Map
  pub are_stacked : AreStacked (lists_of base) shifted (fragments shifted) (path_map base) maps
  pub map : m ≡ with_symbols (lists_of base) shifted (symbols_in shifted) (united (path_map base) maps)

-- a fragment of the shifted overlay can't be put over the union of the base and the fragments before it
pub record IsRefused (base over : NodeData) (e : Fault) : Type 0 where
  pub shifted : Resolved
  pub is_shifted : shifted_overlay (lists_of base) (lists_of over) ≡ Ok shifted
  pub before : List (List ℕ)
  pub refused : List ℕ
  pub behind : List (List ℕ)
  pub names : fragments shifted ≡ before ++ refused ∷ behind
  pub maps : List Map
  pub are_stacked : AreStacked (lists_of base) shifted before (path_map base) maps
  pub why : IsWhy (lists_of base) shifted refused (united (path_map base) maps) e
