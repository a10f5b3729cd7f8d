-- Overlay result: each fragment's nodes and properties under its target, later over earlier, all over the base's; and the overlay's
-- symbols (dt-object-internal, section 3). Names of the base keep their order, new ones follow in order of fragments.
use Rattle.std.specs.Prelude.{ℕ, ◌==◌, Bool, ◌&&◌, List, [], ◌∷◌, ◌++◌, length, map, drop, Option, Some, None, is_some, Result, Ok, Err, if◌then◌else◌, nat_lt, codes, option_map, ok_or}
use Rattle.std.specs.List.{filter, list_any}
use Rattle.std.specs.Str.{bytes_eq}
use Rattle.std.specs.Int.{from_be_bytes, w32}
use Rattle.dt_tree.specs.Steps.{then_do, fold}
use Rattle.dt_tree.specs.Path.{path_text}
use Rattle.dt_source.specs.TreeMeaning.Paths.{Path, same_path, is_within, is_listed}
use Rattle.dt_source.specs.TreeMeaning.Names.{overlay_name, symbols_name}
use Rattle.dt_source.specs.TreeMeaning.Edits.{definition, put}
use Rattle.dt_source.specs.TreeMeaning.Phandles.{PathPhandle}
use Rattle.dt_source.specs.TreeMeaning.Resolved.{Resolved, is_too_deep}
use Rattle.dt_source.specs.TreeMeaning.MapOf.{is_there, value_in}
use Rattle.dt_source.specs.OverlayMeaning.Fault.{Fault, NoTarget, PhandleClash, TooDeep}
use Rattle.dt_source.specs.OverlayMeaning.Texts.{ended_path}
use Rattle.dt_source.specs.OverlayMeaning.Shifted.{Value, phandles, fragments, shifted_overlay}

-- ---- targets: nodes of the base as it was
abbrev pub first_with : ℕ → List PathPhandle → Option Path
first_with n [] = None
first_with n (x ∷ xs) = if x.phandle == n then Some x.path else first_with n xs

abbrev pub standing : Resolved → Option Path → Option Path
standing base None = None
standing base (Some p) = if is_there base p then Some p else None

-- by `target`, and where that property isn't there by `target-path`
abbrev pub target_by : Resolved → Option (List ℕ) → Option (List ℕ) → Option Path
target_by base (Some v) w = if length v == 4 then first_with (from_be_bytes w32 v) (phandles base.properties) else None
target_by base None None = None
target_by base None (Some w) = standing base (ended_path w)

abbrev pub target : Resolved → Resolved → List ℕ → Option Path
target base over f = target_by base (value_in over.properties (f ∷ []) (codes "target")) (value_in over.properties (f ∷ []) (codes "target-path"))

-- ---- a fragment's nodes and properties, with the target's path in front
abbrev pub body : List ℕ → Path
body f = f ∷ overlay_name ∷ []

abbrev pub moved : Path → Path → Path
moved t q = t ++ drop 2 q

abbrev pub moved_value : Path → Value → Value
moved_value t e = definition (moved t e.path) e.name e.value

abbrev pub part_of : Resolved → List ℕ → Path → Resolved
part_of over f t = record {
  nodes = map (moved t) (filter (λ q. is_within (body f) q && nat_lt 2 (length q)) over.nodes);
  properties = map (moved_value t) (filter (λ e. is_within (body f) e.path) over.properties);
}

-- ---- the union: what is there keeps its place, what is new goes last
abbrev pub with_node : Path → List Path → List Path
with_node p ps = if is_listed p ps then ps else ps ++ p ∷ []

abbrev pub with_nodes : List Path → List Path → List Path
with_nodes [] ps = ps
with_nodes (q ∷ qs) ps = with_nodes qs (with_node q ps)

abbrev pub with_values : List Value → List Value → List Value
with_values [] es = es
with_values (d ∷ ds) es = with_values ds (put d.path d.name d.value es)

-- a phandle over one that is there
abbrev pub clashes : List Value → Value → Bool
clashes es e = bytes_eq e.name (codes "phandle") && is_some (value_in es e.path e.name)

abbrev pub merged : Resolved → Resolved → Result Resolved Fault
merged part t =
    if list_any (clashes t.properties) part.properties then Err PhandleClash
    else (if list_any is_too_deep part.nodes then Err TooDeep
    else Ok (record { nodes = with_nodes part.nodes t.nodes; properties = with_values part.properties t.properties }))

abbrev pub with_fragment : Resolved → Resolved → List ℕ → Resolved → Result Resolved Fault
with_fragment base over f t = then_do (ok_or (target base over f) NoTarget) (λ p. merged (part_of over f p) t)

-- ---- symbols
-- a path that begins in a fragment, from its target on
abbrev pub symbol_path : Resolved → Resolved → Option Path → Option Path
symbol_path base over (Some (f ∷ o ∷ p)) =
    if bytes_eq o overlay_name && is_listed (body f) over.nodes then option_map (λ t. t ++ p) (target base over f) else None
symbol_path base over _ = None

abbrev pub with_symbol_at : Option Path → List ℕ → Resolved → Resolved
with_symbol_at None n t = t
with_symbol_at (Some p) n t = record {
  nodes = with_node (symbols_name ∷ []) t.nodes;
  properties = put (symbols_name ∷ []) n (path_text p ++ 0 ∷ []) t.properties;
}

abbrev pub with_symbols : Resolved → Resolved → List Value → Resolved → Resolved
with_symbols base over [] t = t
with_symbols base over (e ∷ es) t = with_symbols base over es (with_symbol_at (symbol_path base over (ended_path e.value)) e.name t)

-- ---- all together
abbrev pub overlay_result : Resolved → Resolved → Result Resolved Fault
overlay_result base over =
    then_do (shifted_overlay base over) (λ o.
    then_do (fold (with_fragment base o) (fragments o) base) (λ t.
    Ok (with_symbols base o (filter (λ e. same_path (symbols_name ∷ []) e.path) o.properties) t)))
