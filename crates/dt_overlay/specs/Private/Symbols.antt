-- The symbols that an overlay adds (dt-object-internal, section 3).
use Rattle.std.specs.Prelude.{◌≡◌, ℕ, List, [], ◌∷◌, ◌++◌, Option, Some, None, Result, Ok}
use Rattle.std.specs.List.{flat_map, filter}
use Rattle.dt_tree.specs.Steps.{then_do, fold}
use Rattle.dt_tree.specs.Path.{behind_slashes, path_text, text_or_root}
use Rattle.dt_source.specs.TreeMeaning.Paths.{Path, same_path}
use Rattle.dt_source.specs.TreeMeaning.Names.{symbols_name}
use Rattle.dt_source.specs.TreeMeaning.Edits.{definition, put}
use Rattle.dt_source.specs.TreeMeaning.Resolved.{Resolved}
use Rattle.dt_live.specs.declared.live_tree.LiveTree.{LiveTree}
use Rattle.dt_live.specs.declared.live_tree.NodeRow.{NodeRow}
use Rattle.dt_live.specs.Rows.{path_of, property_at}
use Rattle.dt_live.specs.Flattened.{Lent, lists}
use Rattle.dt_source.specs.OverlayMeaning.Applied.{symbol_path, with_fragment, with_node, with_symbols}
use Rattle.dt_source.specs.OverlayMeaning.Fault.{Fault}
use Rattle.dt_source.specs.OverlayMeaning.Shifted.{Value, fragments}
use Rattle.dt_source.specs.OverlayMeaning.Texts.{ended_path}
use Rattle.dt_overlay.specs.declared.fixup.patched_overlay.PatchedOverlay.{PatchedOverlay}
use Rattle.dt_overlay.specs.Fixup.PatchedOverlay.{patched_lists, value_at}
use Rattle.dt_overlay.specs.declared.symbols.Symbol.{Symbol}

-- a symbol's property, where its path begins in a fragment
abbrev pub symbol_at : List ℕ → Option Path → List Value
symbol_at n None = []
symbol_at n (Some p) = definition (symbols_name ∷ []) n (path_text p ++ 0 ∷ []) ∷ []

-- those of an overlay, in order
abbrev pub symbols_of : Resolved → Resolved → List Value
symbols_of base over = flat_map (λ e. symbol_at e.name (symbol_path base over (ended_path e.value))) (filter (λ e. same_path (symbols_name ∷ []) e.path) over.properties)

abbrev pub symbol_value : Symbol → Value
symbol_value s = definition (symbols_name ∷ []) s.name.now s.value.items

-- the property of a symbol, where there is one
abbrev pub values_in : Option Symbol → List Value
values_in None = []
values_in (Some s) = symbol_value s ∷ []

-- a symbol's property, over what is there
abbrev pub with_symbol : Value → Resolved → Resolved
with_symbol e t = record { nodes = with_node (symbols_name ∷ []) t.nodes; properties = put (symbols_name ∷ []) e.name e.value t.properties }

abbrev pub with_all : List Value → Resolved → Resolved
with_all [] t = t
with_all (e ∷ es) t = with_all es (with_symbol e t)

-- all but what is changed by phandles and fixups
abbrev pub applied_over : Resolved → Resolved → Result Resolved Fault
applied_over base over =
    then_do (fold (with_fragment base over) (fragments over) base) (λ t.
    Ok (with_symbols base over (filter (λ e. same_path (symbols_name ∷ []) e.path) over.properties) t))

-- the symbols that an overlay adds to a base
abbrev pub symbols_over : LiveTree Lent → PatchedOverlay → List Value
symbols_over base s = symbols_of (lists base) (patched_lists s)

-- a symbol of a name, as the value of row k says it
abbrev pub symbol_said : LiveTree Lent → PatchedOverlay → ℕ → List ℕ → List Value
symbol_said base s k n = symbol_at n (symbol_path (lists base) (patched_lists s) (ended_path (value_at s k)))

-- the symbol of row k
abbrev pub symbol_by_row : LiveTree Lent → PatchedOverlay → ℕ → List Value
symbol_by_row base s k = symbol_said base s k (property_at s.live.properties.items k).name.now

-- the text of a path below a node, with its zero byte
abbrev pub text_below : List NodeRow → ℕ → List ℕ → List ℕ
text_below nodes node rest = text_or_root (behind_slashes (path_of nodes node) ++ rest) ++ 0 ∷ []

-- a symbol is put over those of a live tree
abbrev pub PutsSymbol : List ℕ → List ℕ → LiveTree Lent → LiveTree Lent → Type 0
PutsSymbol name value old new = lists new ≡ with_symbol (definition (symbols_name ∷ []) name value) (lists old)

-- all but what is changed by phandles and fixups, by rows
abbrev pub applied_rows : LiveTree Lent → PatchedOverlay → Result Resolved Fault
applied_rows base s = applied_over (lists base) (patched_lists s)
