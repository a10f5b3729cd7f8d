-- The symbols of an overlay, row by row.
use Rattle.std.proofs.Common.{◌≡◌, ℕ, ◌+◌, ◌<◌, Bool, true, false, List, [], ◌∷◌, ◌++◌, map, length, drop, All, cond, sym, ap, ◌∙◌, append_assoc}
use Rattle.std.specs.List.{filter, flat_map}
use Rattle.std.proofs.lemmas.List.{at_drop_more, map-append}
use Rattle.std.proofs.lemmas.List.Elements.{All-append, All-cons, All-nil}
use Rattle.dt_tree.specs.Name.{is_name}
use Rattle.dt_source.specs.TreeMeaning.Paths.{same_path}
use Rattle.dt_source.specs.TreeMeaning.Names.{symbols_name}
use Rattle.dt_source.specs.TreeMeaning.Edits.{definition}
use Rattle.dt_source.specs.TreeMeaning.Resolved.{Resolved}
use Rattle.dt_live.specs.declared.live_tree.PropertyRow.{PropertyRow}
use Rattle.dt_live.specs.Rows.{no_property, property_at, path_of}
use Rattle.dt_live.specs.Flattened.{Lent}
use Rattle.dt_overlay.specs.declared.fixup.patched_overlay.PatchedOverlay.{PatchedOverlay}
use Rattle.dt_overlay.specs.Fixup.PatchedOverlay.{patched_lists, patched_from, value_at}
use Rattle.dt_source.specs.OverlayMeaning.Applied.{symbol_path}
use Rattle.dt_source.specs.OverlayMeaning.Shifted.{Value}
use Rattle.dt_source.specs.OverlayMeaning.Texts.{ended_path}
use Rattle.dt_overlay.specs.declared.symbols.Symbol.{Symbol}
use Rattle.dt_overlay.specs.Private.Symbols.{symbol_at, symbol_value}
use Rattle.dt_overlay.proofs.SymbolLengths.{symbols_from}

-- ---- names
pub all-more : (xs : List Symbol) (x : Symbol) → All (λ s. is_name s.name.now ≡ true) xs → is_name x.name.now ≡ true → All (λ s. is_name s.name.now ≡ true) (xs ++ x ∷ [])
all-more xs x all one = All-append (λ s. is_name s.name.now ≡ true) xs (x ∷ []) all (All-cons (λ s. is_name s.name.now ≡ true) x [] one (All-nil (λ s. is_name s.name.now ≡ true)))

-- ---- values
module _ (base : Resolved) (s : PatchedOverlay) (k : ℕ) (below : k < length s.live.properties.items) where
  abbrev row : PropertyRow Lent
  row = property_at s.live.properties.items k

  abbrev one : List Value
  one = symbol_at row.name.now (symbol_path base (patched_lists s) (ended_path (value_at s k)))

  abbrev rest : List Value
  rest = symbols_from base s (k + 1) (drop (k + 1) s.live.properties.items)

  opened : symbols_from base s k (drop k s.live.properties.items) ≡ symbols_from base s k (row ∷ drop (k + 1) s.live.properties.items)
  opened = at_drop_more (λ (ys : List (PropertyRow Lent)). symbols_from base s k ys) s.live.properties.items k no_property below

  by-test : (t : Bool) → same_path (symbols_name ∷ []) (path_of s.live.nodes.items row.node) ≡ t
      → symbols_from base s k (drop k s.live.properties.items) ≡ (cond t one []) ++ rest
  by-test true is =
      let others = filter (λ e. same_path (symbols_name ∷ []) e.path) (patched_from (path_of s.live.nodes.items) (value_at s) (k + 1) (drop (k + 1) s.live.properties.items)) in
      opened ∙ ap (λ t. flat_map (λ e. symbol_at e.name (symbol_path base (patched_lists s) (ended_path e.value))) (cond t (definition (path_of s.live.nodes.items row.node) row.name.now (value_at s k) ∷ others) others)) is
  by-test false is =
      let others = filter (λ e. same_path (symbols_name ∷ []) e.path) (patched_from (path_of s.live.nodes.items) (value_at s) (k + 1) (drop (k + 1) s.live.properties.items)) in
      opened ∙ ap (λ t. flat_map (λ e. symbol_at e.name (symbol_path base (patched_lists s) (ended_path e.value))) (cond t (definition (path_of s.live.nodes.items row.node) row.name.now (value_at s k) ∷ others) others)) is

  -- a row of another node
  pub other-row : (xs : List Symbol) (whole : List Value) → same_path (symbols_name ∷ []) (path_of s.live.nodes.items row.node) ≡ false
      → map symbol_value xs ++ symbols_from base s k (drop k s.live.properties.items) ≡ whole → map symbol_value xs ++ rest ≡ whole
  other-row xs whole is so = ap (λ ys. map symbol_value xs ++ ys) (sym (by-test false is)) ∙ so

  -- a row whose path begins in no fragment
  pub no-symbol : (xs : List Symbol) (whole : List Value) → same_path (symbols_name ∷ []) (path_of s.live.nodes.items row.node) ≡ true → [] ≡ one
      → map symbol_value xs ++ symbols_from base s k (drop k s.live.properties.items) ≡ whole → map symbol_value xs ++ rest ≡ whole
  no-symbol xs whole is none so = ap (λ ys. map symbol_value xs ++ (ys ++ rest)) none ∙ ap (λ ys. map symbol_value xs ++ ys) (sym (by-test true is)) ∙ so

  -- a symbol more
  pub one-symbol : (xs : List Symbol) (x : Symbol) (whole : List Value) → same_path (symbols_name ∷ []) (path_of s.live.nodes.items row.node) ≡ true → symbol_value x ∷ [] ≡ one
      → map symbol_value xs ++ symbols_from base s k (drop k s.live.properties.items) ≡ whole → map symbol_value (xs ++ x ∷ []) ++ rest ≡ whole
  one-symbol xs x whole is at so =
      ap (λ ys. ys ++ rest) (map-append symbol_value xs (x ∷ [])) ∙ append_assoc (map symbol_value xs) (symbol_value x ∷ []) rest
      ∙ ap (λ ys. map symbol_value xs ++ (ys ++ rest)) at ∙ ap (λ ys. map symbol_value xs ++ ys) (sym (by-test true is)) ∙ so
