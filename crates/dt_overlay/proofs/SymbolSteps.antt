-- An overlay's symbols, one after the other.
use Rattle.std.proofs.Common.{◌≡◌, ℕ, ◌+◌, ◌<◌, true, List, [], ◌∷◌, ◌++◌, length, get_or, drop, map, Option, Some, None, refl, sym, ap, ◌∙◌}
use Rattle.std.specs.List.{list_all}
use Rattle.std.proofs.lemmas.List.{at_drop_more}
use Rattle.dt_tree.specs.Name.{is_name, are_names}
use Rattle.dt_source.specs.TreeMeaning.Edits.{definition}
use Rattle.dt_source.specs.TreeMeaning.Names.{symbols_name}
use Rattle.dt_live.specs.ByRow.{is_named}
use Rattle.dt_overlay.specs.declared.symbols.Symbol.{Symbol}
use Rattle.dt_overlay.proofs.Lawful.{IsLawful, node-lawful, put-lawful}
use Rattle.dt_source.specs.TreeMeaning.Paths.{Path}
use Rattle.dt_source.specs.TreeMeaning.Resolved.{Resolved}
use Rattle.dt_source.specs.OverlayMeaning.Applied.{symbol_path, with_symbol_at, with_symbols}
use Rattle.dt_source.specs.OverlayMeaning.Shifted.{Value}
use Rattle.dt_source.specs.OverlayMeaning.Texts.{ended_path}
use Rattle.std.specs.List.{flat_map}
use Rattle.dt_overlay.specs.Private.Symbols.{symbol_at, symbol_value, with_all, with_symbol}

pub symbols-are : (base over : Resolved) (es : List Value) (t : Resolved) → with_symbols base over es t ≡ with_all (flat_map (λ e. symbol_at e.name (symbol_path base over (ended_path e.value))) es) t
symbols-are base over [] t = refl
symbols-are base over (e ∷ es) t = by_path (symbol_path base over (ended_path e.value)) (symbols-are base over es) where
  by_path : (o : Option Path) → ((u : Resolved) → with_symbols base over es u ≡ with_all (flat_map (λ x. symbol_at x.name (symbol_path base over (ended_path x.value))) es) u)
      → with_symbols base over es (with_symbol_at o e.name t) ≡ with_all (symbol_at e.name o ++ flat_map (λ x. symbol_at x.name (symbol_path base over (ended_path x.value))) es) t
  by_path None ih = ih t
  by_path (Some p) ih = ih (with_symbol_at (Some p) e.name t)

-- ---- one symbol more
put-is : (x : Symbol) (old new : Resolved) (v : List ℕ) → v ≡ x.value.items → new ≡ with_symbol (definition (symbols_name ∷ []) x.name.now v) old → new ≡ with_symbol (symbol_value x) old
put-is x old new v is step = step ∙ ap (λ w. with_symbol (definition (symbols_name ∷ []) x.name.now w) old) is

pub lawful-more : (x : Symbol) (old new : Resolved) (xs : List Symbol) (i : ℕ) → is_name (get_or xs i x).name.now ≡ true → x ≡ get_or xs i x → (v : List ℕ) → v ≡ x.value.items
    → new ≡ with_symbol (definition (symbols_name ∷ []) x.name.now v) old → IsLawful old → IsLawful new
lawful-more x old new xs i named at v is step h =
    let made = put-is x old new v is step in
    record {
      nodes = ap (λ r. list_all are_names r.nodes) made ∙ node-lawful (symbols_name ∷ []) old.nodes refl h.nodes;
      properties = ap (λ r. list_all is_named r.properties) made
          ∙ put-lawful (symbols_name ∷ []) x.name.now x.value.items old.properties (ap (λ y. is_name y.name.now) at ∙ named) h.properties;
    }

pub left-more : (xs : List Symbol) (i : ℕ) (x : Symbol) → i < length xs → x ≡ get_or xs i x → (old new : Resolved) (v : List ℕ) → v ≡ x.value.items
    → new ≡ with_symbol (definition (symbols_name ∷ []) x.name.now v) old
    → with_all (map symbol_value (drop (i + 1) xs)) new ≡ with_all (map symbol_value (drop i xs)) old
left-more xs i x below at old new v is step =
    ap (with_all (map symbol_value (drop (i + 1) xs))) (put-is x old new v is step)
    ∙ ap (λ y. with_all (map symbol_value (drop (i + 1) xs)) (with_symbol (symbol_value y) old)) at
    ∙ sym (at_drop_more (λ (ys : List Symbol). with_all (map symbol_value ys) old) xs i x below)
