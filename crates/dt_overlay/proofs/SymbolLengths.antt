-- How long the texts of symbols' paths are, and all symbols together.
use Rattle.std.proofs.Common.{◌≡◌, ℕ, ◌+◌, ◌-◌, ◌^◌, ◌<◌, min, true, false, List, [], ◌∷◌, ◌++◌, length, drop, Option, Some, None, cond, refl, ap, ◌∙◌, length-append, arith}
use Rattle.std.specs.List.{filter, flat_map}
use Rattle.std.proofs.lemmas.Bool.Decides.{nat_tests}
use Rattle.std.proofs.lemmas.List.{at_drop_more}
use Rattle.dt_tree.specs.Path.{text_or_root}
use Rattle.dt_source.specs.TreeMeaning.Paths.{Path, same_path}
use Rattle.dt_source.specs.TreeMeaning.Names.{symbols_name}
use Rattle.dt_source.specs.TreeMeaning.Edits.{definition}
use Rattle.dt_source.specs.TreeMeaning.Resolved.{Resolved}
use Rattle.dt_live.specs.declared.live_tree.PropertyRow.{PropertyRow}
use Rattle.dt_live.specs.Rows.{no_property, property_at, path_of}
use Rattle.dt_live.specs.Builder.Sizes.{size_in}
use Rattle.dt_live.proofs.BuilderLemmas.SizesOfMaps.{size-append}
use Rattle.dt_live.specs.Flattened.{Lent}
use Rattle.dt_overlay.specs.declared.fixup.patched_overlay.PatchedOverlay.{PatchedOverlay}
use Rattle.dt_overlay.specs.Fixup.PatchedOverlay.{patched_lists, patched_from, value_at}
use Rattle.dt_source.specs.OverlayMeaning.Applied.{symbol_path}
use Rattle.dt_source.specs.OverlayMeaning.Shifted.{Value}
use Rattle.dt_source.specs.OverlayMeaning.Texts.{ended_path}
use Rattle.dt_overlay.specs.Private.Symbols.{symbol_at}

-- ---- the text of a path
text-some : (b : ℕ) (bs : List ℕ) → text_or_root (b ∷ bs) ≡ b ∷ bs
text-some b bs = grind (arith, nat_tests)

module _ (node_text rest : List ℕ) where
  pub text-root : (names : ℕ) → names ≡ min (min (length node_text) (2 ^ 64 - 1) + length rest) (2 ^ 64 - 1) → names ≡ 0 → 2 ≡ min (length (text_or_root (node_text ++ rest) ++ 0 ∷ [])) (2 ^ 64 - 1)
  text-root names is none = by_text (node_text ++ rest) (omega (arith, is, none, length-append node_text rest)) where
    by_text : (t : List ℕ) → length t ≡ 0 → 2 ≡ min (length (text_or_root t ++ 0 ∷ [])) (2 ^ 64 - 1)
    by_text [] e = omega arith
    by_text (b ∷ bs) e = absurd (omega (arith, e))

  pub text-below : (names sum : ℕ) → names ≡ min (min (length node_text) (2 ^ 64 - 1) + length rest) (2 ^ 64 - 1) → (names ≡ 0 → ⊥) → sum ≡ min (names + 1) (2 ^ 64 - 1)
      → sum ≡ min (length (text_or_root (node_text ++ rest) ++ 0 ∷ [])) (2 ^ 64 - 1)
  text-below names sum is some more = by_text (node_text ++ rest) (omega (arith, length-append node_text rest)) where
    by_text : (t : List ℕ) → length t ≡ length node_text + length rest → sum ≡ min (length (text_or_root t ++ 0 ∷ [])) (2 ^ 64 - 1)
    by_text [] e = absurd (some (omega (arith, is, e)))
    by_text (b ∷ bs) e = omega (arith, is, e, more, ap (λ u. length (u ++ 0 ∷ [])) (text-some b bs), length-append (b ∷ bs) (0 ∷ []))

-- ---- all symbols
module _ (base : Resolved) (s : PatchedOverlay) where
  abbrev path : ℕ → Path
  path = path_of s.live.nodes.items

  abbrev rows : List (PropertyRow Lent)
  rows = s.live.properties.items

  abbrev made : List Value → List Value
  made es = flat_map (λ e. symbol_at e.name (symbol_path base (patched_lists s) (ended_path e.value))) (filter (λ e. same_path (symbols_name ∷ []) e.path) es)

  -- the symbols from a row on
  abbrev pub symbols_from : ℕ → List (PropertyRow Lent) → List Value
  symbols_from k rs = made (patched_from path (value_at s) k rs)

  nameless : (n : List ℕ) (o : Option Path) → size_in (symbol_at n o) ≡ size_in (symbol_at [] o)
  nameless n None = refl
  nameless n (Some p) = refl

  abbrev one : ℕ → ℕ
  one k = size_in (symbol_at [] (symbol_path base (patched_lists s) (ended_path (value_at s k))))

  from-symbol : (k : ℕ) (r : PropertyRow Lent) (rs : List (PropertyRow Lent)) → same_path (symbols_name ∷ []) (path r.node) ≡ true → size_in (symbols_from k (r ∷ rs)) ≡ one k + size_in (symbols_from (k + 1) rs)
  from-symbol k r rs is =
      let o = symbol_path base (patched_lists s) (ended_path (value_at s k)) in
      let rest = filter (λ e. same_path (symbols_name ∷ []) e.path) (patched_from path (value_at s) (k + 1) rs) in
      let first : size_in (symbols_from k (r ∷ rs)) ≡ size_in (symbol_at r.name.now o ++ symbols_from (k + 1) rs) =
      ap (λ t. size_in (flat_map (λ e. symbol_at e.name (symbol_path base (patched_lists s) (ended_path e.value))) (cond t (definition (path r.node) r.name.now (value_at s k) ∷ rest) rest))) is in
      first ∙ size-append (symbol_at r.name.now o) (symbols_from (k + 1) rs) ∙ ap (λ m. m + size_in (symbols_from (k + 1) rs)) (nameless r.name.now o)

  from-other : (k : ℕ) (r : PropertyRow Lent) (rs : List (PropertyRow Lent)) → same_path (symbols_name ∷ []) (path r.node) ≡ false → size_in (symbols_from k (r ∷ rs)) ≡ size_in (symbols_from (k + 1) rs)
  from-other k r rs is =
      let rest = filter (λ e. same_path (symbols_name ∷ []) e.path) (patched_from path (value_at s) (k + 1) rs) in
      ap (λ t. size_in (flat_map (λ e. symbol_at e.name (symbol_path base (patched_lists s) (ended_path e.value))) (cond t (definition (path r.node) r.name.now (value_at s k) ∷ rest) rest))) is

  module _ (k : ℕ) (below : k < length rows) where
    pub size-more : same_path (symbols_name ∷ []) (path (property_at rows k).node) ≡ true → (size part sum whole : ℕ) → part ≡ min (one k) (2 ^ 64 - 1) → sum ≡ min (size + part) (2 ^ 64 - 1)
        → min (size + size_in (symbols_from k (drop k rows))) (2 ^ 64 - 1) ≡ whole → min (sum + size_in (symbols_from (k + 1) (drop (k + 1) rows))) (2 ^ 64 - 1) ≡ whole
    size-more is size part sum whole a b so =
        let all : size_in (symbols_from k (drop k rows)) ≡ one k + size_in (symbols_from (k + 1) (drop (k + 1) rows)) =
        at_drop_more (λ (ys : List (PropertyRow Lent)). size_in (symbols_from k ys)) rows k no_property below ∙ from-symbol k (property_at rows k) (drop (k + 1) rows) is in
        omega (arith, all, a, b, so)

    pub size-same : same_path (symbols_name ∷ []) (path (property_at rows k).node) ≡ false → (size whole : ℕ)
        → min (size + size_in (symbols_from k (drop k rows))) (2 ^ 64 - 1) ≡ whole → min (size + size_in (symbols_from (k + 1) (drop (k + 1) rows))) (2 ^ 64 - 1) ≡ whole
    size-same is size whole so =
        let all : size_in (symbols_from k (drop k rows)) ≡ size_in (symbols_from (k + 1) (drop (k + 1) rows)) =
        at_drop_more (λ (ys : List (PropertyRow Lent)). size_in (symbols_from k ys)) rows k no_property below ∙ from-other k (property_at rows k) (drop (k + 1) rows) is in
        omega (arith, all, so)
