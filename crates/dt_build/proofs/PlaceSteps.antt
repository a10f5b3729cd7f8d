-- References in values, one after the other.
use Rattle.std.proofs.Common.{◌≡◌, ℕ, suc, ◌+◌, ◌≤◌, List, [], ◌∷◌, ◌++◌, length, map, Option, refl, sym, ap, ap₂, ◌∙◌, append_assoc, arith}
use Rattle.std.specs.Prelude.{All}
use Rattle.dt_source.specs.TreeMeaning.References.{Found, Bytes, Cell, Open, PathText}
use Rattle.dt_source.specs.TreeMeaning.Phandles.{PathPhandle}
use Rattle.dt_source.specs.TreeMeaning.Fixups.{bytes_of, label_found}
use Rattle.dt_live.specs.Rows.{node_path}
use Rattle.dt_live.specs.declared.preorder.properties.NodeProperty.{NodeProperty}
use Rattle.dt_build.specs.Edit.Said.{Parts}
use Rattle.dt_build.specs.Resolve.Founds.{found_properties}
use Rattle.dt_build.specs.declared.draft.Draft.{Draft}
use Rattle.dt_build.specs.Private.Made.{all_phandles}
use Rattle.dt_build.specs.Private.Places.{offsets_of}

-- ---- a value part by part
offsets-first : (ns : List PathPhandle) (o : ℕ) (f : Found) (fs : List Found) → offsets_of ns o (f ∷ fs) ≡ map (λ _. o) (label_found f) ++ offsets_of ns (o + length (bytes_of ns f)) fs
offsets-first ns o (Open l) fs = refl
offsets-first ns o (Cell p) fs = refl
offsets-first ns o (Bytes b) fs = refl
offsets-first ns o (PathText p) fs = refl

pub offsets-more : (ns : List PathPhandle) (f : Found) (fs gs : List Found) (o next : ℕ) (old new whole : List ℕ) → gs ≡ f ∷ fs → new ≡ old ++ map (λ _. o) (label_found f) → next ≡ o + length (bytes_of ns f)
    → old ++ offsets_of ns o gs ≡ whole → new ++ offsets_of ns next fs ≡ whole
offsets-more ns f fs gs o next old new whole at step sum so =
    ap₂ (λ xs n. xs ++ offsets_of ns n fs) step sum
    ∙ append_assoc old (map (λ _. o) (label_found f)) (offsets_of ns (o + length (bytes_of ns f)) fs)
    ∙ ap (λ ys. old ++ ys) (sym (offsets-first ns o f fs))
    ∙ ap (λ hs. old ++ offsets_of ns o hs) (sym at) ∙ so

-- ---- properties
-- the offsets of those whose values have the first of these targets
abbrev pub offsets_left : Draft → List (NodeProperty Parts) → List (Option ℕ) → List (List ℕ)
offsets_left p xs ts = map (λ e. offsets_of (all_phandles p) 0 e.value) (found_properties (node_path p.live) xs ts)

-- ---- nodes
-- what is the same of each node
pub same-at : (rows : ℕ) (f g : ℕ → ℕ) (xs : List ℕ) → All (λ n. n ≤ rows) xs → ((n : ℕ) → n ≤ rows → f n ≡ g n) → map f xs ≡ map g xs
same-at rows f g [] all same = refl
same-at rows f g (x ∷ xs) all same =
    ap₂ (λ y ys. y ∷ ys) (same x (all 0 x (omega arith))) (same-at rows f g xs (λ k e below. all (suc k) e (omega (arith, below))) same)
