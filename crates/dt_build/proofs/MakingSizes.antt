-- How long the values are together.
use Rattle.std.proofs.Common.{◌≡◌, ℕ, ◌+◌, ◌*◌, ◌-◌, ◌^◌, min, Bool, true, false, List, [], ◌∷◌, length, map, refl, ap, ◌∙◌, append-nil, arith}
use Rattle.std.specs.Int.{to_be_bytes, w32}
use Rattle.std.proofs.lemmas.List.{length-map}
use Rattle.dt_source.specs.TreeMeaning.Fixups.{fixups, local_fixups}
use Rattle.dt_source.specs.TreeMeaning.Phandles.{PathPhandle}
use Rattle.dt_source.specs.TreeMeaning.Resolved.{phandle_property, symbol}
use Rattle.dt_live.specs.Builder.Sizes.{size_in}
use Rattle.dt_live.proofs.BuilderLemmas.SizesOfMaps.{size-append}
use Rattle.dt_build.specs.Edit.Said.{tree_of}
use Rattle.dt_build.specs.declared.draft.Draft.{Draft}
use Rattle.dt_build.specs.Resolve.NodePhandles.{path_phandle_of}
use Rattle.dt_build.specs.Private.FixupSites.{sites_size}
use Rattle.dt_build.specs.Private.Made.{fixup_lists, lists, made_properties, made_sites, added_phandles, plain_properties, symbol_lists}
use Rattle.dt_build.proofs.SiteSizes.{sizes-of-sites}

phandles-long : (xs : List PathPhandle) → size_in (map phandle_property xs) ≡ 4 * length xs
phandles-long [] = refl
phandles-long (x ∷ xs) = let four : length (to_be_bytes w32 x.phandle) ≡ 4 = refl in omega (arith, phandles-long xs, four)

pub size-made : (p : Draft) → size_in (made_properties p) ≡ size_in (plain_properties p) + 4 * length p.added.items
size-made p =
    size-append (plain_properties p) (map phandle_property (added_phandles p))
    ∙ ap (λ n. size_in (plain_properties p) + n)
    (phandles-long (added_phandles p) ∙ ap (λ n. 4 * n) (length-map p.added.items (path_phandle_of p.live.nodes.items)))

-- ---- with what is added
pub size-plain : (p : Draft) → size_in (symbol_lists false p).properties ≡ size_in (made_properties p)
size-plain p = ap size_in (append-nil (made_properties p))

pub size-symbols : (p : Draft) → size_in (symbol_lists true p).properties ≡ size_in (made_properties p) + size_in (map symbol (tree_of p.live).labels)
size-symbols p = size-append (made_properties p) (map symbol (tree_of p.live).labels)

pub size-lists : (symbols : Bool) (p : Draft) → size_in (lists symbols p).properties ≡ size_in (symbol_lists symbols p).properties + sites_size (made_sites p)
size-lists symbols p =
    let sizes = sizes-of-sites (made_sites p) [] [] in
    size-append (fixup_lists symbols p).properties (local_fixups (made_sites p) [])
    ∙ ap (λ n. n + size_in (local_fixups (made_sites p) [])) (size-append (symbol_lists symbols p).properties (fixups (made_sites p) []))
    ∙ omega (arith, sizes)

-- sums as far as numbers reach
pub sum-capped : (whole x y size more sum : ℕ) → whole ≡ x + y → size ≡ min x (2 ^ 64 - 1) → more ≡ min y (2 ^ 64 - 1) → sum ≡ min (size + more) (2 ^ 64 - 1) → sum ≡ min whole (2 ^ 64 - 1)
sum-capped whole x y size more sum a b c d = omega arith
