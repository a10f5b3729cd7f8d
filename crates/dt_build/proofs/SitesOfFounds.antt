-- The fixup sites of all values that were found are those of a walk over the properties and the targets.
use Rattle.std.proofs.Common.{◌≡◌, ℕ, Bool, true, false, List, [], ◌∷◌, ◌++◌, drop, Option, if◌then◌else◌, refl, ap}
use Rattle.std.specs.List.{filter}
use Rattle.dt_source.specs.TreeMeaning.Paths.{Path}
use Rattle.dt_source.specs.TreeMeaning.Phandles.{PathPhandle}
use Rattle.dt_source.specs.TreeMeaning.Edits.{Definition}
use Rattle.dt_source.specs.TreeMeaning.Fixups.{Site, sites, sites_in}
use Rattle.dt_source.specs.TreeMeaning.References.{Found}
use Rattle.dt_live.specs.Rows.{node_path}
use Rattle.dt_live.specs.declared.preorder.properties.NodeProperty.{NodeProperty}
use Rattle.dt_build.specs.Edit.Said.{Parts}
use Rattle.dt_build.specs.declared.draft.Draft.{Draft}
use Rattle.dt_build.specs.Private.Made.{all_phandles, fixed, is_fixed}
use Rattle.dt_build.specs.Resolve.Founds.{all_uses, found_properties, found_property}
use Rattle.dt_build.specs.Resolve.Gathered.{targets_anew}
use Rattle.dt_build.specs.Private.FixupSites.{all_left}

module _ (asks : Bool) (ns : List PathPhandle) where
  one-fixed : (e : Definition (List Found)) (es : List (Definition (List Found))) (b : Bool) (xs : List Site) → xs ≡ sites ns es → (if b then sites_in ns e.path e.name 0 e.value else []) ++ xs ≡ sites ns (if b then e ∷ es else es)
  one-fixed e es true xs is = ap (λ ys. sites_in ns e.path e.name 0 e.value ++ ys) is
  one-fixed e es false xs is = is

  walk-sites : (path : ℕ → Path) (xs : List (NodeProperty Parts)) (ts : List (Option ℕ)) → all_left asks ns path xs ts ≡ sites ns (filter (is_fixed asks) (found_properties path xs ts))
  walk-sites path [] ts = refl
  walk-sites path (x ∷ xs) ts =
      let e = found_property path x ts in
      one-fixed e (filter (is_fixed asks) (found_properties path xs (drop (all_uses x.value.now.parts.items) ts))) (is_fixed asks e) (all_left asks ns path xs (drop (all_uses x.value.now.parts.items) ts)) (walk-sites path xs (drop (all_uses x.value.now.parts.items) ts))

pub all-sites : (p : Draft) → all_left p.asks (all_phandles p) (node_path p.live) p.in_preorder.properties.items (targets_anew p.targets.items p.anew) ≡ sites (all_phandles p) (fixed p)
all-sites p = walk-sites p.asks (all_phandles p) (node_path p.live) p.in_preorder.properties.items (targets_anew p.targets.items p.anew)
