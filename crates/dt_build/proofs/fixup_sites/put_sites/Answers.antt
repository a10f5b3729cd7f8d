use Rattle.std.proofs.Common.{◌+◌, ◌++◌, ℕ, zero, suc, List, [], ◌∷◌, Option, None, get_or, drop, map, sym, ap, ◌∙◌, subst, append-nil, arith}
use Rattle.std.specs.Prelude.{All}
use Rattle.std.proofs.lemmas.List.{drop_all}
use Rattle.dt_source.specs.TreeMeaning.Fixups.{sites_in}
use Rattle.dt_live.specs.Rows.{node_path}
use Rattle.dt_live.specs.declared.live_tree.LiveTree.{LiveTree}
use Rattle.dt_build.specs.Edit.Said.{Parts}
use Rattle.dt_build.specs.Resolve.Targets.{IsKnown}
use Rattle.dt_build.specs.Private.FixupSites.{key_at, site_of}
use Rattle.dt_build.specs.Private.Made.{all_phandles}
use Rattle.dt_build.specs.Private.Values.{found_of, founds_of}
use Rattle.dt_build.proofs.Sites.{sites-more}
use Rattle.dt_build.proofs.ValueSteps.{founds-step, uses-few}
use Rattle.dt_build.proofs.fixup_sites.put_sites.Goals as goal

-- the target at a place, none behind the last
known-at : (d : LiveTree Parts) (ts : List (Option ℕ)) → All (IsKnown d) ts → (k : ℕ) → IsKnown d (get_or ts k None)
known-at d [] all k = tt
known-at d (t ∷ ts) all zero = all 0 None (omega arith)
known-at d (t ∷ ts) all (suc k) = known-at d ts (λ j e below. all (suc j) e (omega (arith, below))) k

pub offset_behind-requires-clause-known : goal.offset_behind-requires-clause-known
offset_behind-requires-clause-known c =
    let d = c.args.draft.now.live in
    subst (λ (t : Option ℕ). IsKnown d t) (sym c.target_at-target.ensures) (known-at d c.args.targets.now c.requires.known c.loop-part.used)

pub loop-part-preserved : goal.loop-part-preserved
loop-part-preserved c =
    let p = c.args.draft.now in
    let path = node_path p.live in
    let xs = c.args.value.now in
    let ts = c.args.targets.now in
    let i = c.loop-part.part-index in
    let used = c.loop-part.used in
    let x = c.part-item.result in
    let count = c.target_count-used.result in
    let key = key_at p c.args.property in
    record {
      few = omega (arith, c.loop-part.invariant.few, c.target_count-used.ensures, uses-few x);
      places = c.in_ok-put_site.ensures.places;
      sites = sites-more (all_phandles p) key.path key.name (found_of path x c.target_at-target.result) (founds_of path (drop (i + 1) xs) (drop (used + count) ts)) (founds_of path (drop i xs) (drop used ts))
          c.loop-part.offset c.in_ok-offset.offset (map (site_of p) c.loop-part.sites.items) (map (site_of p) c.put_site.new.sites.items) _
          (founds-step path xs ts i used x c.target_at-target.result count c.loop-part-test.true c.part-item.is c.target_at-target.ensures c.target_count-used.ensures)
          (c.in_ok-put_site.ensures.sites p path) c.in_ok-offset.ensures c.loop-part.invariant.sites;
    }

pub returns-clause-sites : goal.returns-clause-sites
returns-clause-sites c =
    let p = c.args.draft.now in
    let found = map (site_of p) c.loop-part.sites.items in
    let key = key_at p c.args.property in
    let left = drop c.loop-part.used c.args.targets.now in
    sym (append-nil found)
    ∙ ap (λ ys. found ++ sites_in (all_phandles p) key.path key.name c.loop-part.offset (founds_of (node_path p.live) ys left)) (sym (drop_all c.loop-part.part-index c.args.value.now c.loop-part-test.false))
    ∙ c.loop-part.invariant.sites
