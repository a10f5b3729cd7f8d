use Rattle.std.proofs.Common.{◌≡◌, ◌+◌, ◌<◌, ◌≤◌, ◌++◌, List, ℕ, Option, length, drop, get_or, map, sym, ap, ap₂, ◌∙◌, subst, append-nil, arith}
use Rattle.std.specs.Prelude.{All}
use Rattle.std.proofs.lemmas.List.{drop_all}
use Rattle.dt_source.specs.TreeMeaning.Fixups.{sites}
use Rattle.dt_source.specs.TreeMeaning.Resolved.{when}
use Rattle.dt_source.specs.declared.tree.Part.{Part}
use Rattle.dt_live.specs.Rows.{IsNode, node_path}
use Rattle.dt_live.specs.declared.preorder.properties.NodeProperty.{NodeProperty}
use Rattle.dt_build.specs.Edit.Said.{Parts}
use Rattle.dt_build.specs.Resolve.Targets.{IsKnown, IsToldApart}
use Rattle.dt_build.specs.Private.FixupSites.{AreBetween, all_left, site_of}
use Rattle.dt_build.specs.Private.Made.{all_phandles, fixed}
use Rattle.dt_build.specs.Private.Values.{all_uses}
use Rattle.dt_build.proofs.SourceSteps.{all-drop}
use Rattle.dt_build.proofs.Sites.{between-more, key-read, property-more}
use Rattle.dt_build.proofs.SitesOfFounds.{all-sites}
use Rattle.dt_build.proofs.fixup_sites.find_sites.Goals as goal

pub returns-then-not-draft : goal.returns-then-not-draft
returns-then-not-draft c =
    let p = c.args.draft.now in
    let none = c.new.ensures.items in
    record {
      sites = ap (map (site_of p)) none ∙ ap (λ t. when t (sites (all_phandles p) (fixed p))) (sym c.if-not-draft.true);
      places = subst (AreBetween 0 (length p.in_preorder.properties.items)) (sym none) tt;
    }

pub loop-property-init : goal.loop-property-init
loop-property-init c =
    let p = c.args.draft.now in
    let none = c.in_ok-sites.ensures.items in
    record {
      known = subst (All (IsKnown p.live)) (sym c.fixed_targets-targets.ensures) c.requires.anew_known;
      apart = λ asks. subst (λ (ts : List (Option ℕ)). All (λ x. All (IsToldApart p.live x.node) ts) p.in_preorder.properties.items) (sym c.fixed_targets-targets.ensures) (c.requires.told_apart asks);
      places = subst (AreBetween 0 0) (sym none) tt;
      sites = ap₂ (λ ss (ts : List (Option ℕ)). map (site_of p) ss ++ all_left p.asks (all_phandles p) (node_path p.live) p.in_preorder.properties.items ts) none c.fixed_targets-targets.ensures
          ∙ all-sites p ∙ ap (λ t. when t (sites (all_phandles p) (fixed p))) (sym c.if-not-draft.false);
    }

pub put_fixed-requires-clause-key : goal.put_fixed-requires-clause-key
put_fixed-requires-clause-key c =
    let p = c.args.draft.now in
    let k = c.loop-property.property in
    let same = c.as_slice-properties.ensures.value in
    key-read p k c.index-properties-property.result (omega (arith, c.loop-property-test.true, ap length same)) (c.index-properties-property.is ∙ ap (λ (ys : List (NodeProperty Parts)). get_or ys k c.index-properties-property.result) same)

pub put_fixed-requires-clause-node : goal.put_fixed-requires-clause-node
put_fixed-requires-clause-node c =
    let p = c.args.draft.now in
    let k = c.loop-property.property in
    let x = c.index-properties-property.result in
    let same = c.as_slice-properties.ensures.value in
    subst (λ (y : NodeProperty Parts). IsNode p.live y.node) (sym (c.index-properties-property.is ∙ ap (λ (ys : List (NodeProperty Parts)). get_or ys k x) same))
    (c.requires.owners k x (omega (arith, c.loop-property-test.true, ap length same)))

pub put_fixed-requires-clause-apart : goal.put_fixed-requires-clause-apart
put_fixed-requires-clause-apart c asks =
    let p = c.args.draft.now in
    let k = c.loop-property.property in
    let x = c.index-properties-property.result in
    let same = c.as_slice-properties.ensures.value in
    subst (λ (y : NodeProperty Parts). All (IsToldApart p.live y.node) c.loop-property.targets.now) (sym (c.index-properties-property.is ∙ ap (λ (ys : List (NodeProperty Parts)). get_or ys k x) same))
    (c.loop-property.invariant.apart asks k x (omega (arith, c.loop-property-test.true, ap length same)))

pub put_fixed-requires-clause-places : goal.put_fixed-requires-clause-places
put_fixed-requires-clause-places c =
    let k = c.loop-property.property in
    between-more 0 k (k + 1) c.loop-property.sites.items (omega arith) c.loop-property.invariant.places

pub loop-property-preserved : goal.loop-property-preserved
loop-property-preserved c =
    let p = c.args.draft.now in
    let k = c.loop-property.property in
    let x = c.index-properties-property.result in
    let same = c.as_slice-properties.ensures.value in
    let below : k < length p.in_preorder.properties.items = omega (arith, c.loop-property-test.true, ap length same) in
    let at : x ≡ get_or p.in_preorder.properties.items k x = c.index-properties-property.is ∙ ap (λ (ys : List (NodeProperty Parts)). get_or ys k x) same in
    let ts = c.loop-property.targets.now in
    let us = c.targets_behind-targets.result.now in
    let behind = c.targets_behind-targets.ensures ∙ ap (λ (ps : List Part). drop (all_uses ps) ts) c.as_slice.ensures.value in
    record {
      known = all-drop (IsKnown p.live) (all_uses x.value.now.parts.items) ts us behind c.loop-property.invariant.known;
      apart = λ asks i y less. all-drop (IsToldApart p.live (get_or p.in_preorder.properties.items i y).node) (all_uses x.value.now.parts.items) ts us behind (c.loop-property.invariant.apart asks i y less);
      places = c.in_ok-put_fixed.ensures.places;
      sites = property-more p k x ts us (map (site_of p) c.loop-property.sites.items) (map (site_of p) c.put_fixed.new.sites.items) _ below at behind c.in_ok-put_fixed.ensures.sites c.loop-property.invariant.sites;
    }

pub returns : goal.returns
returns c =
    let p = c.args.draft.now in
    let k = c.loop-property.property in
    let same = c.as_slice-properties.ensures.value in
    let found = map (site_of p) c.loop-property.sites.items in
    let all : length p.in_preorder.properties.items ≤ k = omega (arith, c.loop-property-test.false, ap length same) in
    let upto : k ≤ length p.in_preorder.properties.items = omega (arith, c.loop-property.auto.property-end, ap length same) in
    record {
      sites = sym (append-nil found) ∙ ap (λ ys. found ++ all_left p.asks (all_phandles p) (node_path p.live) ys c.loop-property.targets.now) (sym (drop_all k p.in_preorder.properties.items all)) ∙ c.loop-property.invariant.sites;
      places = between-more 0 k (length p.in_preorder.properties.items) c.loop-property.sites.items upto c.loop-property.invariant.places;
    }
