use Rattle.std.proofs.Common.{[], List, drop, refl, ap, ◌∙◌}
use Rattle.dt_source.specs.declared.tree.Part.{Part}
use Rattle.dt_build.specs.Resolve.Founds.{all_uses}
use Rattle.dt_build.specs.Resolve.Targets.{IsThere}
use Rattle.dt_build.specs.Resolve.Private.GivenByBoth.{given_all}
use Rattle.dt_build.specs.Resolve.Private.Wanted.{phandles_of}
use Rattle.dt_build.proofs.ResolveLemmas.GivenByBoth.{both-goes-on, both-stops}
use Rattle.dt_build.proofs.ResolveLemmas.PartSteps.{all-drop}
use Rattle.dt_build.proofs.resolve.given_by_both.given_by_both.Goals as goal

pub returns-in-Err-clause-phandles : goal.returns-in-Err-clause-phandles
returns-in-Err-clause-phandles c =
    let d = c.args.live.now in
    let xs = c.args.properties.now in
    let ts = c.loop-property.left.now in
    both-stops d xs c.loop-property.property-index c.property-item.result c.loop-property-test.true c.property-item.is ts (drop (all_uses c.property-item.result.value.now.parts.items) ts) refl
    (phandles_of d.nodes.items c.loop-property.numbers.given) (given_all d xs c.args.targets.now []) c.loop-property.invariant.rest c.in-Err.error.kind c.in-Err.ensures.step

pub loop-property-preserved : goal.loop-property-preserved
loop-property-preserved c =
    let d = c.args.live.now in
    let xs = c.args.properties.now in
    let ts = c.loop-property.left.now in
    let x = c.property-item.result in
    let behind = c.targets_behind-left.ensures ∙ ap (λ (ps : List Part). drop (all_uses ps) ts) c.as_slice.ensures.value in
    record {
      numbers = c.in_default.ensures.numbers;
      targets = all-drop (IsThere d) (all_uses x.value.now.parts.items) ts c.targets_behind-left.result.now behind c.loop-property.invariant.targets;
      rest = both-goes-on d xs c.loop-property.property-index x c.loop-property-test.true c.property-item.is ts c.targets_behind-left.result.now behind
          (phandles_of d.nodes.items c.loop-property.numbers.given) (given_all d xs c.args.targets.now []) c.loop-property.invariant.rest (phandles_of d.nodes.items c.note.new.numbers.given) c.in_default.ensures.step;
    }
