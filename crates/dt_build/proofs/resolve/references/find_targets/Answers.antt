use Rattle.std.proofs.lemmas.List.{drop_all}
use Rattle.std.proofs.Common.{◌≡◌, ◌+◌, sym, ap, ◌∙◌, List, [], ◌∷◌, ◌++◌, map, drop, subst}
use Rattle.dt_source.specs.TreeMeaning.Syntax.{Piece}
use Rattle.dt_source.specs.TreeMeaning.Edits.{Definition, definition}
use Rattle.dt_tree.specs.Steps.{each}
use Rattle.dt_source.specs.declared.tree.Part.{Part}
use Rattle.dt_source.specs.Tree.{part_view}
use Rattle.dt_source.specs.TreeMeaning.References.{found_in, found_value}
use Rattle.dt_build.specs.Edit.Said.{tree_of}
use Rattle.dt_build.specs.Resolve.Private.ReadProperty.{read_property}
use Rattle.dt_build.proofs.ResolveLemmas.EachSteps.{IsSoFar, so-far-all, so-far-more, so-far-stops, left-read}
use Rattle.dt_build.proofs.ResolveLemmas.Faults.{fault-same}
use Rattle.dt_build.proofs.ResolveLemmas.FindingSteps.{found-more, value-fault, value-found}
use Rattle.dt_build.proofs.resolve.references.find_targets.Goals as goal

pub loop-property-preserved : goal.loop-property-preserved
loop-property-preserved c =
    let d = c.args.live.now in
    let read = read_property d.nodes.items in
    let properties = c.args.properties.now in
    let k = c.loop-property.property-index in
    let x = c.property-item.result in
    let e = read x in
    let f = found_value c.args.plugin (tree_of d) in
    let rest = map read (drop (k + 1) properties) in
    let all = map read properties in
    let i = c.loop-property.invariant in
    let step = c.in_default.ensures.step in
    let same = ap (λ (ps : List Part). each (found_in c.args.plugin (tree_of d)) (map part_view ps)) (sym c.as_slice.ensures.value) in (
      i.0 ++ definition e.path e.name step.0 ∷ [],
      record {
        known = c.in_default.ensures.known;
        so_far = so-far-more f i.0 e rest all (definition e.path e.name step.0)
            (subst (λ (es : List (Definition (List Piece))). IsSoFar f i.0 es all) (left-read read properties k x c.loop-property-test.true c.property-item.is) i.1.so_far)
            (value-found c.args.plugin (tree_of d) e step.0 (same ∙ step.1));
        found = found-more d i.0 e.path e.name step.0 c.loop-property.targets c.find_value.new.targets i.1.found step.2;
      },
    )

pub returns-clause-targets : goal.returns-clause-targets
returns-clause-targets c =
    let d = c.args.live.now in
    let read = read_property d.nodes.items in
    let properties = c.args.properties.now in
    let f = found_value c.args.plugin (tree_of d) in
    let i = c.loop-property.invariant in
    let none : map read (drop c.loop-property.property-index properties) ≡ [] = ap (map read) (drop_all c.loop-property.property-index properties c.loop-property-test.false) in
    (i.0, so-far-all f i.0 (map read properties) (subst (λ (es : List (Definition (List Piece))). IsSoFar f i.0 es (map read properties)) none i.1.so_far), i.1.found)

pub returns-in-Err-clause-targets : goal.returns-in-Err-clause-targets
returns-in-Err-clause-targets c =
    let d = c.args.live.now in
    let read = read_property d.nodes.items in
    let properties = c.args.properties.now in
    let k = c.loop-property.property-index in
    let x = c.property-item.result in
    let f = found_value c.args.plugin (tree_of d) in
    let all = map read properties in
    let i = c.loop-property.invariant in
    so-far-stops f i.0 (read x) (map read (drop (k + 1) properties)) all c.in-Err.error.kind
    (subst (λ (es : List (Definition (List Piece))). IsSoFar f i.0 es all) (left-read read properties k x c.loop-property-test.true c.property-item.is) i.1.so_far)
    (value-fault c.args.plugin (tree_of d) (read x) c.in-Err.error.kind (fault-same c.in-Err.error.kind (each (found_in c.args.plugin (tree_of d)) (map part_view c.as_slice.result.now))
    (each (found_in c.args.plugin (tree_of d)) (read x).value)
    (ap (λ (ps : List Part). each (found_in c.args.plugin (tree_of d)) (map part_view ps)) (sym c.as_slice.ensures.value)) c.in-Err.ensures.step))
