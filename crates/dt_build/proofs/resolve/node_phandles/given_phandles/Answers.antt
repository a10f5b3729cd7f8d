use Rattle.std.proofs.Common.{◌≡◌, ◌≤◌, List, [], true, length, map, sym, ◌∙◌, subst}
use Rattle.std.proofs.lemmas.List.{at_drop_all}
use Rattle.dt_source.specs.TreeMeaning.Phandles.{given_of}
use Rattle.dt_live.specs.Rows.{stands}
use Rattle.dt_live.specs.declared.preorder.properties.NodeProperty.{NodeProperty}
use Rattle.dt_build.specs.Edit.Said.{Parts}
use Rattle.dt_build.specs.Resolve.NodePhandles.{path_phandle_of}
use Rattle.dt_build.specs.Resolve.Private.ReadProperty.{read_property}
use Rattle.dt_build.proofs.ResolveLemmas.GivenSteps.{given-goes-on, given-stops}
use Rattle.dt_build.proofs.resolve.node_phandles.given_phandles.Goals as goal

pub note-requires-clause-known : goal.note-requires-clause-known
note-requires-clause-known c =
    subst (λ (x : NodeProperty Parts). x.node ≤ length c.args.nodes.now) (sym c.property-item.is) (c.requires.known c.loop-property.property-index c.property-item.result c.loop-property-test.true)

pub note-requires-clause-stands : goal.note-requires-clause-stands
note-requires-clause-stands c =
    subst (λ (x : NodeProperty Parts). stands c.args.nodes.now x.node ≡ true) (sym c.property-item.is) (c.requires.stand c.loop-property.property-index c.property-item.result c.loop-property-test.true)

pub loop-property-preserved : goal.loop-property-preserved
loop-property-preserved c =
    let rows = c.args.nodes.now in
    let properties = c.args.properties.now in
    let e = c.in_default.ensures in
    record {
      owners = e.owners;
      taken = e.taken;
      rest = given-goes-on (read_property rows) properties c.loop-property.property-index c.property-item.result c.loop-property-test.true c.property-item.is
          (map (path_phandle_of rows) c.loop-property.given.phandles.items) (given_of (map (read_property rows) properties) []) c.loop-property.invariant.rest (map (path_phandle_of rows) c.note.new.given.phandles.items) e.step;
    }

pub returns-clause-phandles : goal.returns-clause-phandles
returns-clause-phandles c =
    let rows = c.args.nodes.now in
    sym c.loop-property.invariant.rest
    ∙ at_drop_all (λ (xs : List (NodeProperty Parts)). given_of (map (read_property rows) xs) (map (path_phandle_of rows) c.loop-property.given.phandles.items)) c.args.properties.now c.loop-property.property-index c.loop-property-test.false

pub returns-in-Err-clause-phandles : goal.returns-in-Err-clause-phandles
returns-in-Err-clause-phandles c =
    let rows = c.args.nodes.now in
    let properties = c.args.properties.now in
    given-stops (read_property rows) properties c.loop-property.property-index c.property-item.result c.loop-property-test.true c.property-item.is
    (map (path_phandle_of rows) c.loop-property.given.phandles.items) (given_of (map (read_property rows) properties) []) c.loop-property.invariant.rest c.in-Err.error.kind c.in-Err.ensures.step
