use Rattle.std.proofs.Common.{◌≡◌, ◌∙◌, [], ◌∷◌, Ok, sym, ap, subst}
use Rattle.std.specs.Prelude.{MatchResult, Result}
use Rattle.dt_live.specs.declared.live_tree.PropertyRow.{PropertyRow}
use Rattle.dt_live.specs.Rows.{path_of, property_at}
use Rattle.dt_source.specs.TreeMeaning.Edits.{definition}
use Rattle.dt_source.specs.TreeMeaning.Names.{local_fixups_name}
use Rattle.dt_source.specs.TreeMeaning.Paths.{is_within}
use Rattle.dt_live.specs.ByRow.{lent, row_property}
use Rattle.dt_live.specs.Flattened.{Lent}
use Rattle.dt_source.specs.OverlayMeaning.Fault.{Fault}
use Rattle.dt_source.specs.OverlayMeaning.Shifted.{Shifting, raise_sites}
use Rattle.dt_overlay.specs.Fixup.OverlayFault.{IsFault}
use Rattle.dt_overlay.specs.Fixup.Private.FixedNodes.{IsFixedNodeOf}
use Rattle.dt_overlay.specs.Fixup.Private.Steps.{IsAt}
use Rattle.dt_overlay.proofs.FixupLemmas.LocalSteps.{row-local_node, fixed_node-local_node}
use Rattle.dt_overlay.proofs.fixup.local.raise_local_fixup.Goals as goal

pub raise_value-requires : goal.raise_value-requires
raise_value-requires c =
    let d = c.args.patched.now.live in
    let k = c.args.row in
    let is : property_at c.properties.result.now k ≡ property_at d.properties.items k = ap (λ xs. property_at xs k) c.properties.ensures in
    let local_node = fixed_node-local_node d.nodes.items (row_property d k).path c.args.fixed_node c.in_default.not-NotLocal c.requires.fixed_node in
    record {
      fixup = record {
        fixed_node = subst (λ (r : PropertyRow Lent). IsFixedNodeOf d r.node c.args.fixed_node) (sym is) c.requires.fixed_node;
        below = ap (λ (r : PropertyRow Lent). is_within (local_fixups_name ∷ []) (path_of d.nodes.items r.node)) is ∙ local_node;
      };
    }

pub returns-clause-step : goal.returns-clause-step
returns-clause-step c = λ x at.
    let d = c.args.patched.now.live in
    let ps = d.properties.items in
    let k = c.args.row in
    let local_node = fixed_node-local_node d.nodes.items (row_property d k).path c.args.fixed_node c.in_default.not-NotLocal c.requires.fixed_node in
    let rows = d.nodes.items in
    let r : PropertyRow Lent = property_at c.properties.result.now k in
    let is : r ≡ property_at ps k = ap (λ xs. property_at xs k) c.properties.ensures in
    let same : raise_sites c.args.shift (definition (path_of rows r.node) r.name.now c.lent-value.result.now) x ≡ raise_sites c.args.shift (row_property d k) x =
    ap (λ b. raise_sites c.args.shift (definition (path_of rows r.node) r.name.now b) x) c.lent-value.ensures
    ∙ ap (λ (z : PropertyRow Lent). raise_sites c.args.shift (definition (path_of rows z.node) z.name.now (lent z.value)) x) is in
    subst (λ (z : Result Shifting Fault). MatchResult c.raise_value.result (λ _. (y : Shifting) × (z ≡ Ok y) × IsAt y c.raise_value.new.patched) (λ e. IsFault e z))
    (same ∙ sym (row-local_node c.args.shift d k local_node x)) (c.raise_value.ensures.step x at)
