use Rattle.std.proofs.Common.{◌≡◌, [], ◌∷◌, ap, ◌∙◌, refl}
use Rattle.dt_tree.specs.declared.property.Property.{Property}
use Rattle.dt_source.specs.TreeMeaning.Edits as edits
use Rattle.dt_source.specs.TreeMeaning.Names.{symbols_name}
use Rattle.dt_live.specs.Rows.{node_path, state_of}
use Rattle.dt_live.specs.Private.Flattening.{with_value}
use Rattle.dt_live.specs.Flattened.{lists}
use Rattle.dt_live.proofs.Steps.{node-more, property-more}
use Rattle.dt_overlay.proofs.symbols.put_symbol.Goals as goal

pub returns-clause-rows : goal.returns-clause-rows
returns-clause-rows c all = c.in_ok-set_property.ensures.rows (c.in_ok-node.ensures.rows all)

pub returns-clause-put : goal.returns-clause-put
returns-clause-put c =
    let mid = c.define_child.new.self in
    let new = c.set_property.new.self in
    let x : Property = record { name = c.args.name.now; value = c.args.value.now } in
    let named : c.as_slice.result.now ∷ [] ≡ symbols_name ∷ [] = ap (λ n. n ∷ []) c.as_slice.ensures in
    property-more mid new (node_path mid c.in_ok-node.node) x c.args.value refl c.in_ok-set_property.ensures.state
    ∙ ap (λ p. with_value p x (lists mid)) (c.in_ok-node.ensures.made ∙ named)
    ∙ ap (λ l. with_value (symbols_name ∷ []) x l)
    (node-more c.args.live.now mid (symbols_name ∷ []) (c.in_ok-node.ensures.state ∙ ap (λ p. edits.with_node p (state_of c.args.live.now)) named))
