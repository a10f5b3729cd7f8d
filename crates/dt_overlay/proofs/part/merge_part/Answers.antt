use Rattle.std.proofs.Common.{◌≤◌, ◌<◌, ℕ, List, length, sym, subst}
use Rattle.dt_live.specs.Rows.{property_at}
use Rattle.dt_live.specs.declared.live_tree.PropertyRow.{PropertyRow}
use Rattle.dt_live.specs.Flattened.{Lent}
use Rattle.dt_live.proofs.Keeping.{kept-same, kept-then}
use Rattle.dt_overlay.proofs.PartSteps.{own-base_nodes}
use Rattle.dt_overlay.proofs.part.merge_part.Goals as goal

pub find_clash-requires-clause-base_nodes : goal.find_clash-requires-clause-base_nodes
find_clash-requires-clause-base_nodes c =
    let e = c.in_ok-end.ensures in
    own-base_nodes c.args.patched.now.live c.define_nodes.new.live _ c.args.body c.in_ok-end.end c.define_nodes.new.base_nodes c.requires.top e.part.more e.base_nodes

pub set_properties-requires-clause-base_nodes : goal.set_properties-requires-clause-base_nodes
set_properties-requires-clause-base_nodes c =
    let e = c.in_ok-end.ensures in
    own-base_nodes c.args.patched.now.live c.define_nodes.new.live _ c.args.body c.in_ok-end.end c.define_nodes.new.base_nodes c.requires.top e.part.more e.base_nodes

pub returns-clause-kept : goal.returns-clause-kept
returns-clause-kept c =
    let e = c.in_ok-end.ensures in
    let f = c.in_ok-set_properties.ensures in
    λ p. kept-then p c.args.live.now.nodes.items c.define_nodes.new.live.nodes.items c.set_properties.new.live.nodes.items (e.kept p) (kept-same p _ _ f.kept)

pub returns-clause-rows : goal.returns-clause-rows
returns-clause-rows c all = c.in_ok-set_properties.ensures.rows (c.in_ok-end.ensures.rows all)

pub first_property-requires : goal.first_property-requires
first_property-requires c =
    record { ordered = subst (λ (rs : List (PropertyRow Lent)). (i j : ℕ) → i ≤ j → j < length rs → (property_at rs i).node ≤ (property_at rs j).node) (sym c.properties-rows.ensures) c.check.ensures.ordered.properties }

pub first_property-requires-2 : goal.first_property-requires-2
first_property-requires-2 c =
    record { ordered = subst (λ (rs : List (PropertyRow Lent)). (i j : ℕ) → i ≤ j → j < length rs → (property_at rs i).node ≤ (property_at rs j).node) (sym c.properties-rows.ensures) c.check.ensures.ordered.properties }
