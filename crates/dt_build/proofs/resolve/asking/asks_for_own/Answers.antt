use Rattle.std.proofs.Common.{◌∙◌, ◌&&◌, List, not, sym, ap, ap₂}
use Rattle.dt_tree.specs.Phandle.{is_reserved}
use Rattle.dt_live.specs.Rows.{node_path, path_of}
use Rattle.dt_source.specs.declared.tree.Part.{Part}
use Rattle.dt_build.specs.Resolve.Founds.{found_property, founds_of}
use Rattle.dt_build.specs.Resolve.Private.CellOf.{is_cell_of}
use Rattle.dt_build.proofs.ResolveLemmas.OwnNumbers.{asks-both}
use Rattle.dt_build.proofs.resolve.asking.asks_for_own.Goals as goal

pub returns-then-not-is_phandle_name : goal.returns-then-not-is_phandle_name
returns-then-not-is_phandle_name c =
    let e = found_property (node_path c.args.live.now) c.args.property.now c.args.targets.now in
    sym (asks-both e e.value ∙ ap (λ b. (b && not (is_reserved e.path)) && is_cell_of e.path e.value) (sym c.is_phandle_name.ensures ∙ c.if-not-is_phandle_name.true))

pub returns-then-is_reserved : goal.returns-then-is_reserved
returns-then-is_reserved c =
    let e = found_property (node_path c.args.live.now) c.args.property.now c.args.targets.now in
    let named = sym c.is_phandle_name.ensures ∙ c.if-not-is_phandle_name.false in
    let reserved = ap (λ rows. is_reserved (path_of rows c.args.property.now.node)) (sym c.nodes.ensures) ∙ sym c.is_reserved.ensures ∙ c.if-is_reserved.true in
    sym (asks-both e e.value ∙ ap₂ (λ a b. (a && not b) && is_cell_of e.path e.value) named reserved)

pub returns : goal.returns
returns c =
    let e = found_property (node_path c.args.live.now) c.args.property.now c.args.targets.now in
    let named = sym c.is_phandle_name.ensures ∙ c.if-not-is_phandle_name.false in
    let reserved = ap (λ rows. is_reserved (path_of rows c.args.property.now.node)) (sym c.nodes.ensures) ∙ sym c.is_reserved.ensures ∙ c.if-is_reserved.false in
    c.refers_to.ensures ∙ ap (λ (v : List Part). is_cell_of e.path (founds_of (node_path c.args.live.now) v c.args.targets.now)) c.as_slice.ensures.value
    ∙ sym (asks-both e e.value ∙ ap₂ (λ a b. (a && not b) && is_cell_of e.path e.value) named reserved)
