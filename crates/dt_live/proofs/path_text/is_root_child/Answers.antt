use Rattle.std.proofs.Common.{◌≡◌, ◌-◌, ◌<◌, suc, get_or, length, sym, ◌∙◌, arith}
use Rattle.std.proofs.lemmas.Bool.{ne_eqb}
use Rattle.dt_tree.proofs.SeenNames.{bytes_eq-comm}
use Rattle.dt_live.proofs.BlankRows.{blank_row}
use Rattle.dt_live.proofs.RootChildren.{by-name, other-path}
use Rattle.dt_live.proofs.path_text.is_root_child.Goals as goal

pub returns-then-row-eq0 : goal.returns-then-row-eq0
returns-then-row-eq0 c =
    let rows = c.args.nodes.now in
    let k = c.args.node - 1 in
    let name = c.args.name.now in
    let at : c.args.node ≡ suc k = omega (arith, c.if-node-eq0.false) in
    let within : k < length rows = omega (arith, c.if-node-eq0.false, c.requires.known) in
    c.eq.ensures ∙ bytes_eq-comm (get_or rows k blank_row).name.now name ∙ sym (by-name name rows c.requires.grown c.args.node k blank_row at within c.if-row-eq0.true)

pub returns-else-row-eq0 : goal.returns-else-row-eq0
returns-else-row-eq0 c =
    let rows = c.args.nodes.now in
    let k = c.args.node - 1 in
    let at : c.args.node ≡ suc k = omega (arith, c.if-node-eq0.false) in
    let within : k < length rows = omega (arith, c.if-node-eq0.false, c.requires.known) in
    ne_eqb (get_or rows k blank_row).parent 0 c.if-row-eq0.false ∙ sym (other-path c.args.name.now rows c.requires.grown c.args.node k blank_row at within c.if-row-eq0.false)
