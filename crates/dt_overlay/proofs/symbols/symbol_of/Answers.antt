use Rattle.std.proofs.Common.{◌≡◌, ◌≤◌, [], ◌∷◌, ◌++◌, length, subst, sym, rules, List}
use Rattle.dt_tree.specs.Path.{behind_slashes, text_or_root}
use Rattle.dt_live.specs.declared.live_tree.NodeRow.{NodeRow}
use Rattle.dt_live.specs.Rows.{path_of}
use Rattle.dt_overlay.proofs.symbols.symbol_of.Goals as goal

pub symbol_text-requires-clause-known : goal.symbol_text-requires-clause-known
symbol_text-requires-clause-known c =
    subst (λ (rows : List NodeRow). c.in-Some.node ≤ length rows) (sym c.nodes.ensures) (c.in-Some.ensures c.args.base.now c.requires.targets).known

pub returns-in_ok-value-in-Some-clause-value : goal.returns-in_ok-value-in-Some-clause-value
returns-in_ok-value-in-Some-clause-value c =
    let names = behind_slashes (path_of c.nodes.result.now c.in-Some.node) ++ c.in-Some.rest.now in
    let behind : c.in_ok-value-in-Some.value.items ≡ text_or_root names ++ 0 ∷ [] = c.in_ok-value-in-Some.ensures in
    search rules
