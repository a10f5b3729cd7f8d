use Rattle.std.proofs.Common.{◌+◌, ◌-◌, ◌^◌, length, min, ap, ◌∙◌}
use Rattle.dt_tree.specs.Path.{behind_slashes}
use Rattle.dt_live.specs.Rows.{path_of}
use Rattle.dt_overlay.proofs.SymbolLengths.{text-below, text-root}
use Rattle.dt_overlay.proofs.symbol_sizes.text_size.Goals as goal

pub returns-then-names-eq0 : goal.returns-then-names-eq0
returns-then-names-eq0 c =
    let rest = c.args.rest.now in
    text-root (behind_slashes (path_of c.args.nodes.now c.args.node)) rest c.saturating_add-names.result
    (c.saturating_add-names.ensures ∙ ap (λ n. min (n + length rest) (2 ^ 64 - 1)) c.names_size.ensures) c.if-names-eq0.true

pub returns : goal.returns
returns c =
    let rest = c.args.rest.now in
    text-below (behind_slashes (path_of c.args.nodes.now c.args.node)) rest c.saturating_add-names.result c.saturating_add.result
    (c.saturating_add-names.ensures ∙ ap (λ n. min (n + length rest) (2 ^ 64 - 1)) c.names_size.ensures) c.if-names-eq0.false c.saturating_add.ensures
