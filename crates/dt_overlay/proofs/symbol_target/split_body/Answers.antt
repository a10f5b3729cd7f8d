use Rattle.std.proofs.Common.{sym, ◌∙◌}
use Rattle.std.proofs.lemmas.Slice.Eq.{bytes_eq-Decides}
use Rattle.dt_overlay.proofs.SymbolTexts.{inside}
use Rattle.dt_overlay.proofs.symbol_target.split_body.Goals as goal

pub returns-then-eq : goal.returns-then-eq
returns-then-eq c =
    let first = c.split_name in
    let second = c.split_name-2 in
    inside first.result.0.now first.result.1.now second.result.0.now second.result.1.now
    c.args.path.now c.in_ok-names.names.now c.in_ok-below.below.now c.in_ok-names.field-0-0.now c.in_ok-below.field-0-0.now
    c.in_ok-names.ensures.cases.0 first.ensures.names c.in_ok-below.ensures.cases.0 second.ensures.names second.ensures.text
    ((bytes_eq-Decides second.result.0.now c.as_slice.result.now).0 (sym c.if-eq.ensures) ∙ c.as_slice.ensures)
