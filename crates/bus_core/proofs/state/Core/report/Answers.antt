use Rattle.std.proofs.Common.{◌++◌, cond, ap, ap₂, ◌∙◌}
use Rattle.std.specs.Prelude.{codes}
use Rattle.bus_core.proofs.state.Core.report.Goals as goal

pub returns-clause-text : goal.returns-clause-text
returns-clause-text c =
    c.in_ok-extend_from_slice.ensures.items
    ∙ ap₂ (λ x y. x ++ y) c.in_ok-text.ensures (c.last_line.ensures ∙ ap (λ b. cond b (codes "quiet\n") (codes "busy\n")) c.is_quiet.ensures.quiet)
