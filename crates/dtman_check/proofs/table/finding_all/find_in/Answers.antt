use Rattle.std.proofs.Common.{◌++◌, ◌∙◌, sym, ap, append-nil}
use Rattle.dtman_check.proofs.table.finding_all.find_in.Goals as goal

pub returns-then-finds_nothing : goal.returns-then-finds_nothing
returns-then-finds_nothing c =
    sym (ap (λ l. c.args.findings.now.items ++ l) (c.finds_nothing.ensures c.if-finds_nothing.true _ _ _ _ _) ∙ append-nil c.args.findings.now.items)
