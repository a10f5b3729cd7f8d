use Rattle.std.proofs.Common.{◌++◌, ◌∙◌, sym, ap, append-nil}
use Rattle.dtman_check.proofs.UnitsLemmas.{below-alone}
use Rattle.dtman_check.proofs.table.units.find_below.Goals as goal

pub returns-then-units-lt2 : goal.returns-then-units-lt2
returns-then-units-lt2 c =
    let found = c.args.findings.now.items in
    sym (ap (λ l. found ++ l) (below-alone c.args.check c.args.survey.now c.args.units.now c.args.above.now c.if-units-lt2.true) ∙ append-nil found)
