use Rattle.std.proofs.Common.{subst}
use Rattle.dtman_check.proofs.ClassLemmas.{Lacks, here-none}
use Rattle.dtman_check.proofs.table.looking.may_have_one.Goals as goal

pub returns : goal.returns
returns c = λ e check finds nodes written place is.
    let one : Lacks c.args.placed.now.node.properties c.args.classes.first = c.may_have.ensures e in
    here-none check finds nodes written place c.args.placed.now c.args.classes is one
    (subst (λ n. Lacks c.args.placed.now.node.properties n) c.requires one)
