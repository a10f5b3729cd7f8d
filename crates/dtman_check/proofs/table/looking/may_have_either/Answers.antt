use Rattle.dtman_check.proofs.ClassLemmas.{here-none}
use Rattle.dtman_check.proofs.table.looking.may_have_either.Goals as goal

pub returns-else-may_have : goal.returns-else-may_have
returns-else-may_have c = λ e check finds nodes written place is.
    here-none check finds nodes written place c.args.placed.now c.args.classes is (c.may_have.ensures c.if-may_have.false) (c.may_have-else-may_have.ensures e)
