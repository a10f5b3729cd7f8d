use Rattle.std.proofs.Common.{◌+◌, None, drop, set, sym, ◌∙◌, subst}
use Rattle.dt_blob.specs.Steps.Table.{Pending}
use Rattle.dt_blob.proofs.Tables.{tail-other_step, tail-named_step}
use Rattle.dt_blob.proofs.strings.place_tail.Goals as goal

pub returns-in_default : goal.returns-in_default
returns-in_default c = λ block p. tail-other_step c.args.names.now c.args.places.now block c.args.start c.args.tail.now c.requires.some (sym c.position.ensures ∙ c.in_default.is) p

pub returns : goal.returns
returns c = λ block p.
    subst (λ x. Pending c.args.names.now (set c.args.places.now c.in-Some.at x) block (c.args.start + 1) (drop 1 c.args.tail.now)) (sym c.or.ensures)
    (tail-named_step c.args.names.now c.args.places.now block c.args.start c.args.tail.now c.in-Some.at None c.check.ensures c.requires.some c.requires.room (sym c.position.ensures ∙ c.in-Some.is) p)
