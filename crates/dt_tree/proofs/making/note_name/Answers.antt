use Rattle.std.proofs.Common.{not, ap, ◌∙◌}
use Rattle.std.specs.List.{list_any}
use Rattle.dt_tree.proofs.SeenNames.{has-insert, found-named, is_named}
use Rattle.dt_tree.proofs.making.note_name.Goals as goal

pub returns-clause-new : goal.returns-clause-new
returns-clause-new c = c.in_ok-insert.ensures.added ∙ ap not (found-named c.args.seen.now.keys c.args.name)

pub returns-clause-noted : goal.returns-clause-noted
returns-clause-noted c n = ap (λ ks. list_any (is_named n) ks) c.in_ok-insert.ensures.keys ∙ has-insert c.args.seen.now.keys c.args.name n
