-- No value was given, so no workers were asked for.
use Rattle.std.proofs.Common.{codes}
use Rattle.dtman_words.proofs.MetLemmas.{no_value}
use Rattle.dtman_words.proofs.reading.asked_workers.Goals as goal

pub returns-in-None : goal.returns-in-None
returns-in-None c = no_value c.args.given.now (codes "workers") c.in-None.ensures
