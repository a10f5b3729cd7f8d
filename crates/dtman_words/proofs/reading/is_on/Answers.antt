-- The option's text is its first value.
use Rattle.std.proofs.Common.{refl}
use Rattle.dtman_words.proofs.MetLemmas.{value, no_value}
use Rattle.dtman_words.proofs.reading.is_on.Goals as goal

pub returns-in-Some : goal.returns-in-Some
returns-in-Some c = rw (value c.args.given.now c.args.name.now c.in-Some.text.now c.in-Some.ensures) c.eq.ensures

pub returns-in-None : goal.returns-in-None
returns-in-None c = rw (no_value c.args.given.now c.args.name.now c.in-None.ensures) refl
