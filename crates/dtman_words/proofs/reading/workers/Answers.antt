-- What the getter reads is the number of the option's text.
use Rattle.std.proofs.Common.{codes}
use Rattle.std.specs.Str.Parse.{ParsesUnsigned, ExplainsUnsignedError, HasUnsignedDigitsIfOk}
use Rattle.dtman_words.proofs.MetLemmas.{number}
use Rattle.dtman_words.proofs.reading.workers.Goals as goal

pub returns : goal.returns
returns c = (
  number (λ text r. ParsesUnsigned 8 10 text r × ExplainsUnsignedError 10 text r × HasUnsignedDigitsIfOk text r) c.args.given.now (codes "workers") c.in_ok-number.number
      c.get_one.result (λ t given. given.0) c.in_ok-number.was c.get_one.ensures.none (λ t is. c.get_one.ensures.value t is),
  c.if-number-lt1.false,
  c.if-number-gt-MAX_WORKERS.false,
)
