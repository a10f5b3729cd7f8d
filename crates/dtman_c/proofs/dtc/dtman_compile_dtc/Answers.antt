-- What `compiled` answers is what is given.
use Rattle.dtman_c.specs.Crossing.{OrNoMemory}
use Rattle.dtman_c.specs.Dtc.{IsDtcAnswer, options_of}
use Rattle.dtman_c.proofs.EngineLemmas.{handed_dtc}
use Rattle.dtman_c.proofs.dtc.dtman_compile_dtc.Goals as goal

pub returns : goal.returns
returns c =
    handed_dtc c.compiled.result (OrNoMemory (IsDtcAnswer (options_of c.args.choice.now) c.args.source.now c.args.files.now)) c.args.out.now c.give.new.out c.give.result
    c.compiled.ensures c.give.ensures
