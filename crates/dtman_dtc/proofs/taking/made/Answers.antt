use Rattle.std.proofs.Common.{ℕ, List, subst}
use Rattle.dtman_host.specs.SourceFiles.{SomeFile}
use Rattle.dtman_dtc.specs.DtcOutput.{asked_of}
use Rattle.dtman_host.specs.Outcome.{IsAnswer}
use Rattle.dtman_dtc.proofs.DtcLemmas.{answer-read}
use Rattle.dtman_dtc.proofs.taking.made.Goals as goal

pub returns-in-Ok-answer : goal.returns-in-Ok-answer
returns-in-Ok-answer g c =
    let name = c.source_in.result.name.now in
    let text = c.in-Answered.text.items in
    answer-read c.args.options.now name c.args.source.now text c.in-Answered.answer c.in-Ok-answer.compiled c.in-Ok-answer.is
    (subst (λ (bytes : List ℕ). IsAnswer SomeFile name bytes (asked_of c.args.options.now) text c.in-Answered.answer) c.source_in.ensures.bytes c.in-Answered.ensures)
