-- What the calls promise comes before the search, which else looks at all that is dropped.
use Rattle.std.proofs.Common.{rules}
use Rattle.dtman_engine.proofs.replay.replay_bytes.Goals as goal

pub returns-clause-answer : goal.returns-clause-answer
returns-clause-answer c =
    let replayed = c.in_ok-core.ensures in
    let text = c.report_of.ensures.report in
    search rules

pub returns-clause-history : goal.returns-clause-history
returns-clause-history c =
    let replayed = c.in_ok-core.ensures in
    let history = c.check.ensures in
    let text = c.report_of.ensures.report in
    search rules
