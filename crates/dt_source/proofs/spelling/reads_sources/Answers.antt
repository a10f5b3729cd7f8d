use Rattle.dt_source.proofs.SpelledSources.{sources_are_spelled, sources_are_read}
use Rattle.dt_source.proofs.OneSource.{one_spelling}
use Rattle.dt_source.proofs.spelling.reads_sources.Goals as goal

pub returns-clause-read : goal.returns-clause-read
returns-clause-read c = sources_are_spelled

pub returns-clause-spelled : goal.returns-clause-spelled
returns-clause-spelled c = sources_are_read

pub returns-clause-one : goal.returns-clause-one
returns-clause-one c = one_spelling
