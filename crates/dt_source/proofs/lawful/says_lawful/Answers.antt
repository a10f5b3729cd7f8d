use Rattle.dt_source.proofs.LawfulSources.{says_lawful}
use Rattle.dt_source.proofs.lawful.says_lawful.Goals as goal

pub returns : goal.returns
returns c = says_lawful
