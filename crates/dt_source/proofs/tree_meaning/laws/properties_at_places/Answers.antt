use Rattle.dt_source.proofs.TreeMeaningLemmas.SeenProperties.{made, removed}
use Rattle.dt_source.proofs.tree_meaning.laws.properties_at_places.Goals as goal

pub returns-clause-made : goal.returns-clause-made
returns-clause-made c = λ p n v places es. made p n v tt places es

pub returns-clause-removed : goal.returns-clause-removed
returns-clause-removed c = λ p places es. removed p places es
