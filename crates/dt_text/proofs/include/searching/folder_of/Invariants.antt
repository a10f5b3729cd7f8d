-- No slash stands behind the end.
use Rattle.dt_text.proofs.IncludeLemmas.Searches.{NoneBehind}
use Rattle.dt_text.proofs.include.searching.folder_of.Given as goal

abbrev pub invariant-loop-end : goal.invariant-loop-end
invariant-loop-end l = NoneBehind l.path l.end

abbrev pub decreases-loop-end : goal.decreases-loop-end
decreases-loop-end l = l.end
