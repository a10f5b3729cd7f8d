use Rattle.dt_questions.proofs.addresses.+raised_within.Given as goal

abbrev pub decreases-raised_within : goal.decreases-raised_within
decreases-raised_within l = l.levels
