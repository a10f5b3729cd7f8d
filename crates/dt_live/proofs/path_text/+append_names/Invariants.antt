use Rattle.dt_live.proofs.path_text.+append_names.Given as goal

abbrev pub decreases-append_names : goal.decreases-append_names
decreases-append_names l = l.node
