use Rattle.dtman_dtc.proofs.folder_tree.+node_of.Given as goal

-- how many levels may still follow
abbrev pub decreases-node_of : goal.decreases-node_of
decreases-node_of g l = l.room
