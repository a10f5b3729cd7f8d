use Rattle.std.proofs.Common.{◌≡◌, ◌+◌, ◌==◌, drop}
use Rattle.std.specs.List.{prefix_len}
use Rattle.dt_live.proofs.preorder.run.run_length.Given as goal

abbrev pub invariant-loop-place : goal.invariant-loop-place
invariant-loop-place g l = l.place + prefix_len (λ x. l.node == x.node) (drop l.place l.properties) ≡ prefix_len (λ x. l.node == x.node) l.properties
