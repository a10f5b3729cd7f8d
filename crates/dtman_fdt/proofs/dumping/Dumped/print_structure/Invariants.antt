-- no write has failed so far
use Rattle.std.proofs.Common.{◌≡◌, false}
use Rattle.dtman_fdt.proofs.dumping.Dumped.print_structure.Given as goal

abbrev pub invariant-tokens : goal.invariant-tokens
invariant-tokens g l = g.O.Channel.has_failed l.output ≡ false
