use Rattle.std.proofs.Common.{rules, ◌≡◌, true, false, take_all, arith}
use Rattle.std.proofs.lemmas.Bool.Decides.{nat_tests}
use Rattle.std.proofs.lemmas.Grind.{common_steps}
use Rattle.std.proofs.lemmas.List.{take_rest}
use Rattle.std.proofs.lemmas.List.Splits.{slice_split_none}
use Rattle.std.proofs.lemmas.List.Elements.{All-more}
use Rattle.dt_tree.specs.Path.{is_slash}
use Rattle.dt_tree.proofs.FirstName.{slice_split_read}
use Rattle.dt_tree.proofs.node.changing.split_first_name.Goals as goal

pub returns-then-byte-eq47 : goal.returns-then-byte-eq47
returns-then-byte-eq47 c =
    rw take_rest (slice_split_read is_slash c.args.names.now c.loop-at.at 47 c.loop-at-test.true (search rules) (λ i. true) c.loop-at.invariant)

pub loop-at-preserved : goal.loop-at-preserved
loop-at-preserved c = All-more (λ x. is_slash x ≡ false) c.args.names.now c.loop-at.at 0 c.loop-at-test.true c.loop-at.invariant (grind (arith, common_steps, nat_tests, c.if-byte-eq47.false))

pub returns : goal.returns
returns c = slice_split_none is_slash c.args.names.now (rw (take_all _ _ c.loop-at-test.false) at c.loop-at.invariant)
