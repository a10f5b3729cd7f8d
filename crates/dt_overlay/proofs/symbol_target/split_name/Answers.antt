use Rattle.std.proofs.Common.{◌≡◌, false, take_all, arith}
use Rattle.std.proofs.lemmas.Bool.Decides.{nat_tests}
use Rattle.std.proofs.lemmas.Grind.{common_steps}
use Rattle.std.proofs.lemmas.List.{take_rest}
use Rattle.std.proofs.lemmas.List.Splits.{slice_split_none}
use Rattle.std.proofs.lemmas.List.Elements.{All-more}
use Rattle.dt_tree.specs.Path.{is_slash}
use Rattle.dt_overlay.proofs.SymbolTexts.{split-read, text-read}
use Rattle.dt_overlay.proofs.symbol_target.split_name.Goals as goal

pub returns-then-byte-eq47-clause-names : goal.returns-then-byte-eq47-clause-names
returns-then-byte-eq47-clause-names c = rw take_rest (split-read c.args.names.now c.loop-at.at c.loop-at-test.true c.if-byte-eq47.true c.loop-at.invariant)

pub returns-then-byte-eq47-clause-text : goal.returns-then-byte-eq47-clause-text
returns-then-byte-eq47-clause-text c = rw take_rest (text-read c.args.names.now c.loop-at.at c.loop-at-test.true c.if-byte-eq47.true)

pub loop-at-preserved : goal.loop-at-preserved
loop-at-preserved c = All-more (λ x. is_slash x ≡ false) c.args.names.now c.loop-at.at 0 c.loop-at-test.true c.loop-at.invariant (grind (arith, common_steps, nat_tests, c.if-byte-eq47.false))

pub returns-clause-names : goal.returns-clause-names
returns-clause-names c = slice_split_none is_slash c.args.names.now (rw (take_all _ _ c.loop-at-test.false) at c.loop-at.invariant)
