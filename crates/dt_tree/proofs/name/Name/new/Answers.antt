use Rattle.std.proofs.Common.{◌≡◌, true, false, ap, sym, ◌∙◌, arith}
use Rattle.std.proofs.lemmas.Grind.{common_steps}
use Rattle.dt_tree.specs.Name.{is_name}
use Rattle.dt_tree.proofs.name.Name.new.Goals as goal

pub returns-then-not-is_name-clause-bad : goal.returns-then-not-is_name-clause-bad
returns-then-not-is_name-clause-bad c = let is : is_name c.args.bytes.now ≡ false = sym c.is_name.ensures ∙ c.if-not-is_name.true in grind (arith, common_steps, is)

pub returns-in_err-bytes-clause-bad : goal.returns-in_err-bytes-clause-bad
returns-in_err-bytes-clause-bad c = let is : is_name c.args.bytes.now ≡ true = sym c.is_name.ensures ∙ c.if-not-is_name.false in grind (arith, common_steps, is)

pub invariant_of-result : goal.invariant_of-result
invariant_of-result c =
    let is : is_name c.args.bytes.now ≡ true = sym c.is_name.ensures ∙ c.if-not-is_name.false in
    let there : is_name c.in_ok-bytes.bytes.items ≡ true = ap is_name c.in_ok-bytes.ensures.items ∙ is in
    grind (arith, common_steps, there)

pub returns-clause-valid : goal.returns-clause-valid
returns-clause-valid c = let is : is_name c.args.bytes.now ≡ true = sym c.is_name.ensures ∙ c.if-not-is_name.false in grind (arith, common_steps, is)

pub returns-clause-bad : goal.returns-clause-bad
returns-clause-bad c = let is : is_name c.args.bytes.now ≡ true = sym c.is_name.ensures ∙ c.if-not-is_name.false in grind (arith, common_steps, is)
