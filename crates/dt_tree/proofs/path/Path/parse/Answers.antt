use Rattle.std.proofs.Common.{◌≡◌, true, false, ap, sym, ◌∙◌, arith}
use Rattle.std.proofs.lemmas.Grind.{common_steps}
use Rattle.dt_tree.specs.Path.{is_path}
use Rattle.dt_tree.proofs.path.Path.parse.Goals as goal

pub returns-then-not-is_path-clause-bad : goal.returns-then-not-is_path-clause-bad
returns-then-not-is_path-clause-bad c = let is : is_path c.args.bytes.now ≡ false = sym c.is_path.ensures ∙ c.if-not-is_path.true in grind (arith, common_steps, is)

pub returns-in_err-text-clause-bad : goal.returns-in_err-text-clause-bad
returns-in_err-text-clause-bad c = let is : is_path c.args.bytes.now ≡ true = sym c.is_path.ensures ∙ c.if-not-is_path.false in grind (arith, common_steps, is)

pub invariant_of-result : goal.invariant_of-result
invariant_of-result c =
    let is : is_path c.args.bytes.now ≡ true = sym c.is_path.ensures ∙ c.if-not-is_path.false in
    let there : is_path c.in_ok-text.text.items ≡ true = ap is_path c.in_ok-text.ensures.items ∙ is in
    grind (arith, common_steps, there)

pub returns-clause-valid : goal.returns-clause-valid
returns-clause-valid c = let is : is_path c.args.bytes.now ≡ true = sym c.is_path.ensures ∙ c.if-not-is_path.false in grind (arith, common_steps, is)

pub returns-clause-bad : goal.returns-clause-bad
returns-clause-bad c = let is : is_path c.args.bytes.now ≡ true = sym c.is_path.ensures ∙ c.if-not-is_path.false in grind (arith, common_steps, is)
