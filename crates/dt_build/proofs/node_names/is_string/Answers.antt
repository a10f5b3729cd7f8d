use Rattle.std.proofs.Common.{◌∙◌, sym}
use Rattle.dt_build.proofs.NodeNames.{other-last, string-is}
use Rattle.dt_build.proofs.node_names.is_string.Goals as goal

pub returns-then-value-count-ne0 : goal.returns-then-value-count-ne0
returns-then-value-count-ne0 c = sym (other-last c.args.value.now c.args.text.now 0 c.if-value-count-ne0.true)

pub returns : goal.returns
returns c = c.eq.ensures ∙ string-is c.args.value.now c.args.text.now 0 c.if-value-count.false c.if-value-count-ne0.false
