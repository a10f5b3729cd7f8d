use Rattle.std.proofs.Common.{length, sym, ap, ◌∙◌, arith}
use Rattle.dt_tree.proofs.PathTexts.{names_text-below}
use Rattle.dt_tree.proofs.path.Path.names_text.Goals as goal

pub returns : goal.returns
returns c =
    let long = ap length c.self.view_is in
    c.as_slice.ensures.value ∙ c.self.view_is ∙ sym (names_text-below c.args.self.now c.check.ensures (λ is. c.if-len-eq1.false (omega (arith, long))))
