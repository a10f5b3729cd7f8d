-- Whether there is an explanation says whether a refusal has the number, and it has the name.
use Rattle.std.proofs.Common.{Some, ap, sym, ◌∙◌, arith}
use Rattle.dtman_engine.specs.Explain.{name_for}
use Rattle.dtman_c.proofs.NamingLemmas.{named, nameless, unnamed_past}
use Rattle.dtman_c.proofs.naming.dtman_name.Goals as goal

pub returns-then-number-gt255 : goal.returns-then-number-gt255
returns-then-number-gt255 c =
    nameless c.args.out.now c.unnamed.result (name_for c.args.number) (sym (unnamed_past c.args.number (omega (arith, c.if-number-gt255.true)))) c.unnamed.ensures

pub returns-in-Some : goal.returns-in-Some
returns-in-Some c =
    named c.as_bytes.result.now c.args.out.now c.put.new.out c.put.result (name_for c.args.number)
    (ap Some c.as_bytes.ensures.value ∙ c.in-Some.ensures.named) c.put.ensures

pub returns-in-None : goal.returns-in-None
returns-in-None c =
    nameless c.args.out.now c.unnamed-in-None.result (name_for c.args.number) c.in-None.ensures.named c.unnamed-in-None.ensures
