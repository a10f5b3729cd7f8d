use Rattle.std.proofs.Common.{◌≡◌, true, false, drop, ap, sym, ◌∙◌, arith}
use Rattle.dt_blob.specs.Strings.{begins, ended}
use Rattle.dt_blob.proofs.Places.{place-at_end, place-here, place-next}
use Rattle.dt_patch.proofs.naming.string_place.Goals as goal

pub returns-then-begins_with : goal.returns-then-begins_with
returns-then-begins_with c =
    let name = c.args.name.now in
    let test : begins (ended name) (drop c.loop-at.at c.args.strings.now) ≡ true = ap (begins (ended name)) (sym c.behind.ensures) ∙ sym c.begins_with.ensures ∙ c.if-begins_with.true in
    sym (place-here c.loop-at.at (ended name) c.args.strings.now (omega arith) test) ∙ c.loop-at.invariant

pub loop-at-preserved : goal.loop-at-preserved
loop-at-preserved c =
    let name = c.args.name.now in
    let test : begins (ended name) (drop c.loop-at.at c.args.strings.now) ≡ false = ap (begins (ended name)) (sym c.behind.ensures) ∙ sym c.begins_with.ensures ∙ c.if-begins_with.false in
    sym (place-next c.loop-at.at (ended name) c.args.strings.now (omega arith) test) ∙ c.loop-at.invariant

pub returns : goal.returns
returns c = sym (place-at_end c.loop-at.at c.args.name.now c.args.strings.now (omega arith)) ∙ c.loop-at.invariant
