-- The copy of a string stands last.
use Rattle.std.proofs.Common.{◌∙◌, ap, sym, [], ◌∷◌, ◌++◌, take}
use Rattle.std.proofs.lemmas.List.{take_more}
use Rattle.bus_plan.proofs.strings.copy_strings.Goals as goal

pub loop-string-preserved : goal.loop-string-preserved
loop-string-preserved c =
    let i = c.loop-string.string-index in
    c.in_ok-push.ensures.items ∙ ap (λ ss. ss ++ c.in_ok-copy.field-0 ∷ []) c.loop-string.invariant
    ∙ ap (λ s. take i c.args.strings.now ++ s ∷ []) (c.in_ok-copy.ensures ∙ c.string-item.is) ∙ sym (take_more c.args.strings.now i c.string-item.result c.loop-string-test.true)
