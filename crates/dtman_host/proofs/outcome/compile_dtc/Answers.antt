-- The text that is compiled is the whole one, which is short enough.
use Rattle.std.proofs.Common.{◌≡◌, ℕ, List, subst, sym}
use Rattle.dtman_engine.specs.Limits.{IsShort}
use Rattle.dtman_host.specs.Outcome.{IsAnswer}
use Rattle.dtman_host.proofs.outcome.compile_dtc.Goals as goal

pub returns-in-Ok : goal.returns-in-Ok
returns-in-Ok g c =
    let given = c.compile_dtc-answer.ensures in
    let read = c.as_slice.result.now in
    let value : read ≡ c.in-Ok.field-0.text.items = c.as_slice.ensures.value in
    let short : IsShort read = subst (λ (t : List ℕ). IsShort t) (sym value) c.in-Ok.ensures.short in
    let answer : IsAnswer g.F.Files.finds c.args.name.now c.args.source.now c.args.options read c.compile_dtc-answer.result = record {
      whole = c.in-Ok.field-0;
      included = c.in-Ok.ensures.whole;
      text_is = value;
      answer = given.answer;
      said = λ m says. given.said m short says;
      refused = given.refused;
    } in
    subst (λ (t : List ℕ). IsAnswer g.F.Files.finds c.args.name.now c.args.source.now c.args.options t c.compile_dtc-answer.result) value answer
