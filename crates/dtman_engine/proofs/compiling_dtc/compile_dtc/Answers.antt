-- One source fits a text, so what is answered of the one that was parsed is answered of what the text says.
use Rattle.std.proofs.Common.{refl, ap, subst, ◌∙◌}
use Rattle.dt_text.specs.declared.lexeme.language.Language.TheVariants.{Dtc}
use Rattle.dt_source.specs.Filled.{filled}
use Rattle.dt_source.specs.Meaning.{meaning_of}
use Rattle.dt_source.specs.TreeMeaning.Syntax.{Meaning}
use Rattle.dtman_engine.specs.CompileDtc.{AnswersFilled}
use Rattle.dtman_engine.specs.SourceFaults.{source_fault}
use Rattle.dtman_engine.proofs.CompileDtcLemmas.{compiled, in-vain, wanted}
use Rattle.dtman_engine.proofs.compiling_dtc.compile_dtc.Goals as goal

pub returns-in-Err-clause-said : goal.returns-in-Err-clause-said
returns-in-Err-clause-said c =
    let kind = c.in-Err.error.kind in
    let place = c.in-Err.error.place in
    let text = c.args.source.now in
    λ m short says.
    wanted c.args.options text (filled c.args.binaries.items m) c.from.result
    (c.from.ensures ∙ ap (λ k. source_fault k place) (c.one_source.ensures.accepted Dtc text m kind place short says c.in-Err.ensures.refused))

pub returns-in-Ok-clause-answer : goal.returns-in-Ok-clause-answer
returns-in-Ok-clause-answer c =
    let found = c.in-Ok.ensures.found in
    let m = meaning_of c.in-Ok.parsed in
    let files = c.args.binaries.items in
    compiled c.args.options c.args.source.now files m found.0 found.1 (filled files m) refl c.compiled_with.result c.compiled_with.ensures.answer

pub returns-in-Ok-clause-said : goal.returns-in-Ok-clause-said
returns-in-Ok-clause-said c =
    let text = c.args.source.now in
    λ m short says.
    subst (λ (x : Meaning). AnswersFilled c.args.options text (filled c.args.binaries.items x) c.compiled_with.result)
    (c.one_source.ensures.meaning Dtc text (meaning_of c.in-Ok.parsed) m c.in-Ok.ensures.found.1 says) c.compiled_with.ensures.answer

pub returns-in-Ok-clause-refused : goal.returns-in-Ok-clause-refused
returns-in-Ok-clause-refused c =
    let found = c.in-Ok.ensures.found in
    let m = meaning_of c.in-Ok.parsed in
    let files = c.args.binaries.items in
    in-vain c.args.options c.args.source.now files m found.0 found.1 (filled files m) refl c.compiled_with.result c.compiled_with.ensures.answer
