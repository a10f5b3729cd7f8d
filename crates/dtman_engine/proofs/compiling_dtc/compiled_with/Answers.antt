use Rattle.std.proofs.Common.{Result, sym, subst}
use Rattle.dt_text.specs.declared.lexeme.lexeme.Refusal.{Refusal}
use Rattle.dt_source.specs.Filled.{filled}
use Rattle.dt_source.specs.Meaning.{meaning_of}
use Rattle.dt_source.specs.TreeMeaning.Syntax.{Meaning}
use Rattle.dtman_engine.specs.CompileDtc.{AnswersFilled}
use Rattle.dtman_engine.proofs.CompileDtcLemmas.{lacks}
use Rattle.dtman_engine.proofs.compiling_dtc.compiled_with.Goals as goal

pub returns-in-Err-clause-answer : goal.returns-in-Err-clause-answer
returns-in-Err-clause-answer c =
    lacks c.args.options c.args.text.now c.in-Err.error (filled c.args.binaries.items (meaning_of c.args.parsed)) c.lack.result c.in-Err.ensures c.lack.ensures

pub returns-in-Ok-clause-answer : goal.returns-in-Ok-clause-answer
returns-in-Ok-clause-answer c =
    subst (λ (x : Result Meaning Refusal). AnswersFilled c.args.options c.args.text.now x c.compile_filled.result) (sym c.in-Ok.ensures) c.compile_filled.ensures.answer
