-- One source fits a text, so what is answered of the one that was parsed is answered of what the text says.
use Rattle.std.proofs.Common.{inl, MatchResult, ap, subst, ◌∙◌}
use Rattle.dt_text.specs.declared.lexeme.language.Language.TheVariants.{Profile}
use Rattle.dt_source.specs.Meaning.{meaning_of}
use Rattle.dt_source.specs.Parse.{Refuses, Says}
use Rattle.dt_source.specs.TreeMeaning.Syntax.{Meaning}
use Rattle.dtman_engine.specs.Compile.{CannotBuild, IsBlobOf, meant_by}
use Rattle.dtman_engine.specs.Fault.{fault_value}
use Rattle.dtman_engine.specs.SourceFaults.{source_fault}
use Rattle.dtman_engine.proofs.CompileLemmas.{compiled, in-vain}
use Rattle.dtman_engine.proofs.compiling.compile_bytes.Goals as goal

pub returns-in-Err-clause-said : goal.returns-in-Err-clause-said
returns-in-Err-clause-said c =
    let kind = c.in-Err.error.kind in
    let place = c.in-Err.error.place in
    λ m short says. inl (c.from.ensures ∙ ap (λ k. source_fault k place) (c.one_source.ensures.accepted Profile c.args.source.now m kind place short says c.in-Err.ensures.refused))

pub returns-in-Ok-clause-answer : goal.returns-in-Ok-clause-answer
returns-in-Ok-clause-answer c =
    compiled (λ blob. blob.items) (Says Profile c.args.source.now) (meant_by c.args.symbols) c.args.source.now (meaning_of c.in-Ok.parsed) c.source_blob.result c.in-Ok.ensures.found.0 c.in-Ok.ensures.found.1 c.source_blob.ensures

pub returns-in-Ok-clause-said : goal.returns-in-Ok-clause-said
returns-in-Ok-clause-said c =
    let symbols = c.args.symbols in
    λ m short says.
    subst (λ (x : Meaning). MatchResult c.source_blob.result (λ blob. IsBlobOf symbols x blob.items) (λ fault. CannotBuild symbols x (fault_value fault)))
    (c.one_source.ensures.meaning Profile c.args.source.now (meaning_of c.in-Ok.parsed) m c.in-Ok.ensures.found.1 says) c.source_blob.ensures

pub returns-in-Ok-clause-refused : goal.returns-in-Ok-clause-refused
returns-in-Ok-clause-refused c =
    in-vain (λ blob. blob.items) (Says Profile c.args.source.now) (meant_by c.args.symbols) c.args.source.now (meaning_of c.in-Ok.parsed) (Refuses Profile c.args.source.now) c.source_blob.result c.in-Ok.ensures.found.0 c.in-Ok.ensures.found.1 c.source_blob.ensures
