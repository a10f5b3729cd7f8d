use Rattle.std.proofs.Common.{Option, ℕ, subst}
use Rattle.dt_text.specs.Lexeme.Lexemes.{Scanned}
use Rattle.dt_source.proofs.Parsing.{is_found, is_refused}
use Rattle.dt_source.proofs.SpelledSources.{sources_are_spelled, sources_are_read}
use Rattle.dt_source.proofs.SourceOrder.{in_order}
use Rattle.dt_source.proofs.parser.read.Goals as goal

pub returns-in-None-clause-found : goal.returns-in-None-clause-found
returns-in-None-clause-found c =
    let h = subst (λ (o : Option ℕ). Scanned c.args.language c.args.text.now c.in_ok-lexemes.lexemes.items o) c.in-None.is c.in_ok-lexemes.ensures in
    is_found sources_are_spelled in_order c.args.language c.args.text.now c.as_slice.result.now c.in_ok-lexemes.lexemes.items c.source.result h c.as_slice.ensures.value c.source.ensures

pub returns-in-None-clause-refused : goal.returns-in-None-clause-refused
returns-in-None-clause-refused c =
    let h = subst (λ (o : Option ℕ). Scanned c.args.language c.args.text.now c.in_ok-lexemes.lexemes.items o) c.in-None.is c.in_ok-lexemes.ensures in
    is_refused sources_are_read c.args.language c.args.text.now c.as_slice.result.now c.in_ok-lexemes.lexemes.items c.source.result h c.as_slice.ensures.value c.source.ensures
