use Rattle.std.proofs.Common.{ap, eqb}
use Rattle.std.specs.Prelude.{not}
use Rattle.std.proofs.lemmas.Bool.{eq-eqb, ne_eqb}
use Rattle.dt_text.specs.Lexeme.Fronts.{ends_word}
use Rattle.dt_text.proofs.LexemeLemmas.Runs.{leads_here, leads_step, leads_over, ends_hit, ends_pass, ends_nil}
use Rattle.dt_text.proofs.lexeme.fronts.word_end.Goals as goal

pub returns-then-c-eq47 : goal.returns-then-c-eq47
returns-then-c-eq47 c = leads_here ends_word ends_word c.args.s.now c.loop-i.i c.loop-i-test.true (λ u. ends_hit (λ d. not (eqb d 47)) (λ d. eqb d 47) _ u (eq-eqb _ _ c.if-c-eq47.true)) c.loop-i.invariant

pub loop-i-preserved : goal.loop-i-preserved
loop-i-preserved c = leads_step ends_word ends_word ends_word c.args.s.now c.loop-i.i c.loop-i-test.true (ends_nil (λ d. not (eqb d 47)) (λ d. eqb d 47)) (λ u. ends_pass (λ d. not (eqb d 47)) (λ d. eqb d 47) _ u (ne_eqb _ _ c.if-c-eq47.false) (ap not (ne_eqb _ _ c.if-c-eq47.false))) c.loop-i.invariant

pub returns : goal.returns
returns c = leads_over ends_word ends_word c.args.s.now c.loop-i.i c.loop-i-test.false (ends_nil (λ d. not (eqb d 47)) (λ d. eqb d 47)) c.loop-i.invariant
