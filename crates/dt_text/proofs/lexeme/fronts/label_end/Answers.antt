use Rattle.std.proofs.Common.{sym, eqb}
use Rattle.std.proofs.lemmas.Bool.{eq-eqb, ne_eqb}
use Rattle.dt_text.specs.Lexeme.Bytes.{is_word}
use Rattle.dt_text.specs.Lexeme.Fronts.{ends_label}
use Rattle.dt_text.proofs.LexemeLemmas.Runs.{leads_here, leads_stop, leads_step, leads_over, ends_hit, ends_miss, ends_pass, ends_nil}
use Rattle.dt_text.proofs.lexeme.fronts.label_end.Goals as goal

pub returns-then-c-eq58 : goal.returns-then-c-eq58
returns-then-c-eq58 c = leads_here ends_label ends_label c.args.s.now c.loop-i.i c.loop-i-test.true (λ u. ends_hit is_word (λ d. eqb d 58) _ u (eq-eqb _ _ c.if-c-eq58.true)) c.loop-i.invariant

pub returns-then-not-is_word : goal.returns-then-not-is_word
returns-then-not-is_word c = leads_stop ends_label ends_label c.args.s.now c.loop-i.i c.loop-i-test.true (ends_nil is_word (λ d. eqb d 58)) (λ u. ends_miss is_word (λ d. eqb d 58) _ u (ne_eqb _ _ c.if-c-eq58.false) (sym c.if-not-is_word.ensures)) c.loop-i.invariant

pub loop-i-preserved : goal.loop-i-preserved
loop-i-preserved c = leads_step ends_label ends_label ends_label c.args.s.now c.loop-i.i c.loop-i-test.true (ends_nil is_word (λ d. eqb d 58)) (λ u. ends_pass is_word (λ d. eqb d 58) _ u (ne_eqb _ _ c.if-c-eq58.false) (sym c.if-not-is_word.ensures)) c.loop-i.invariant

pub returns : goal.returns
returns c = leads_over ends_label ends_label c.args.s.now c.loop-i.i c.loop-i-test.false (ends_nil is_word (λ d. eqb d 58)) c.loop-i.invariant
