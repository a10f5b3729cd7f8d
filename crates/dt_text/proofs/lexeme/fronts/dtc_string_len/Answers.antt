use Rattle.std.proofs.Common.{sym, false}
use Rattle.dt_text.specs.Lexeme.Fronts.{closes_string}
use Rattle.dt_text.proofs.LexemeLemmas.Runs.{leads_here, leads_stop, leads_step, leads_over}
use Rattle.dt_text.proofs.LexemeLemmas.Numbers.{string_nil, string_breaks, string_here, string_on}
use Rattle.dt_text.proofs.lexeme.fronts.dtc_string_len.Goals as goal

pub returns-then-breaks_off : goal.returns-then-breaks_off
returns-then-breaks_off c = leads_stop (closes_string false) (closes_string c.loop-i.is_escaped) c.args.s.now c.loop-i.i c.loop-i-test.true (string_nil c.loop-i.is_escaped) (λ u. string_breaks c.loop-i.is_escaped _ u (sym c.if-breaks_off.ensures)) c.loop-i.invariant

pub returns-then-is_plain : goal.returns-then-is_plain
returns-then-is_plain c = leads_here (closes_string false) (closes_string c.loop-i.is_escaped) c.args.s.now c.loop-i.i c.loop-i-test.true (λ u. string_here c.loop-i.is_escaped _ u (sym c.if-is_plain.ensures)) c.loop-i.invariant

pub loop-i-preserved : goal.loop-i-preserved
loop-i-preserved c = rw (c.is_plain-is_escaped.ensures) (leads_step (closes_string false) (closes_string c.loop-i.is_escaped) _ c.args.s.now c.loop-i.i c.loop-i-test.true (string_nil c.loop-i.is_escaped) (λ u. string_on c.loop-i.is_escaped _ u (sym c.if-breaks_off.ensures) (sym c.if-is_plain.ensures)) c.loop-i.invariant)

pub returns : goal.returns
returns c = leads_over (closes_string false) (closes_string c.loop-i.is_escaped) c.args.s.now c.loop-i.i c.loop-i-test.false (string_nil c.loop-i.is_escaped) c.loop-i.invariant
