use Rattle.std.proofs.Common.{sym}
use Rattle.dt_text.specs.Lexeme.Fronts.{closes}
use Rattle.dt_text.proofs.LexemeLemmas.Runs.{leads_here, leads_step, leads_over}
use Rattle.dt_text.proofs.LexemeLemmas.Numbers.{closes_nil, closes_here, closes_on}
use Rattle.dt_text.proofs.lexeme.fronts.quoted_len.Goals as goal

pub returns-then-is_plain : goal.returns-then-is_plain
returns-then-is_plain c = leads_here (closes c.args.quote c.args.escaped) (closes c.args.quote c.loop-i.is_escaped) c.args.s.now c.loop-i.i c.loop-i-test.true (λ u. closes_here c.args.quote c.loop-i.is_escaped _ u (sym c.if-is_plain.ensures)) c.loop-i.invariant

pub loop-i-preserved : goal.loop-i-preserved
loop-i-preserved c = rw (c.is_plain-is_escaped.ensures) (leads_step (closes c.args.quote c.args.escaped) (closes c.args.quote c.loop-i.is_escaped) _ c.args.s.now c.loop-i.i c.loop-i-test.true (closes_nil c.args.quote c.loop-i.is_escaped) (λ u. closes_on c.args.quote c.loop-i.is_escaped _ u (sym c.if-is_plain.ensures)) c.loop-i.invariant)

pub returns : goal.returns
returns c = leads_over (closes c.args.quote c.args.escaped) (closes c.args.quote c.loop-i.is_escaped) c.args.s.now c.loop-i.i c.loop-i-test.false (closes_nil c.args.quote c.loop-i.is_escaped) c.loop-i.invariant
