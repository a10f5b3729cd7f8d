use Rattle.std.proofs.Common.{sym}
use Rattle.std.proofs.lemmas.Bool.{eq-eqb, ne_eqb}
use Rattle.dt_text.specs.Lexeme.Fronts.{closes_path}
use Rattle.dt_text.proofs.LexemeLemmas.Runs.{leads_here, leads_stop, leads_step, leads_over}
use Rattle.dt_text.proofs.LexemeLemmas.Numbers.{path_nil, path_brace, path_brace_no, path_next, path_dead}
use Rattle.dt_text.proofs.lexeme.fronts.path_end.Goals as goal

pub returns-then-may_close : goal.returns-then-may_close
returns-then-may_close c = leads_here (closes_path c.args.language 0) (closes_path c.args.language c.loop-i.name) c.args.s.now c.loop-i.i c.loop-i-test.true (λ u. path_brace c.args.language c.loop-i.name _ u (eq-eqb _ _ c.if-c-eq125.true) (sym c.if-may_close.ensures)) c.loop-i.invariant

pub returns-else-may_close : goal.returns-else-may_close
returns-else-may_close c = leads_stop (closes_path c.args.language 0) (closes_path c.args.language c.loop-i.name) c.args.s.now c.loop-i.i c.loop-i-test.true (path_nil c.args.language c.loop-i.name) (λ u. path_brace_no c.args.language c.loop-i.name _ u (eq-eqb _ _ c.if-c-eq125.true) (sym c.if-may_close.ensures)) c.loop-i.invariant

pub returns-in_default : goal.returns-in_default
returns-in_default c = leads_stop (closes_path c.args.language 0) (closes_path c.args.language c.loop-i.name) c.args.s.now c.loop-i.i c.loop-i-test.true (path_nil c.args.language c.loop-i.name) (λ u. path_dead c.args.language c.loop-i.name _ u (ne_eqb _ _ c.if-c-eq125.false) (sym c.in_default.ensures)) c.loop-i.invariant

pub loop-i-preserved : goal.loop-i-preserved
loop-i-preserved c = leads_step (closes_path c.args.language 0) (closes_path c.args.language c.loop-i.name) (closes_path c.args.language c.in-Some.longer) c.args.s.now c.loop-i.i c.loop-i-test.true (path_nil c.args.language c.loop-i.name) (λ u. path_next c.args.language c.loop-i.name _ c.in-Some.longer u (ne_eqb _ _ c.if-c-eq125.false) (sym c.in-Some.ensures)) c.loop-i.invariant

pub returns : goal.returns
returns c = leads_over (closes_path c.args.language 0) (closes_path c.args.language c.loop-i.name) c.args.s.now c.loop-i.i c.loop-i-test.false (path_nil c.args.language c.loop-i.name) c.loop-i.invariant
