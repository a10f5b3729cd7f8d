use Rattle.std.proofs.Common.{ℕ, ◌+◌, List, sym, subst, Some, Option, Bool, false, true, eqb}
use Rattle.std.proofs.lemmas.Bool.{eq-eqb, ne_eqb}
use Rattle.dt_text.specs.Lexeme.Fronts.{closes_character}
use Rattle.dt_text.proofs.LexemeLemmas.Runs.{LeadsOr, leads_or_here, leads_or_step, leads_or_either, leads_or_over}
use Rattle.dt_text.proofs.LexemeLemmas.Numbers.{character_nil, character_here, character_either, character_on}
use Rattle.dt_text.proofs.lexeme.fronts.character_len.Goals as goal
use Rattle.dt_text.proofs.lexeme.fronts.character_len.Goals.{then-c-eq39+else-not-behind, else-c-eq39}

pub returns-then-not-behind : goal.returns-then-not-behind
returns-then-not-behind c = leads_or_here (closes_character false) (closes_character c.loop-i.behind) c.args.s.now c.loop-i.i c.loop-i.longest c.loop-i-test.true (λ u. character_here c.loop-i.behind _ u (eq-eqb _ _ c.if-c-eq39.true) c.if-not-behind.true) c.loop-i.invariant

pub loop-i-preserved : goal.loop-i-preserved
loop-i-preserved c =
    elim c.if-c-eq39.branch [
      | then-c-eq39+else-not-behind w ↦ rw (w.behind-is, w.longest-is) (leads_or_either (closes_character false) (closes_character c.loop-i.behind) (closes_character false) c.args.s.now c.loop-i.i c.loop-i.longest c.loop-i-test.true (character_nil false) (λ u. character_either c.loop-i.behind _ u (eq-eqb _ _ w.if-c-eq39.true) w.if-not-behind.false) c.loop-i.invariant)
      | else-c-eq39 w ↦ rw (w.behind-is, w.is_plain-behind.ensures, w.longest-is) (leads_or_step (closes_character false) (closes_character c.loop-i.behind) (closes_character (eqb _ 92)) c.args.s.now c.loop-i.i c.loop-i.longest c.loop-i-test.true (character_nil c.loop-i.behind) (λ u. character_on c.loop-i.behind _ u (ne_eqb _ _ w.if-c-eq39.false)) c.loop-i.invariant)
    ]

pub returns : goal.returns
returns c = leads_or_over (closes_character false) (closes_character c.loop-i.behind) c.args.s.now c.loop-i.i c.loop-i.longest c.loop-i-test.false (character_nil c.loop-i.behind) c.loop-i.invariant
