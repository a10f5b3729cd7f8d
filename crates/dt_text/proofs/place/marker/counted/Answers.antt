use Rattle.std.proofs.Common.{sym, ◌∙◌, get_or}
use Rattle.dt_text.proofs.PlaceLemmas.Sites.{counted_end, counted_here, counted_next, small_more}
use Rattle.dt_text.proofs.place.marker.counted.Goals as goal

pub returns-then-not-counts-clause-value : goal.returns-then-not-counts-clause-value
returns-then-not-counts-clause-value c = sym (counted_here c.loop-i.number c.args.s.now c.loop-i.i c.loop-i-test.true (sym c.counts.ensures ∙ c.if-not-counts.true)) ∙ c.loop-i.invariant.value

pub loop-i-preserved : goal.loop-i-preserved
loop-i-preserved c = record {
  value = sym (counted_next c.loop-i.number c.args.s.now c.loop-i.i c.loop-i-test.true (sym c.counts.ensures ∙ c.if-not-counts.false)) ∙ c.loop-i.invariant.value;
  small = small_more c.loop-i.number (get_or c.args.s.now c.loop-i.i 0) (sym c.counts.ensures ∙ c.if-not-counts.false);
}

pub returns-clause-value : goal.returns-clause-value
returns-clause-value c = sym (counted_end c.loop-i.number c.args.s.now c.loop-i.i c.loop-i-test.false) ∙ c.loop-i.invariant.value
