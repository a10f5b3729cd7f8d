use Rattle.std.proofs.Common.{map}
use Rattle.bus_picture.specs.Why.Chain.{bound_by, first_of, waits}
use Rattle.bus_picture.proofs.WhyLemmas.ListedLemmas.{listed_more}
use Rattle.bus_picture.proofs.why.why.add_chains.Goals as goal

pub loop-place-preserved : goal.loop-place-preserved
loop-place-preserved c = record {
  clear = c.in_ok-add_chain.ensures.clear;
  listed =
      listed_more (waits c.args.plan.now (bound_by c.args.bound.now)) c.loop-place.place c.new.result (map first_of c.loop-place.chains.items) (map first_of c.add_chain.new.chains.items)
      c.new.ensures c.loop-place.invariant.listed c.in_ok-add_chain.ensures.listed;
  each = c.in_ok-add_chain.ensures.each;
}
