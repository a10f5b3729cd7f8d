use Rattle.std.proofs.Common.{◌∙◌, refl}
use Rattle.dt_live.proofs.MakingLemmas.Steps.{bytes-all, bytes-more, names-all, names-more, of-plain}
use Rattle.dt_live.proofs.making.making.run_properties.Goals as goal

pub loop-node_property-preserved : goal.loop-node_property-preserved
loop-node_property-preserved g c =
    let run = c.args.run.now in
    let i = c.loop-node_property.node_property-index in
    let x = c.node_property-item.result in
    let old = c.loop-node_property.properties.items in
    record {
      ready = c.in_ok-value.ensures.ready;
      made = c.in_ok-value.ensures.made ∙ c.loop-node_property.invariant.made;
      names = names-more run i x c.loop-node_property-test.true c.node_property-item.is old c.push.new.self.items _ c.in_ok-push.ensures.items _ c.in_ok-name.ensures c.loop-node_property.invariant.names;
      bytes = λ vs. bytes-more run i x c.loop-node_property-test.true c.node_property-item.is old c.push.new.self.items _ c.in_ok-push.ensures.items (g.M.Values.bytes_of c.loop-node_property.values)
          (g.M.Values.bytes_of c.next.new.self) c.in_ok-value.value c.in_ok-value.ensures.bytes refl vs _ (c.loop-node_property.invariant.bytes vs);
    }

pub returns-clause-properties : goal.returns-clause-properties
returns-clause-properties g c =
    let run = c.args.run.now in
    let i = c.loop-node_property.node_property-index in
    of-plain (g.M.Values.bytes_of c.args.values.now) (g.M.Values.bytes_of c.loop-node_property.values) run c.loop-node_property.properties
    (names-all run i _ _ c.loop-node_property-test.false c.loop-node_property.invariant.names)
    (λ vs. bytes-all run i (g.M.Values.bytes_of c.loop-node_property.values) _ vs _ c.loop-node_property-test.false (c.loop-node_property.invariant.bytes vs))
