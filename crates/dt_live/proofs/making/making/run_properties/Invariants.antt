use Rattle.std.proofs.Common.{◌≡◌, ◌++◌, List, drop}
use Rattle.dt_live.specs.Making.Made.{values_in}
use Rattle.dt_live.proofs.MakingLemmas.Steps.{bytes_in, names_in, names_of}
use Rattle.dt_live.proofs.making.making.run_properties.Given as goal

abbrev pub invariant-loop-node_property : goal.invariant-loop-node_property
invariant-loop-node_property g l =
    let values = g.M.Values in
    record {
      ready : values.is_ready l.values;
      made : values.made l.values ≡ values.made l.fn.values;
      names : names_in l.properties.items ++ names_of (drop l.node_property-index l.run) ≡ names_of l.run;
      bytes : (vs : List g.row.V.Denot) → values.bytes_of l.fn.values (values_in l.run ++ vs) ≡ bytes_in l.properties.items ++ values.bytes_of l.values (values_in (drop l.node_property-index l.run) ++ vs);
    }
