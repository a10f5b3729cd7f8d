use Rattle.std.proofs.Common.{◌≡◌, ◌+◌, ◌≤◌, drop}
use Rattle.dt_blob.specs.Blob.{limit}
use Rattle.dt_blob.specs.Token.{property_tokens}
use Rattle.dt_blob.specs.Steps.Written.{tokens_size}
use Rattle.dt_blob.proofs.sizing.add_properties.Given as goal

abbrev pub invariant-loop-property : goal.invariant-loop-property
invariant-loop-property l = record {
  left : l.size + tokens_size (property_tokens (drop l.property-index l.properties)) ≡ l.used + tokens_size (property_tokens l.properties);
  fits : l.size ≤ limit;
}
