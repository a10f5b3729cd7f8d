use Rattle.std.proofs.Common.{◌≡◌, ◌≤◌, ◌++◌, drop}
use Rattle.dt_blob.specs.Blob.{limit}
use Rattle.dt_blob.specs.Steps.Table.{placed}
use Rattle.dt_blob.specs.Token.{property_tokens}
use Rattle.dt_blob.specs.Steps.Written.{all_bytes, tokens_size}
use Rattle.dt_blob.proofs.writer.put_properties.Given as goal

abbrev pub invariant-loop-property : goal.invariant-loop-property
invariant-loop-property l = record {
  left : l.out.items ++ all_bytes (placed l.strings) (property_tokens (drop l.property-index l.properties)) ≡ l.fn.out.items ++ all_bytes (placed l.strings) (property_tokens l.properties);
  fits : tokens_size (property_tokens (drop l.property-index l.properties)) ≤ limit;
}
