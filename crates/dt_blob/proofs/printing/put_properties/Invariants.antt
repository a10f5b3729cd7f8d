use Rattle.std.proofs.Common.{◌≡◌, ◌≤◌, ◌++◌, drop, length}
use Rattle.dt_blob.specs.Blob.{limit}
use Rattle.dt_blob.specs.SourceText.{property_lines}
use Rattle.dt_blob.proofs.printing.put_properties.Given as goal

abbrev pub invariant-loop-property : goal.invariant-loop-property
invariant-loop-property l = record {
  left : l.out.items ++ property_lines l.depth (drop l.property-index l.properties) ≡ l.fn.out.items ++ property_lines l.depth l.properties;
  fits : length l.out.items ≤ limit;
}
