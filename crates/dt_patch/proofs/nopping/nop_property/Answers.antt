use Rattle.dt_blob.specs.Blocks.{structure_in}
use Rattle.dt_blob.specs.HeaderWords.{strings_of}
use Rattle.dt_blob.proofs.Laying.{in_place}
use Rattle.dt_patch.proofs.Nops.{property_whole}
use Rattle.dt_patch.proofs.nopping.nop_property.Goals as goal

pub put_out-requires-clause-header : goal.put_out-requires-clause-header
put_out-requires-clause-header c = (in_place c.args.blob.now c.in_ok-next.ensures.fault).whole

pub put_out-requires-clause-whole : goal.put_out-requires-clause-whole
put_out-requires-clause-whole c = property_whole (strings_of c.args.blob.now) (structure_in c.args.blob.now) c.args.property.at c.in_ok-next.next c.in_ok-next.ensures.found
