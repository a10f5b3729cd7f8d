-- Blanks in front say nothing.
use Rattle.std.proofs.Common.{◌∙◌, ap, sym, length, arith}
use Rattle.std.proofs.lemmas.Slice.{between_to_end}
use Rattle.bus_plan.specs.Lines.{fields}
use Rattle.bus_plan.proofs.FieldsLemmas.{fields-skip, filled-from}
use Rattle.bus_plan.proofs.fields.Fields.of.Goals as goal

pub returns : goal.returns
returns c =
    ap fields (between_to_end c.args.line.now c.first_place.result (length c.args.line.now) (omega arith))
    ∙ sym (fields-skip c.args.line.now c.first_place.result c.first_place.ensures.within c.first_place.ensures.before)

pub invariant_of-result : goal.invariant_of-result
invariant_of-result c = filled-from c.args.line.now c.first_place.result c.first_place.ensures.found
