use Rattle.std.proofs.Common.{◌≡◌, ◌∙◌, ap, true, false, refl}
use Rattle.bus_plan.specs.Lines.{is_line, is_skipped, fields}
use Rattle.bus_plan.proofs.fields.Fields.read.Goals as goal

pub returns-then-is_skipped : goal.returns-then-is_skipped
returns-then-is_skipped c =
    let lawful : true ≡ is_line c.args.line.now = c.if-not-is_line.ensures in
    let skipped : true ≡ is_skipped (fields c.args.line.now) = c.if-is_skipped.ensures ∙ ap is_skipped c.of-fields.ensures in
    rw (← lawful, ← skipped) refl

pub returns : goal.returns
returns c =
    let lawful : true ≡ is_line c.args.line.now = c.if-not-is_line.ensures in
    let read : false ≡ is_skipped (fields c.args.line.now) = c.if-is_skipped.ensures ∙ ap is_skipped c.of-fields.ensures in
    rw (c.of-fields.ensures, ← lawful, ← read) refl
