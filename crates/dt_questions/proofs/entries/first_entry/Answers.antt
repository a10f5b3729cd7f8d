-- By what the entries are made of.
use Rattle.std.proofs.Common.{◌∙◌, ap, sym}
use Rattle.dt_questions.specs.Entries.{first_entry, named_entry}
use Rattle.dt_questions.specs.ShapeView.{shape_data}
use Rattle.dt_questions.specs.declared.shape.Shape.{Shape}
use Rattle.dt_questions.proofs.entries.first_entry.Goals as goal

pub returns-in-Counted : goal.returns-in-Counted
returns-in-Counted c =
    let nodes = c.args.survey.now in
    let value = c.args.value.now in
    c.named_entry.ensures ∙ ap (λ (s : Shape). named_entry nodes (shape_data s) value) c.in-Counted.is
    ∙ sym (ap (λ (s : Shape). first_entry nodes (shape_data s) value) c.in-Counted.is)

pub returns-in-Bare : goal.returns-in-Bare
returns-in-Bare c =
    let nodes = c.args.survey.now in
    let value = c.args.value.now in
    c.named_entry-in-Bare.ensures ∙ ap (λ (s : Shape). named_entry nodes (shape_data s) value) c.in-Bare.is
    ∙ sym (ap (λ (s : Shape). first_entry nodes (shape_data s) value) c.in-Bare.is)

pub returns-in-Mapped : goal.returns-in-Mapped
returns-in-Mapped c =
    let nodes = c.args.survey.now in
    let value = c.args.value.now in
    c.named_entry-in-Mapped.ensures ∙ ap (λ (s : Shape). named_entry nodes (shape_data s) value) c.in-Mapped.is
    ∙ sym (ap (λ (s : Shape). first_entry nodes (shape_data s) value) c.in-Mapped.is)
