-- Part by part.
use Rattle.std.proofs.Common.{◌≡◌, ap, decimal, codes}
use Rattle.std.specs.Option.{option_copied}
use Rattle.dt_check.specs.Cells.{cells_of}
use Rattle.dt_questions.specs.Lines.{line_of}
use Rattle.dt_questions.specs.Mention.{MentionData}
use Rattle.dt_questions.specs.Paths.{path_at}
use Rattle.dt_questions.specs.Rows.{cells_text, line_text, sharing_text}
use Rattle.dt_questions.proofs.StepLemmas.{row-flat}
use Rattle.dt_questions.proofs.rows.add_row.Goals as goal

pub returns : goal.returns
returns c =
    let nodes = c.args.survey.now in
    let m = c.args.mention.now in
    let user : c.mention.inside.user ≡ m.user = ap (λ (x : MentionData). x.user) c.mention.view_is in
    let property : c.mention.inside.property.now ≡ m.property = ap (λ (x : MentionData). x.property) c.mention.view_is in
    let entry : c.mention.inside.entry ≡ m.entry = ap (λ (x : MentionData). x.entry) c.mention.view_is in
    let cells : c.mention.inside.cells.now ≡ m.cells = ap (λ (x : MentionData). x.cells) c.mention.view_is in
    rw (
      c.in_ok-push-5.ensures.items,
      c.in_ok-add_sharing.ensures,
      c.in_ok-push-4.ensures.items,
      c.in_ok-add_cells.ensures,
      c.in_ok-extend_from_slice-2.ensures.items,
      c.in_ok-add_decimal.ensures,
      c.in_ok-push-3.ensures.items,
      c.in_ok-extend_from_slice.ensures.items,
      c.in_ok-push-2.ensures.items,
      c.in_ok-add_path.ensures,
      c.in_ok-push.ensures.items,
      c.in_ok-add_line.ensures,
      c.line_of.ensures.value,
      user,
      property,
      entry,
      cells,
    )
    (row-flat c.args.text.now.items (line_text (line_of nodes m)) (path_at nodes m.user) m.property (decimal m.entry) (codes "] <")
    (cells_text (cells_of m.cells)) (sharing_text nodes (option_copied c.args.other)))
