-- Entry by entry.
use Rattle.std.proofs.Common.{◌≡◌, ◌∙◌, ap, sym, append-nil, append_assoc, ◌+◌, ◌-◌, ℕ, List, ◌++◌, arith}
use Rattle.dt_questions.specs.Entries.{EntryData, entries_within, mentioned}
use Rattle.dt_questions.specs.Mention.{MentionData}
use Rattle.dt_questions.specs.ShapeView.{shape_data}
use Rattle.dt_questions.proofs.StepLemmas.{entries-on, entries-end}
use Rattle.dt_questions.proofs.entries.add_entries.Goals as goal

pub returns-in_default : goal.returns-in_default
returns-in_default c =
    let found = c.loop-left.mentions.items in
    sym (append-nil found)
    ∙ ap (λ (more : List MentionData). found ++ more) (sym (entries-end c.args.survey.now (shape_data c.args.shape) c.args.user c.args.property.now.name c.loop-left.number c.loop-left.left c.loop-left.rest.now
    c.loop-left-test.true (sym c.first_entry.ensures ∙ c.in_default.is)))
    ∙ c.loop-left.invariant.same

pub loop-left-preserved : goal.loop-left-preserved
loop-left-preserved c =
    let nodes = c.args.survey.now in
    let shape = shape_data c.args.shape in
    let name = c.args.property.now.name in
    let e = c.in-Some.entry in
    let found = c.loop-left.mentions.items in
    let few = c.loop-left.invariant.few in
    let rest : c.entry.inside.rest.now ≡ e.rest = ap (λ (e : EntryData). e.rest) c.entry.view_is in
    let more = entries_within nodes shape c.args.user name (c.loop-left.number + 1) (c.loop-left.left - 1) e.rest in
    record {
      same = ap (λ (r : List ℕ). c.add_mention.new.mentions.items ++ entries_within nodes shape c.args.user name (c.loop-left.number + 1) (c.loop-left.left - 1) r) rest
          ∙ ap (λ (xs : List MentionData). xs ++ more) (c.in_ok-add_mention.ensures ∙ ap (λ (p : List ℕ). found ++ mentioned c.args.user p c.loop-left.number e) c.as_bytes.ensures.value)
          ∙ append_assoc found (mentioned c.args.user name c.loop-left.number e) more
          ∙ ap (λ (xs : List MentionData). found ++ xs) (sym (entries-on nodes shape c.args.user name c.loop-left.number c.loop-left.left c.loop-left.rest.now e
          c.loop-left-test.true (sym c.first_entry.ensures ∙ c.in-Some.is)))
          ∙ c.loop-left.invariant.same;
      few = omega (arith, few, c.loop-left-test.true);
    }
