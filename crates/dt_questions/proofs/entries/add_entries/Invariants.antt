use Rattle.std.proofs.Common.{◌≡◌, ◌+◌, ◌≤◌, ◌++◌, length}
use Rattle.dt_questions.specs.Entries.{entries, entries_within}
use Rattle.dt_questions.specs.ShapeView.{shape_data}
use Rattle.dt_questions.proofs.entries.add_entries.Given as goal

-- what is named so far and by the entries that are left is all
abbrev pub invariant-loop-left : goal.invariant-loop-left
invariant-loop-left l = record {
  same : l.mentions.items ++ entries_within l.survey (shape_data l.shape) l.user l.property.name l.number l.left l.rest
      ≡ l.fn.mentions.items ++ entries l.survey (shape_data l.shape) l.user l.property.name l.property.value;
  few : l.number + l.left ≤ length l.property.value;
}

abbrev pub decreases-loop-left : goal.decreases-loop-left
decreases-loop-left l = l.left
