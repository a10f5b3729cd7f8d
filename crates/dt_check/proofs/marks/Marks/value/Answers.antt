use Rattle.std.proofs.Common.{◌∙◌, ap, sym, false}
use Rattle.std.specs.Prelude.{slice_index_or}
use Rattle.dt_check.proofs.MarkLemmas.{unmarked-value}
use Rattle.dt_check.proofs.marks.Marks.value.Goals as goal

pub returns-then-not-may_have : goal.returns-then-not-may_have
returns-then-not-may_have c =
    sym (unmarked-value c.args.node.now.properties c.args.self.now.classes c.args.name.now c.requires
    (ap (λ n. slice_index_or c.args.self.now.classes n false) (sym c.class_of.ensures.value)
    ∙ sym c.may_have.ensures ∙ c.if-not-may_have.true))
