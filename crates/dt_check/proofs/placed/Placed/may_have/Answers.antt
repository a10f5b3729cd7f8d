use Rattle.std.proofs.Common.{◌∙◌, ap, sym, false}
use Rattle.std.specs.Prelude.{slice_index_or}
use Rattle.dt_check.specs.Cells.{has}
use Rattle.dt_check.specs.Nodes.{PlacedData}
use Rattle.dt_check.proofs.MarkLemmas.{unmarked}
use Rattle.dt_check.proofs.placed.Placed.may_have.Goals as goal

pub returns : goal.returns
returns c = λ e name same.
    ap (λ (p : PlacedData). has p.node.properties name) (sym c.self.view_is)
    ∙ unmarked c.self.inside.node.now.properties c.self.inside.marks.classes name c.self.invariant.1
    (ap (λ n. slice_index_or c.self.inside.marks.classes n false) same ∙ sym c.may_have.ensures ∙ e)
