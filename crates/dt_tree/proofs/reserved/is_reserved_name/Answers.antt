use Rattle.std.proofs.Common.{◌≡◌, arith}
use Rattle.std.specs.Prelude.{codes}
use Rattle.std.proofs.lemmas.Grind.{common_steps}
use Rattle.dt_tree.proofs.reserved.is_reserved_name.Goals as goal
use Rattle.dt_tree.proofs.reserved.is_reserved_name.Goals.{then-eq, else-eq}

pub returns-then-eq-2 : goal.returns-then-eq-2
returns-then-eq-2 c =
    elim c.if-eq.branch [
      | then-eq w ↦ grind (arith, common_steps)
      | else-eq w ↦ let is : w.as_slice-else-eq.result.now ≡ codes "__fixups__" = w.as_slice-else-eq.ensures in grind (arith, common_steps, is)
    ]

pub returns-else-eq-2 : goal.returns-else-eq-2
returns-else-eq-2 c =
    elim c.if-eq.branch [
      | then-eq w ↦ grind (arith, common_steps)
      | else-eq w ↦ let is : w.as_slice-else-eq.result.now ≡ codes "__fixups__" = w.as_slice-else-eq.ensures in grind (arith, common_steps, is)
    ]
