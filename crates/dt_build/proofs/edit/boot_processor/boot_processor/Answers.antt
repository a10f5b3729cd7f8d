use Rattle.std.proofs.Common.{◌≡◌, ℕ, List, Some, map, sym, ap, ◌∙◌, subst}
use Rattle.std.specs.Prelude.{IfOk}
use Rattle.dt_source.specs.declared.tree.Part.{Part}
use Rattle.dt_source.specs.Tree.{part_view}
use Rattle.dt_build.specs.Edit.Private.DtcEdited.{placed_of}
use Rattle.dt_build.proofs.EditLemmas.BootReg.{by-reg, number_of}
use Rattle.dt_build.proofs.edit.boot_processor.boot_processor.Goals as goal

pub returns-in-Some : goal.returns-in-Some
returns-in-Some c =
    let read = ap (λ (ps : List Part). number_of (Some (map part_view ps))) c.as_slice.ensures.value in
    subst (λ (m : ℕ). IfOk c.number_written.result (λ n. n ≡ m)) (sym (by-reg (placed_of c.args.placed.now) ∙ ap number_of c.in-Some.ensures ∙ sym read)) c.number_written.ensures

pub returns-in-None : goal.returns-in-None
returns-in-None c = sym (by-reg (placed_of c.args.placed.now) ∙ ap number_of c.in-None.ensures)
