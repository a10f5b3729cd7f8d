use Rattle.std.proofs.Common.{◌≡◌, true, List, Option, sym, ap, ◌∙◌, subst}
use Rattle.dt_tree.specs.Path.{path_names}
use Rattle.dt_source.specs.TreeMeaning.Syntax.{Piece}
use Rattle.dt_source.specs.TreeMeaning.BootProcessor.{cpus}
use Rattle.dt_source.specs.TreeMeaning.DtcEdits.{node_stands}
use Rattle.dt_build.specs.Edit.Said.{pieces}
use Rattle.dt_build.specs.Edit.Private.BootReg.{Gets}
use Rattle.dt_build.specs.Edit.Private.DtcEdited.{placed_of}
use Rattle.dt_build.proofs.EditLemmas.BootReg.{cpus-none, cpus-there}
use Rattle.dt_build.proofs.edit.boot_processor.first_reg.Goals as goal

pub reg_below-requires-clause-path : goal.reg_below-requires-clause-path
reg_below-requires-clause-path c =
    let d = c.args.placed.now in
    let named : path_names c.as_slice-path.result.now ≡ cpus = ap path_names c.as_slice-path.ensures in
    sym named ∙ (c.in-Some.ensures.path pieces).1

pub returns-in-Some : goal.returns-in-Some
returns-in-Some c =
    let d = c.args.placed.now in
    let named : path_names c.as_slice-path.result.now ≡ cpus = ap path_names c.as_slice-path.ensures in
    let there : node_stands cpus (placed_of d) ≡ true = ap (λ p. node_stands p (placed_of d)) (sym named) ∙ (c.in-Some.ensures.path pieces).0 in
    subst (λ (o : Option (List Piece)). Gets o c.reg_below.result) (sym (cpus-there d there)) c.reg_below.ensures

pub returns-in-None : goal.returns-in-None
returns-in-None c =
    let d = c.args.placed.now in
    let named : path_names c.as_slice-path.result.now ≡ cpus = ap path_names c.as_slice-path.ensures in
    cpus-none d (ap (λ p. node_stands p (placed_of d)) (sym named) ∙ c.in-None.ensures.path pieces)
