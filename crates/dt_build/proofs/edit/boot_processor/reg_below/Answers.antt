use Rattle.std.proofs.Common.{List, Option, sym, subst}
use Rattle.dt_source.specs.TreeMeaning.Syntax.{Piece}
use Rattle.dt_build.specs.Edit.Said.{pieces}
use Rattle.dt_build.specs.Edit.Private.BootReg.{Gets}
use Rattle.dt_build.proofs.EditLemmas.BootReg.{below-none, below-some}
use Rattle.dt_build.proofs.edit.boot_processor.reg_below.Goals as goal

pub returns-in-Some : goal.returns-in-Some
returns-in-Some c =
    subst (λ (o : Option (List Piece)). Gets o c.reg_of.result) (sym (below-some c.args.placed.now c.args.node c.in-Some.first c.requires.path (c.in-Some.ensures.first pieces))) c.reg_of.ensures

pub returns-in-None : goal.returns-in-None
returns-in-None c = below-none c.args.placed.now c.args.node c.requires.path (c.in-None.ensures.first pieces)
