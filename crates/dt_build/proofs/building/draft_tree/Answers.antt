use Rattle.std.proofs.Common.{Ok, Err, if◌then◌else◌, is_some, sym, ap, ◌∙◌}
use Rattle.dt_source.specs.TreeMeaning.Statements.{TooDeep}
use Rattle.dt_build.specs.Private.Made.{lists}
use Rattle.dt_build.proofs.building.draft_tree.Goals as goal

pub returns-in-Some : goal.returns-in-Some
returns-in-Some c =
    ap (λ t. if t then Err TooDeep else Ok (lists c.args.symbols c.args.draft.now)) (sym (c.local_too_deep.ensures c.args.symbols) ∙ ap is_some c.in-Some.is)

pub fitting_tree-requires-clause-shallow : goal.fitting_tree-requires-clause-shallow
fitting_tree-requires-clause-shallow c = sym (c.local_too_deep.ensures c.args.symbols) ∙ ap is_some c.in_default.is

pub returns : goal.returns
returns c = (sym (c.local_too_deep.ensures c.args.symbols) ∙ ap is_some c.in_default.is, c.in_ok-tree.ensures)
