use Rattle.std.proofs.Common.{sym, subst, ◌∙◌}
use Rattle.std.proofs.lemmas.Result.{IfOk-weaker}
use Rattle.dt_text.specs.Include.Private.Sought.{Answers}
use Rattle.dt_text.specs.Include.Searching.{in_folder}
use Rattle.dt_text.proofs.IncludeLemmas.Searches.{sought_alone, sought_beside, sought_later}
use Rattle.dt_text.proofs.include.searching.search.Goals as goal

pub returns-then-begins : goal.returns-then-begins
returns-then-begins g c =
    IfOk-weaker c.read_in.result _ _
    (sought_alone g.R.Reads.reads g.R.Reads.lacks c.args.folders.now c.args.beside.now c.args.name.now (sym c.begins.ensures.value ∙ c.if-begins.true))
    c.read_in.ensures

pub returns-in-Some : goal.returns-in-Some
returns-in-Some g c =
    sought_beside g.R.Reads.reads g.R.Reads.lacks c.args.folders.now c.args.beside.now c.args.name.now c.folder_of.result.now c.in-Some.found (sym c.begins.ensures.value ∙ c.if-begins.false) c.folder_of.ensures
    (subst (Answers g.R.Reads.reads g.R.Reads.lacks (in_folder c.folder_of.result.now c.args.name.now)) c.in-Some.is c.in_ok-found.ensures)

pub returns : goal.returns
returns g c =
    IfOk-weaker c.read_first.result _ _
    (sought_later g.R.Reads.reads g.R.Reads.lacks c.args.folders.now c.args.beside.now c.args.name.now c.folder_of.result.now (sym c.begins.ensures.value ∙ c.if-begins.false) c.folder_of.ensures
    (subst (Answers g.R.Reads.reads g.R.Reads.lacks (in_folder c.folder_of.result.now c.args.name.now)) c.in_default.is c.in_ok-found.ensures))
    c.read_first.ensures
