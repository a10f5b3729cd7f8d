use Rattle.std.proofs.Common.{[], subst}
use Rattle.dt_text.specs.Include.Private.Sought.{Answers}
use Rattle.dt_text.specs.Include.Searching.{in_folder}
use Rattle.dt_text.proofs.IncludeLemmas.Searches.{all_none, first_in, one_more}
use Rattle.dt_text.proofs.include.searching.read_first.Goals as goal

pub returns-in-Some : goal.returns-in-Some
returns-in-Some g c =
    first_in g.R.Reads.reads g.R.Reads.lacks c.args.folders.now (record { ref_ptr = (0, 0); now = [] }) c.loop-folder.folder-index c.as_bytes.result.now c.args.name.now c.in-Some.found
    c.loop-folder-test.true c.as_bytes.ensures.value c.loop-folder.invariant
    (subst (Answers g.R.Reads.reads g.R.Reads.lacks (in_folder c.as_bytes.result.now c.args.name.now)) c.in-Some.is c.in_ok-found.ensures)

pub loop-folder-preserved : goal.loop-folder-preserved
loop-folder-preserved g c =
    one_more g.R.Reads.reads g.R.Reads.lacks c.args.folders.now (record { ref_ptr = (0, 0); now = [] }) c.loop-folder.folder-index c.as_bytes.result.now c.args.name.now
    c.loop-folder-test.true c.as_bytes.ensures.value c.loop-folder.invariant
    (subst (Answers g.R.Reads.reads g.R.Reads.lacks (in_folder c.as_bytes.result.now c.args.name.now)) c.in_default.is c.in_ok-found.ensures)

pub returns : goal.returns
returns g c =
    all_none g.R.Reads.reads g.R.Reads.lacks c.args.folders.now c.loop-folder.folder-index c.args.name.now c.loop-folder-test.false c.loop-folder.auto.folder-index-end c.loop-folder.invariant
