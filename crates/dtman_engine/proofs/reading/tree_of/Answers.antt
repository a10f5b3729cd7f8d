-- The reader's error is told, and explained by what the reader promises of it.
use Rattle.std.proofs.Common.{sym, subst, Ok, Err}
use Rattle.dt_tree.specs.TreeData.{TreeData}
use Rattle.dtman_engine.specs.Dump.{IsUnread}
use Rattle.dtman_engine.specs.Fault.{FaultValue, fault_value}
use Rattle.dtman_engine.proofs.CulpritLemmas.{of-reader}
use Rattle.dtman_engine.proofs.DumpLemmas.{explained}
use Rattle.dtman_engine.proofs.HeaderLemmas.{header-error, header-told, no-error}
use Rattle.dtman_engine.proofs.OverlayLemmas.{unread}
use Rattle.dtman_engine.proofs.reading.tree_of.Goals as goal

pub returns-in-Ok-clause-header : goal.returns-in-Ok-clause-header
returns-in-Ok-clause-header c =
    let r = c.in-Ok.ensures in
    λ e is. elim (no-error c.in-Ok.tree e (header-error c.args.blob.now (Ok c.in-Ok.tree) r.too_large r.truncated r.bad_magic r.bad_version r.bad_layout e is)) [ ]

pub returns-in-Err-clause-refused : goal.returns-in-Err-clause-refused
returns-in-Err-clause-refused c =
    let blob = c.args.blob.now in
    let e = c.in-Err.refused.kind in
    let r = c.in-Err.ensures in
    subst (λ (x : FaultValue). IsUnread blob x) (sym c.of_blob.ensures.told)
    (unread blob e r.too_large (explained blob e r.only r.too_large r.truncated r.bad_magic r.bad_version r.no_end))

pub returns-in-Err-clause-header : goal.returns-in-Err-clause-header
returns-in-Err-clause-header c =
    let r = c.in-Err.ensures in
    λ e is.
    header-told {V = TreeData} c.in-Err.refused.kind e (Err c.of_blob.result)
    (header-error c.args.blob.now (Err c.in-Err.refused.kind) r.too_large r.truncated r.bad_magic r.bad_version r.bad_layout e is)
    c.of_blob.ensures.told

pub returns-in-Err-clause-word : goal.returns-in-Err-clause-word
returns-in-Err-clause-word c =
    of-reader c.args.role c.args.blob.now (fault_value c.of_blob.result) c.in-Err.refused c.of_blob.ensures.told c.in-Err.ensures.at
    c.of_blob.result.culprit c.of_blob.ensures.word c.in-Err.ensures.only
