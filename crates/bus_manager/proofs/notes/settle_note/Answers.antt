use Rattle.std.proofs.Common.{◌≡◌, ◌<◌, ℕ, true, None, Some, Option, length, get_or, sym, ap, ◌∙◌, arith}
use Rattle.std.specs.Prelude.{is_some}
use Rattle.std.proofs.lemmas.Option.{slice_get-get_or, get_or_from_slice_get}
use Rattle.bus_manager.specs.Private.Notes.{IsShown}
use Rattle.bus_manager.specs.Seen.{sees}
use Rattle.bus_manager.proofs.NotesLemmas.{kept-noted, put-notes}
use Rattle.bus_manager.proofs.Shown.{told-settles}
use Rattle.bus_manager.proofs.notes.settle_note.Goals as goal

pub returns-then-is_some-clause-noted : goal.returns-then-is_some-clause-noted
returns-then-is_some-clause-noted g c =
    let some : true ≡ is_some c.index-2.result.now = c.if-is_some.ensures in
    let settled : c.args.settled ≡ true = c.if-not-settled.false in
    let notes = c.args.notes.now.items in
    let here = c.index-2.result.now in
    let within : c.args.device < length notes = omega (arith, c.requires.within, c.requires.notes.places) in
    let is : get_or notes c.args.device here ≡ here =
    sym (c.index-2.ensures ∙ ap (λ (i : ℕ). get_or notes i here) c.index.ensures) in
    let read = get_or_from_slice_get notes c.args.device here None
    (slice_get-get_or notes c.args.device here within ∙ ap (λ (x : Option g.row.P-Note.Denot). Some x) is) in
    kept-noted c.args.settled notes c.args.device (ap is_some read ∙ sym some ∙ sym settled)

pub returns-clause-notes : goal.returns-clause-notes
returns-clause-notes g c =
    let plan = c.args.plan.now in
    let device = c.args.device in
    let attests = g.P.Prober.attests c.args.prober.now plan in
    let settled : c.args.settled ≡ true = c.if-not-settled.false in
    let report = told-settles plan (sees c.args.seen.now) device c.probe-report.result.0 (c.requires.suppliers settled) c.probe-report.ensures.lawful in
    let shown = c.probe-report.ensures.shown report in
    put-notes attests plan c.args.notes.now.items c.put-2.new.notes.items device (Some c.probe-report.result.1) c.put-2.ensures c.requires.within
    (λ note same. let is : c.probe-report.result.1 ≡ note = cc in coe 0 1 (i. IsShown (attests device) plan device (is i)) shown) c.requires.notes
