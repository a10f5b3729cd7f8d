use Rattle.std.proofs.Common.{◌++◌, ◌∙◌, sym, ap}
use Rattle.std.specs.Option.{option_copied}
use Rattle.dt_check.specs.Nodes.{HereData}
use Rattle.dtman_check.specs.Table.Found.{found_here}
use Rattle.dtman_check.proofs.FoundLemmas.{found-next}
use Rattle.dtman_check.proofs.table.finding_all.find_with.Goals as goal

pub loop-place-init : goal.loop-place-init
loop-place-init c = record {
  within = c.next_with-place.ensures.within;
  found = ap (λ l. c.args.findings.now.items ++ l) (sym (c.next_with-place.ensures.passed c.args.check c.args.finds c.args.subject.survey.now (option_copied c.args.subject.written) c.requires));
}

pub loop-place-preserved : goal.loop-place-preserved
loop-place-preserved c =
    let all = c.args.subject.survey.now in
    let written = option_copied c.args.subject.written in
    let old = c.loop-place.findings.items in
    record {
      within = c.next_with-place-in-loop-place.ensures.within;
      found =
          found-next c.args.check c.args.finds all written c.loop-place.place c.next_with-place-in-loop-place.result c.args.nodes.now c.index-nodes-place.result old _ _
          c.loop-place-test.true c.index-nodes-place.is
          (c.in_ok-find_here.ensures ∙ ap (λ (h : HereData). old ++ found_here c.args.check c.args.finds all written c.loop-place.place h) c.here-here.ensures)
          (c.next_with-place-in-loop-place.ensures.passed c.args.check c.args.finds all written c.requires) c.loop-place.invariant.found;
    }
