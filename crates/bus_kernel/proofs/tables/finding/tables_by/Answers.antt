use Rattle.std.proofs.Common.{◌+◌, ◌-◌, ℕ, List, [], length, arith, sym, subst, ap, ◌∙◌}
use Rattle.std.proofs.lemmas.List.{append-nil}
use Rattle.bus_kernel.specs.Image.Width.{bytes_of}
use Rattle.bus_kernel.specs.Private.Views.{texts}
use Rattle.bus_kernel.specs.Tables.Table.{compatibles_of}
use Rattle.bus_kernel.specs.Tables.Tables.{TablesFrom}
use Rattle.bus_kernel.specs.Private.Search.{HasNoneBefore}
use Rattle.bus_kernel.proofs.TablesLemmas.Standing.{table_end}
use Rattle.bus_kernel.proofs.TablesLemmas.Searching.{begins, none_left, none_more, joins_at}
use Rattle.bus_kernel.proofs.TablesLemmas.Texts.{tables_more}
use Rattle.bus_kernel.proofs.tables.finding.tables_by.Goals as goal

pub overflow_sub-at : goal.overflow_sub-at
overflow_sub-at c =
    (table_end _ c.args.image.now c.loop-place.place.at (texts c.in-Some.run'.strings.items) c.in-Some.run'.behind.now (rw c.in-Some.is at c.in_ok-run.ensures)).0

pub loop-place-smaller-in-Continue-branch-3 : goal.loop-place-smaller-in-Continue-branch-3
loop-place-smaller-in-Continue-branch-3 c =
    let end = table_end _ c.args.image.now c.loop-place.place.at (texts c.in-Some.run'.strings.items) c.in-Some.run'.behind.now (rw c.in-Some.is at c.in_ok-run.ensures) in
    let size = c.entry_size.ensures in
    omega (arith, end.1, end.2, size)

pub loop-place-preserved-in-Continue-branch-3 : goal.loop-place-preserved-in-Continue-branch-3
loop-place-preserved-in-Continue-branch-3 c =
    let width = bytes_of c.args.width in
    let image = c.args.image.now in
    let strings = texts c.in-Some.run'.strings.items in
    let last = c.in-Some.run'.behind.now in
    let more = tables_more c.loop-place.tables.items c.push.new.self.items _ c.in_ok-push-in-Some.ensures.items in
    let end = table_end _ image c.loop-place.place.at strings last (rw c.in-Some.is at c.in_ok-run.ensures) in
    let stands = ap (λ (n : ℕ). length image - length last + n) c.entry_size.ensures ∙ end.1 in
    record {
      none = begins width image _;
      joins = joins_at width image c.loop-place.place.behind c.loop-place.place.at _ strings last (compatibles_of c.loop-place.tables.items) _
          c.loop-place.invariant.none (rw c.in-Some.is at c.in_ok-run.ensures) c.loop-place.invariant.joins stands more;
    }

pub loop-place-preserved : goal.loop-place-preserved
loop-place-preserved c =
    let width = bytes_of c.args.width in
    let image = c.args.image.now in
    record {
      none = subst (λ (n : ℕ). HasNoneBefore width image c.loop-place.place.behind (c.loop-place.place.at + n)) (sym c.bytes.ensures)
          (none_more width image c.loop-place.place.behind c.loop-place.place.at c.loop-place.invariant.none (rw c.in-None.is at c.in_ok-run.ensures));
      joins = c.loop-place.invariant.joins;
    }

pub returns : goal.returns
returns c =
    let width = bytes_of c.args.width in
    let image = c.args.image.now in
    subst (λ (l : List (List (List ℕ))). TablesFrom width image 0 l) (append-nil (compatibles_of c.loop-place.tables.items))
    (c.loop-place.invariant.joins []
    (none_left width image c.loop-place.place.behind c.loop-place.place.at c.loop-place.invariant.none (omega (arith, c.loop-place-test.false))))
