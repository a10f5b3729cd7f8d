use Rattle.std.proofs.Common.{Ok, Option, ◌∙◌, ap, arith}
use Rattle.std.proofs.lemmas.Result.{err_from_is_err_and}
use Rattle.dt_source.specs.declared.cell.Cell.{Cell}
use Rattle.dt_source.specs.Reading.Values.{built}
use Rattle.dt_source.specs.Reading.Bodies.{cells_at}
use Rattle.dt_source.specs.Reading.Loops.{into}
use Rattle.dt_source.proofs.CellLoops.{cells_begin, cells_more, cells_end, cells_fail}
use Rattle.dt_source.proofs.cells.cells.Goals as goal

pub cells-init : goal.cells-init
cells-init c = record { shorter = omega arith; so_far = cells_begin c.args.text.now c.args.width (built c.args.parts.now) c.args.ts.now }

pub returns-in_err-found-clause-gives : goal.returns-in_err-found-clause-gives
returns-in_err-found-clause-gives c =
    let p = err_from_is_err_and c.from_residual.result c.from_residual.ensures.1 in
    let so_far = c.cells.invariant.so_far in
    rw (p.1, p.2) (cells_fail c.args.text.now c.args.width so_far.0 c.cells.left.now (built c.cells.parts) c.cells.first c.in_err-found.field-0.0 (into (built c.args.parts.now) (cells_at c.args.text.now c.args.width c.args.ts.now)) c.in_err-found.ensures.gives so_far.1 so_far.2)

pub returns-in-None-clause-gives : goal.returns-in-None-clause-gives
returns-in-None-clause-gives c =
    let so_far = c.cells.invariant.so_far in
    let found = c.in_ok-found.ensures.gives ∙ ap (λ (o : Option Cell). Ok (o, c.in_ok-found.rest.now)) c.in-None.is in
    cells_end c.args.text.now c.args.width so_far.0 c.cells.left.now (built c.cells.parts) c.cells.first c.in_ok-found.rest.now (into (built c.args.parts.now) (cells_at c.args.text.now c.args.width c.args.ts.now)) found so_far.1 so_far.2

pub cells-preserved : goal.cells-preserved
cells-preserved c =
    let so_far = c.cells.invariant.so_far in
    let found = c.in_ok-found.ensures.gives ∙ ap (λ (o : Option Cell). Ok (o, c.in_ok-found.rest.now)) c.in-Some.is in
    record {
      shorter = omega (arith, c.in_ok-found.ensures.shorter, c.cells.invariant.shorter);
      so_far = rw (c.in_ok-push_cell-in-Some.ensures, c.earlier-first.ensures, c.cell_fault.ensures) (cells_more c.args.text.now c.args.width so_far.0 c.cells.left.now (built c.cells.parts) c.cells.first c.in-Some.found c.in_ok-found.rest.now (into (built c.args.parts.now) (cells_at c.args.text.now c.args.width c.args.ts.now)) found c.in_ok-found.ensures.shorter so_far.1 so_far.2);
    }
