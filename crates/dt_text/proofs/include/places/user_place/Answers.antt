use Rattle.std.proofs.Common.{arith, refl}
use Rattle.dt_text.specs.Include.UserLines.{given_place, place_of_line, told_by}
use Rattle.dt_text.proofs.IncludeLemmas.UserPlaces.{all_lines, line_more}
use Rattle.dt_text.proofs.include.places.user_place.Goals as goal

pub loop-preserved : goal.loop-preserved
loop-preserved c = record {
  leads =
      line_more c.args.line c.loop.counter c.run_len-len.result (given_place c.loop.place) (given_place c.next_place-place.result) c.loop.left.now c.front.result.now c.behind.result.now c.behind-left.result.now
      (told_by c.front.result.now) (place_of_line c.args.file.now c.args.text.now c.args.line) (omega arith) c.run_len-len.ensures c.front.ensures refl c.next_place-place.ensures.place c.behind.ensures c.behind-left.ensures
      c.loop.invariant.leads;
  span = c.next_place-place.ensures.span;
}

pub returns : goal.returns
returns c = record {
  place = all_lines c.args.line c.loop.counter (given_place c.loop.place) (place_of_line c.args.file.now c.args.text.now c.args.line) c.loop.left.now (omega arith) c.loop.invariant.leads;
  span = c.loop.invariant.span;
}
