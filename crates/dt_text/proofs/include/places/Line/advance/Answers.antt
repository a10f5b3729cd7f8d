use Rattle.std.proofs.Common.{arith}
use Rattle.std.specs.Prelude.{option_map}
use Rattle.dt_text.specs.Include.Private.Places.{place_of, told_of}
use Rattle.dt_text.specs.Include.UserLines.{place_behind}
use Rattle.dt_text.proofs.IncludeLemmas.UserPlaces.{all_lines, line_more, none_yet}
use Rattle.dt_text.proofs.include.places.Line.advance.Goals as goal

pub loop-init : goal.loop-init
loop-init c = none_yet c.line_ends-end.result (place_of c.args.self.now) c.args.text.now c.line_ends-end.ensures

pub loop-preserved : goal.loop-preserved
loop-preserved c =
    line_more c.line_ends-end.result c.loop.counter c.run_len-len.result (place_of c.loop.self) (place_of c.end_line.new.self) c.loop.left.now c.front.result.now c.behind.result.now c.behind-left.result.now
    (option_map told_of c.line_marker.result) (place_behind (place_of c.args.self.now) c.args.text.now) (omega arith) c.run_len-len.ensures c.front.ensures c.line_marker.ensures c.in_ok-end_line.ensures c.behind.ensures c.behind-left.ensures
    c.loop.invariant

pub returns : goal.returns
returns c =
    all_lines c.line_ends-end.result c.loop.counter (place_of c.loop.self) (place_behind (place_of c.args.self.now) c.args.text.now) c.loop.left.now (omega arith) c.loop.invariant
