use Rattle.std.proofs.Common.{List, ℕ, false, [], ◌∷◌, ◌++◌, ◌-◌, map, take, refl, ap, subst, ◌∙◌, arith}
use Rattle.std.proofs.lemmas.List.{append-nil}
use Rattle.dt_text.specs.declared.include.inclusion.Frame.{Frame}
use Rattle.dt_text.specs.declared.include.inclusion.Incomplete.TheVariants.{TooLong}
use Rattle.dt_text.specs.Include.Inclusion.{stored_of}
use Rattle.dt_text.specs.Include.Private.Included.{first_put}
use Rattle.dt_text.specs.Include.Shortfall.{IsTooLong}
use Rattle.dt_text.proofs.IncludeLemmas.OpenFiles.{IsUnderWay, begun_at, gone_on, over_at}
use Rattle.dt_text.proofs.IncludeLemmas.Pieces.{whole_more}
use Rattle.dt_text.proofs.IncludeLemmas.Putting.{ArePut, IsCounted, begun_count, begun_put, begun_short, counted_long, gone_count, gone_put, gone_short, grown_put, innermost_put, put_now}
use Rattle.dt_text.proofs.IncludeLemmas.Reaching.{AreReached, begun_reached, gone_reached, kept, stops_there, stuck_there}
use Rattle.dt_text.proofs.include.inclusion.included.Goals as goal

pub turns-init : goal.turns-init
turns-init g c =
    let finds = g.F.Files.finds in
    let path = c.args.path.now in
    let text = c.args.text.now in
    let frame : Frame = record {
      path = c.in_ok-from_slice.field-0;
      nested = false;
      bytes = c.in_ok-from_slice-2.field-0;
      words = record { start = 0; end = 0 };
      stays = false;
      line = c.in_ok-first.field-0;
    } in
    let frames = c.push.new.self.items in
    let one = c.in_ok-push.ensures.items ∙ ap (λ (fs : List Frame). fs ++ frame ∷ []) c.new-frames.ensures.items in
    let same_path = c.in_ok-from_slice.ensures.items in
    let same_text = c.in_ok-from_slice-2.ensures.items in
    record {
      said = [];
      whole = record { text = c.new.ensures.items; files = ap (map stored_of) c.new-2.ensures.items };
      under_way = begun_at finds path text frames frame one refl c.in_ok-first.ensures.file c.in_ok-first.ensures.line same_path refl same_text;
      reached = begun_reached finds path text frames frame one refl same_path refl same_text;
      put = begun_put finds path text frames frame one refl same_path same_text;
      counted = begun_count frames frame c.new.result.items one;
      short = begun_short frames frame c.new.result.items one;
    }

pub returns-in_default-clause-whole : goal.returns-in_default-clause-whole
returns-in_default-clause-whole g c = record {
  pieces = c.turns.invariant.said;
  includes =
      over_at g.F.Files.finds c.args.path.now c.args.text.now c.turns.invariant.said c.turns.frames.items
      (c.in_default.ensures.items ∙ append-nil c.pop.new.self.items ∙ (c.in_default.ensures.rest ∙ ap (λ (n : ℕ). take (n - 1) c.turns.frames.items) c.in_default.ensures.cases.0))
      c.turns.invariant.under_way;
  is = c.turns.invariant.whole;
}

pub turns-preserved : goal.turns-preserved
turns-preserved g c =
    let finds = g.F.Files.finds in
    let path = c.args.path.now in
    let text = c.args.text.now in
    let outer = c.pop.new.self.items in
    let now = c.go_on.new.frames.items in
    let old = c.in-Some.frame in
    let new = c.take_turn.new.frame in
    let turn = c.in-Ok.turn in
    let inv = c.turns.invariant in
    let is = c.in-Some.ensures.items in
    let w = c.in-Ok.ensures.turned in
    let goes = c.in_default-go_on.ensures.goes in
    let adds = c.in_default-go_on.ensures.adds in
    let grown = c.take_turn.new.whole in
    let last = inv.said ++ w.put ++ first_put turn in
    record {
      said = last;
      whole = whole_more grown c.go_on.new.whole (inv.said ++ w.put) (first_put turn) (whole_more c.turns.whole grown inv.said w.put inv.whole w.adds) adds;
      under_way = gone_on finds path text outer now old new turn inv.said w.put last refl (subst (λ (fs : List Frame). IsUnderWay finds path text fs inv.said) is inv.under_way) w.turns goes;
      reached = gone_reached finds path text outer now old new turn w.put (subst (AreReached finds path text 1) is inv.reached) w.turns c.in-Ok.ensures.moves goes c.in_default-go_on.ensures.nests;
      put = gone_put finds path text outer now old new turn inv.said w.put last refl (subst (ArePut finds path text inv.said) is inv.put) w.turns w.puts goes;
      counted = gone_count finds outer now old new turn c.turns.counter c.turns.whole grown c.go_on.new.whole (subst (IsCounted c.turns.counter c.turns.whole.text.items) is inv.counted) w goes adds;
      short = gone_short outer now new turn grown c.go_on.new.whole (omega (arith, c.if-len-gt-MAX_TEXT.false, c.len.ensures, grown.text.ok.0)) goes adds;
    }

-- ---- why it stops

pub returns-in-Err-clause-stops : goal.returns-in-Err-clause-stops
returns-in-Err-clause-stops g c =
    let finds = g.F.Files.finds in
    let path = c.args.path.now in
    let text = c.args.text.now in
    let outer = c.pop.new.self.items in
    let old = c.in-Some.frame in
    let inv = c.turns.invariant in
    stops_there finds path text g.F.Files.lacks outer old inv.said c.turns.whole.text.items c.in-Err.reason c.stopped.result.reason inv.whole.text
    (subst (AreReached finds path text 1) c.in-Some.ensures.items inv.reached)
    (innermost_put finds path text inv.said outer old (subst (ArePut finds path text inv.said) c.in-Some.ensures.items inv.put)) c.in-Err.ensures.stops c.stopped.ensures

pub returns-then-len-gt-MAX_TEXT-clause-stops : goal.returns-then-len-gt-MAX_TEXT-clause-stops
returns-then-len-gt-MAX_TEXT-clause-stops g c =
    let finds = g.F.Files.finds in
    let path = c.args.path.now in
    let text = c.args.text.now in
    let outer = c.pop.new.self.items in
    let inv = c.turns.invariant in
    let w = c.in-Ok.ensures.turned in
    let grown = c.take_turn.new.whole in
    let puts = grown_put finds path text outer c.in-Some.frame c.take_turn.new.frame c.in-Ok.turn inv.said w.put (subst (ArePut finds path text inv.said) c.in-Some.ensures.items inv.put) w.puts in
    kept finds path text g.F.Files.lacks TooLong c.too_long.result.reason c.too_long.ensures
    (inv.said ++ w.put, puts, subst IsTooLong (whole_more c.turns.whole grown inv.said w.put inv.whole w.adds).text (omega (arith, c.if-len-gt-MAX_TEXT.true, c.len.ensures, grown.text.ok.0)))

pub returns-in-Err-go_on-clause-stops : goal.returns-in-Err-go_on-clause-stops
returns-in-Err-go_on-clause-stops g c =
    let finds = g.F.Files.finds in
    let path = c.args.path.now in
    let text = c.args.text.now in
    stuck_there finds path text g.F.Files.lacks c.pop.new.self.items c.in-Some.frame c.take_turn.new.frame c.in-Ok.turn c.in-Err-go_on.reason c.stopped_within.result.reason
    (subst (AreReached finds path text 1) c.in-Some.ensures.items c.turns.invariant.reached) c.in-Ok.ensures.moves c.in-Err-go_on.ensures.stuck c.stopped_within.ensures

pub returns-clause-stops : goal.returns-clause-stops
returns-clause-stops g c =
    let finds = g.F.Files.finds in
    let path = c.args.path.now in
    let text = c.args.text.now in
    let frames = c.turns.frames.items in
    let inv = c.turns.invariant in
    let puts = put_now finds path text inv.said frames inv.put (λ e. over_at finds path text inv.said frames e inv.under_way) in
    kept finds path text g.F.Files.lacks TooLong c.stopped_within-2.result.reason c.stopped_within-2.ensures
    (inv.said, puts, subst IsTooLong inv.whole.text (counted_long c.turns.counter c.turns.whole.text.items frames (omega arith) inv.counted))
