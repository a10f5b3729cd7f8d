use Rattle.std.proofs.Common.{arith, length, slice_range}
use Rattle.dt_text.proofs.PlaceLemmas.Feeds.{feed_there, no_feed}
use Rattle.dt_text.proofs.PlaceLemmas.Sites.{length_range}
use Rattle.dt_text.proofs.place.position.feed_between.Goals as goal

pub returns-in-Some : goal.returns-in-Some
returns-in-Some c =
    let within = c.requires.within in
    let first = c.in-Some.ensures.0 in
    let there = feed_there c.args.text.now c.args.from c.args.end c.in-Some.feed first.high within.0 within.1 c.in-Some.ensures.1 in
    (omega arith, there.0, there.1, no_feed c.args.text.now c.args.from c.args.end c.in-Some.feed (omega (arith, first.high)) within.0 within.1 first.before)

pub returns-in-None : goal.returns-in-None
returns-in-None c =
    let within = c.requires.within in
    let count = length_range c.args.text.now c.args.from c.args.end within.0 within.1 in
    λ place from before. no_feed c.args.text.now c.args.from c.args.end (length (slice_range c.args.text.now c.args.from c.args.end)) (omega arith) within.0 within.1 c.in-None.ensures place from (omega (arith, count, within.0))
