use Rattle.std.proofs.Common.{◌<◌, ◌≤◌, ◌-◌, length, arith, refl}
use Rattle.dt_text.specs.Place.Positions.{line_of}
use Rattle.dt_text.proofs.PlaceLemmas.Feeds.{read_line, read_run}
use Rattle.dt_text.proofs.place.position.read_to.Goals as goal

pub feed_between-requires : goal.feed_between-requires
feed_between-requires c = record { within = (c.loop-feed.invariant.within, c.requires.within) }

pub loop-feed-preserved : goal.loop-feed-preserved
loop-feed-preserved c =
    let inv = c.loop-feed.invariant.read in
    let found = c.in-Some.ensures in
    let less : c.in-Some.feed < length c.args.text.now = omega (arith, found.1, c.requires.within) in
    record {
      read = (
        omega arith,
        omega (arith, less),
        omega (arith, inv.0, inv.2, found.0, c.after-origin.ensures.near),
        read_line _ (line_of c.loop-feed.origin) _ c.loop-feed.start c.loop-feed.read c.in-Some.feed _ _ inv.0 found.0 less found.3 found.2 c.after-origin.ensures.line refl refl inv.3,
      );
      within = omega (arith, found.1);
    }

pub returns-clause-read : goal.returns-clause-read
returns-clause-read c =
    let inv = c.loop-feed.invariant.read in
    let up : c.loop-feed.read ≤ c.args.end = c.loop-feed.invariant.within in (
      omega (arith, inv.0, up),
      c.requires.within,
      inv.2,
      read_run _ (line_of c.loop-feed.origin) c.loop-feed.start c.loop-feed.read (c.args.end - c.loop-feed.read) c.args.end (omega (arith, up)) inv.0 c.requires.within c.in_default.ensures inv.3,
    )
