use Rattle.dt_blob.proofs.strings.Strings.put.Goals as goal

pub loop-at-preserved : goal.loop-at-preserved
loop-at-preserved c = let p = c.in_ok-size.ensures c.args.out.now.items c.loop-at.invariant.done in record { end = p.0; done = p.1 }
