use Rattle.std.proofs.Common.{length}
use Rattle.dt_patch.proofs.Fills.{open_of}
use Rattle.dt_patch.proofs.splicing.splice.Goals as goal

pub fill-requires : goal.fill-requires
fill-requires c = open_of c.args.plan.now (length c.args.new.now) (length c.args.blob.now) c.in_ok-gap.gap c.requires.apart c.requires.header c.in_ok-gap.ensures

pub returns-clause-made : goal.returns-clause-made
returns-clause-made c = record { gap = c.in_ok-gap.gap; is = c.in_ok-gap.ensures; relaid = c.fill.ensures }

pub returns-clause-short : goal.returns-clause-short
returns-clause-short c = c.in_ok-gap.ensures.fits
