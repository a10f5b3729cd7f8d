use Rattle.std.proofs.Common.{List, ℕ, subst}
use Rattle.dt_patch.specs.Private.Splicing.{IsRelaid}
use Rattle.dt_patch.proofs.Fills.{filled}
use Rattle.dt_patch.proofs.splicing.fill.Goals as goal

pub returns : goal.returns
returns c = subst (λ (x : List ℕ). IsRelaid x c.lay.new.blob c.args.gap.now.layout) (filled c.args.blob.now c.args.new.now c.args.gap.now c.requires c.shift.new.blob c.put.new.blob c.shift.ensures c.put.ensures) c.lay.ensures
