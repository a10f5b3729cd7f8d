use Rattle.std.proofs.Common.{◌-◌, ◌≤◌, List, [], ◌∷◌, length}
use Rattle.dt_blob.specs.Token.{Token}
use Rattle.dt_patch.specs.View.Private.Reading.{Through}
use Rattle.dt_patch.specs.View.Reaching.{Reached}
use Rattle.dt_patch.specs.View.Standing.{Ahead}
use Rattle.dt_patch.proofs.view.view.View.token_from.Given as goal

abbrev pub invariant-nops : goal.invariant-nops
invariant-nops l = record {
  ahead : (u : Token) (us : List Token) → Ahead l.self l.from (u ∷ us) → Ahead l.self l.at (u ∷ us);
  back : (us : List Token) → Ahead l.self l.at us → Ahead l.self l.from us;
  reach : (ts : List Token) → Reached l.self l.from ts → Reached l.self l.at ts;
  begins : l.from ≤ l.at;
  skipped : Through l.self l.from l.at [];
}

abbrev pub decreases-nops : goal.decreases-nops
decreases-nops l = length l.self.structure.now - l.at
