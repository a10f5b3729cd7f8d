use Rattle.std.proofs.Common.{◌≡◌, ◌-◌, ◌≤◌, ℕ, Some, List, ◌++◌, length}
use Rattle.dt_blob.specs.Token.{Token}
use Rattle.dt_patch.specs.View.Private.Levels.{Lies, last_open, levels_after}
use Rattle.dt_patch.proofs.ViewLemmas.Walks.{Opening}
use Rattle.dt_patch.proofs.view.view.View.last_before.Given as goal

abbrev pub invariant-tokens : goal.invariant-tokens
invariant-tokens l = record {
  opening : (before within : List Token) (t : Token) (ts : List Token) (n : ℕ) → Lies l.self l.place (before ++ within) t ts → levels_after 0 (before ++ within) ≡ Some n → last_open l.depth 0 (before ++ within) ≡ Some before
      → Opening l.self l.at l.levels l.last l.depth l.place before within t ts n;
  bounded : l.levels ≤ l.at;
}

abbrev pub decreases-tokens : goal.decreases-tokens
decreases-tokens l = length l.self.structure.now - l.at
