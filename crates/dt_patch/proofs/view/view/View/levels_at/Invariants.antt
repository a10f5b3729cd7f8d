use Rattle.std.proofs.Common.{◌≡◌, ◌-◌, ◌≤◌, ℕ, Some, List, length}
use Rattle.dt_blob.specs.Token.{Token}
use Rattle.dt_patch.specs.View.Private.Levels.{Lies, levels_after}
use Rattle.dt_patch.proofs.ViewLemmas.Walks.{Counting}
use Rattle.dt_patch.proofs.view.view.View.levels_at.Given as goal

abbrev pub invariant-tokens : goal.invariant-tokens
invariant-tokens l = record {
  counting : (before : List Token) (t : Token) (ts : List Token) (n : ℕ) → Lies l.self l.place before t ts → levels_after 0 before ≡ Some n → Counting l.self l.at l.levels l.place before t ts n;
  bounded : l.levels ≤ l.at;
}

abbrev pub decreases-tokens : goal.decreases-tokens
decreases-tokens l = length l.self.structure.now - l.at
