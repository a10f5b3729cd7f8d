use Rattle.std.proofs.Common.{◌≡◌, ◌≤◌, ◌<◌, ◌+◌, ℕ, get_or}
use Rattle.dtman_arena_c.proofs.marks.fill.Given as goal

abbrev pub invariant-loop-index : goal.invariant-loop-index
invariant-loop-index l = record {
  inside : (k d : ℕ) → l.at ≤ k → k < l.at + l.index → get_or l.marks k d ≡ l.mark;
  below : (k d : ℕ) → k < l.at → get_or l.marks k d ≡ get_or l.initial.marks k d;
  above : (k d : ℕ) → l.at + l.index ≤ k → get_or l.marks k d ≡ get_or l.initial.marks k d;
}
