use Rattle.std.proofs.Common.{◌≡◌, ◌≤◌, ◌<◌, ◌+◌, ℕ, get_or}
use Rattle.dtman_arena_c.specs.Marks.{AreFree}
use Rattle.dtman_arena_c.proofs.marks.find.Given as goal

abbrev pub invariant-loop-at : goal.invariant-loop-at
invariant-loop-at l = record {
  short : l.run < l.count;
  within : l.run ≤ l.at;
  free : (k : ℕ) → l.at ≤ k + l.run → k < l.at → get_or l.marks k 1 ≡ 0;
  later : (s : ℕ) → l.from ≤ s → AreFree l.marks s l.count → l.at ≤ s + l.run;
}
