use Rattle.std.proofs.Common.{◌≤◌, ◌+◌, length}
use Rattle.dt_text.proofs.LexemeLemmas.Scanning.{Scans}
use Rattle.dt_text.proofs.lexeme.scanner.scan_front.Given as goal

abbrev pub invariant-lexemes : goal.invariant-lexemes
invariant-lexemes l = record {
  shorter : length l.left ≤ length l.text;
  braces : l.context.braces + length l.left ≤ length l.text;
  parens : l.context.parens + length l.left ≤ length l.text;
  scans : Scans l.fn.language l.text l.found.items l.context l.left;
}

abbrev pub decreases-lexemes : goal.decreases-lexemes
decreases-lexemes l = length l.left
