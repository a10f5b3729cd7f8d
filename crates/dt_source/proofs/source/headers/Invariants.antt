use Rattle.std.proofs.Common.{◌≡◌, ◌<◌, length, None, ℕ}
use Rattle.dt_source.specs.Reading.Whole.{more_headers, headers_at}
use Rattle.dt_source.specs.Reading.Loops.{folded}
use Rattle.dt_source.proofs.SourceLoops.{headers_left}
use Rattle.dt_source.proofs.source.headers.Given as goal

abbrev pub invariant-headers : goal.invariant-headers
invariant-headers l = (n : ℕ) × (length l.left < n) × (folded more_headers l.plugin None (headers_left n l.left) ≡ headers_at l.ts)

abbrev pub decreases-headers : goal.decreases-headers
decreases-headers l = length l.left
