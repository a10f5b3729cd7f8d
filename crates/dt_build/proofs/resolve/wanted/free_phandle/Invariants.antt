use Rattle.std.proofs.Common.{◌≡◌, ◌+◌, ◌-◌}
use Rattle.dt_build.specs.Resolve.Private.Wanted.{is_taken}
use Rattle.dt_build.proofs.ResolveLemmas.WantedSteps.{free_from}
use Rattle.dt_build.proofs.resolve.wanted.free_phandle.Given as goal

abbrev pub invariant-loop : goal.invariant-loop
invariant-loop l = free_from (is_taken l.taken) (l.tries - l.counter) l.phandle ≡ free_from (is_taken l.taken) l.tries (l.fn.last + 1)
