-- A path that the index doesn't have is none of its own.
use Rattle.std.proofs.Common.{◌≡◌, sym, false, Bor, List, ℕ, [], get_or}
use Rattle.bus_plan.specs.PlanPaths.{is_among}
use Rattle.bus_plan.proofs.PathLemmas.{unknown-at}
use Rattle.bus_plan.proofs.device_line.are_known.Goals as goal

-- what stands past the end of a slice of paths
abbrev unnamed : Bor (List ℕ)
unnamed = record { ref_ptr = (0, 0); now = [] }

pub returns-then-not-contains : goal.returns-then-not-contains
returns-then-not-contains c =
    let i = c.loop-path.path-index in
    let path : List ℕ = (get_or c.args.paths.now i unnamed).now in
    let gone : is_among path c.args.index.now ≡ false = sym c.if-not-contains.ensures in
    sym (unknown-at c.args.index.now c.args.paths.now i unnamed c.loop-path-test.true gone)
