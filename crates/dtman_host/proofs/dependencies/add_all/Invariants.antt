use Rattle.std.proofs.Common.{◌≡◌, ◌++◌, drop, map}
use Rattle.dtman_host.specs.Dependencies.{listed}
use Rattle.dtman_host.proofs.dependencies.add_all.Given as goal

-- the line so far and the files that are left are all
abbrev pub invariant-loop-file : goal.invariant-loop-file
invariant-loop-file l =
    l.line.items ++ listed (map (λ file. file.items) (drop l.file-index l.files)) ≡ l.fn.line.items ++ listed (map (λ file. file.items) l.files)
