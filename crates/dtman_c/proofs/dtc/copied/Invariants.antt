use Rattle.std.proofs.Common.{◌≡◌, map, take}
use Rattle.dtman_c.specs.Dtc.{given_place, place_of}
use Rattle.dtman_c.proofs.dtc.copied.Given as goal

abbrev pub invariant-loop-file : goal.invariant-loop-file
invariant-loop-file l = map place_of l.binaries.items ≡ map given_place (take l.file-index l.files)
