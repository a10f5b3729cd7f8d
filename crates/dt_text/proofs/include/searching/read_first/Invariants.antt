-- The paths so far name no file.
use Rattle.std.proofs.Common.{map, take}
use Rattle.std.specs.Prelude.{All}
use Rattle.dt_text.specs.Include.Searching.{NamesNone, in_folder}
use Rattle.dt_text.proofs.include.searching.read_first.Given as goal

abbrev pub invariant-loop-folder : goal.invariant-loop-folder
invariant-loop-folder g l = All (NamesNone g.R.Reads.lacks) (map (λ folder. in_folder folder.now l.name) (take l.folder-index l.folders))
