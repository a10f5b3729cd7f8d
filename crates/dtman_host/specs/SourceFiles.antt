-- The files of a disk that a source takes in (dtc's manual, Documentation/manual.txt, section 4.1).
use Rattle.std.specs.Prelude.{ℕ, List}
use Rattle.dt_text.specs.Include.Searching.{FindsWithin}
use Rattle.dtman_host.specs.Outcome.{Finding, Lacking}

-- a file that some folders lead to: of what stands on a disk nothing is known
abbrev pub SomeFile : Finding
SomeFile beside name found =
    (folders : List (List ℕ)) × FindsWithin (λ path bytes. Unit {0}) (λ path. Unit {0}) folders beside name found

abbrev pub NoFile : Lacking
NoFile beside name = Unit {0}
