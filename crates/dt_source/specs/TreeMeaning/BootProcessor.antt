-- Boot processor of dtc: the processor on which the system boots, where the command line names none (Devicetree Specification v0.4,
-- sections 3.8 and 5.2, `boot_cpuid_phys`; which one, by dtc 1.6.1, tried by hand): the first row below /cpus when all is read,
-- whether it stands or was removed, and of its `reg` the bytes as they are written, if they are one cell.
use Rattle.std.specs.Prelude.{ℕ, List, [], ◌∷◌, Option, None, is_some, Result, Ok, codes, if◌then◌else◌, unwrap_or}
use Rattle.std.specs.List.{find, flat_map}
use Rattle.std.specs.Option.{option_and_then}
use Rattle.dt_tree.specs.Cell.{cell_in}
use Rattle.dt_tree.specs.Steps.{then_do}
use Rattle.dt_source.specs.TreeMeaning.Paths.{Path, name_below}
use Rattle.dt_source.specs.TreeMeaning.Syntax.{Piece, Plain, PhandleOf, PathOf, Stored, Meaning}
use Rattle.dt_source.specs.TreeMeaning.Edits.{Definition, is_of}
use Rattle.dt_source.specs.TreeMeaning.Statements.{Fault}
use Rattle.dt_source.specs.TreeMeaning.Places.{Row, what_stands}
use Rattle.dt_source.specs.TreeMeaning.DtcEdits.{DtcTree, node_stands}
use Rattle.dt_source.specs.TreeMeaning.DtcStatements.{dtc_edited}

abbrev pub cpus : Path
cpus = codes "cpus" ∷ []

-- A reference in cells isn't known yet, and one outside has no bytes yet, nor has a part of a file that wasn't filled in.
abbrev pub written : Piece → List ℕ
written (Plain b) = b
written (PhandleOf t) = 255 ∷ 255 ∷ 255 ∷ 255 ∷ []
written (PathOf t) = []
written (Stored at offset length) = []

abbrev pub number_written : Definition (List Piece) → Option ℕ
number_written e = cell_in (flat_map written e.value)

abbrev pub reg_of : DtcTree → Path → Option ℕ
reg_of t p = option_and_then number_written (find (is_of p (codes "reg")) (what_stands t.properties))

-- what was removed has no properties
abbrev pub reg_of_row : DtcTree → Row Path → Option ℕ
reg_of_row t r = if r.stands then reg_of t r.what else None

abbrev pub first_below : Path → List (Row Path) → Option (Row Path)
first_below p rows = find (λ r. is_some (name_below p r.what)) rows

abbrev pub boot_processor : DtcTree → ℕ
boot_processor t =
    if node_stands cpus t then unwrap_or (option_and_then (reg_of_row t) (first_below cpus t.nodes)) 0 else 0

abbrev pub dtc_boot_processor : Meaning → Result ℕ Fault
dtc_boot_processor m = then_do (dtc_edited m) (λ t. Ok (boot_processor t))
