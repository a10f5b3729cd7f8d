-- What a run of the checks tells (dtc's manual, Documentation/manual.txt, section 'Command-line arguments', -W and -E).
-- In the table's order each check that is asked for is made, and each that one of these stands on. One that stands on a check
-- that told something tells of that; any other tells what it finds. Behind an error no check is made.
use Rattle.std.specs.Prelude.{◌≡◌, ℕ, ◌+◌, Bool, false, not, ◌&&◌, ◌||◌, ◌==◌, if◌then◌else◌}
use Rattle.std.specs.Prelude.{List, [], ◌∷◌, ◌++◌, length, Option, slice_get}
use Rattle.std.specs.Bool.{MatchBool}
use Rattle.std.specs.Option.{option_copied, option_map_or}
use Rattle.dt_check.specs.Nodes.{PlacedData}
use Rattle.dt_live.specs.declared.making.places.Places.{Places}
use Rattle.dtman_check.specs.declared.table.check.Check.{Check}
use Rattle.dtman_check.specs.declared.table.check.Finds.{Finds}
use Rattle.dtman_check.specs.declared.table.check.Finds.TheVariants.{Nothing, Units, Unknown}
use Rattle.dtman_check.specs.declared.table.check.Finds.TheVariants.{Node, Properties, Links, Lists, Aliases}
use Rattle.dtman_check.specs.declared.table.reference.Row.{Row}
use Rattle.dtman_check.specs.declared.table.selection.Least.{Least}
use Rattle.dtman_check.specs.declared.table.selection.Level.{Level}
use Rattle.dtman_check.specs.declared.table.subject.Subject.{Subject}
use Rattle.dtman_check.specs.Table.Finding.{FindingData, failed_prerequisite}
use Rattle.dtman_check.specs.Table.Found.{found}
use Rattle.dtman_check.specs.Table.Units.{units_found}
use Rattle.dtman_check.specs.Table.Unknown.{unknown_found}
use Rattle.dtman_check.specs.Table.Selected.{SelectionData, level_at, is_asked, is_due}

-- ---- what one check tells
-- what a check finds in these nodes, by a reference set
abbrev pub FindsIn : List Row → List PlacedData → Option Places → ℕ → Finds → List FindingData → Type 0
FindsIn known nodes written check (Units counted) more = more ≡ units_found check counted nodes
FindsIn known nodes written check Unknown more = more ≡ unknown_found check known nodes
FindsIn known nodes written check Nothing more = more ≡ found check Nothing nodes written
FindsIn known nodes written check (Node among rules) more = more ≡ found check (Node among rules) nodes written
FindsIn known nodes written check (Properties rule) more = more ≡ found check (Properties rule) nodes written
FindsIn known nodes written check (Links among rules) more = more ≡ found check (Links among rules) nodes written
FindsIn known nodes written check (Lists listed listing) more = more ≡ found check (Lists listed listing) nodes written
FindsIn known nodes written check Aliases more = more ≡ found check Aliases nodes written

-- whether a check told something, by what each before it in the table did
abbrev pub has_told : List Bool → ℕ → Bool
has_told told check = option_map_or (λ t. t) (slice_get told check) false

-- that it stands on those of these checks that told something
abbrev pub missing : List Bool → ℕ → List ℕ → List FindingData
missing told check [] = []
missing told check (n ∷ ns) =
    if has_told told n then failed_prerequisite check n ∷ missing told check ns else missing told check ns

abbrev pub MakesBehind : List FindingData → List Row → List PlacedData → Option Places → ℕ → Check → List FindingData → Type 0
MakesBehind [] known nodes written check row more = FindsIn known nodes written check row.finds more
MakesBehind (f ∷ fs) known nodes written check row more = more ≡ f ∷ fs

abbrev pub Makes : List Bool → List Row → List PlacedData → Option Places → ℕ → Check → List FindingData → Type 0
Makes told known nodes written check row more =
    MakesBehind (missing told check row.prerequisites.now) known nodes written check row more

-- ---- what all of them tell, of a subject: its nodes, and where its source has them
abbrev pub FindsOf : Subject → ℕ → Finds → List FindingData → Type 0
FindsOf s check finds more = FindsIn s.reference.now s.survey.now (option_copied s.written) check finds more

abbrev pub MakesOf : Subject → List Bool → ℕ → Check → List FindingData → Type 0
MakesOf s told check row more = Makes told s.reference.now s.survey.now (option_copied s.written) check row more

-- a run so far: of each check whether it told something, what was told, whether an error stands
pub record RunData : Type 0 where
  pub told : List Bool
  pub findings : List FindingData
  pub failed : Bool

-- after the next check told this: what isn't asked for is only looked at
abbrev pub after : Least → Level → List FindingData → RunData → RunData
after least level more run = record {
  told = run.told ++ not (length more == 0) ∷ [];
  findings = if is_asked least level then run.findings ++ more else run.findings;
  failed = run.failed || (level.fails && not (length more == 0));
}

abbrev pub MakesNext :
    List Row → List PlacedData → Option Places → SelectionData → Least → ℕ → Check → RunData → RunData → Type 0
MakesNext known nodes written selection least check row run next =
    (more : List FindingData) × (next ≡ after least (level_at selection.levels check) more run)
    × MatchBool (is_due least selection check && not run.failed) (Makes run.told known nodes written check row more) (more ≡ [])

-- the checks of the table from this place on
abbrev pub MakesFrom :
    List Row → List PlacedData → Option Places → SelectionData → Least → ℕ → List Check → RunData → RunData → Type 0
MakesFrom known nodes written selection least check [] run end = end ≡ run
MakesFrom known nodes written selection least check (r ∷ rs) run end =
    (next : RunData) × MakesNext known nodes written selection least check r run next
    × MakesFrom known nodes written selection least (check + 1) rs next end

-- what a whole run tells, and whether an error stands
abbrev pub Tells : List Row → List PlacedData → Option Places → SelectionData → Least → List FindingData → Bool → Type 0
Tells known nodes written selection least findings failed =
    (told : List Bool) × MakesFrom known nodes written selection least 0 selection.rows
    (record { told = []; findings = []; failed = false })
    (record { told = told; findings = findings; failed = failed })

-- the same three of a subject
abbrev pub MakesNextOf : Subject → SelectionData → Least → ℕ → Check → RunData → RunData → Type 0
MakesNextOf s selection least check row run next =
    MakesNext s.reference.now s.survey.now (option_copied s.written) selection least check row run next

abbrev pub MakesFromOf : Subject → SelectionData → Least → ℕ → List Check → RunData → RunData → Type 0
MakesFromOf s selection least check rows run end =
    MakesFrom s.reference.now s.survey.now (option_copied s.written) selection least check rows run end

abbrev pub TellsOf : Subject → SelectionData → Least → List FindingData → Bool → Type 0
TellsOf s selection least findings failed = Tells s.reference.now s.survey.now (option_copied s.written) selection least findings failed
