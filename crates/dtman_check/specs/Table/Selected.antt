-- Which checks are asked for (dtc's manual, Documentation/manual.txt, section 'Command-line arguments', -W and -E; the names are said by
-- `dtc -W`): a check warns, is an error, or neither. With one that is asked for go those that it stands on; with one that isn't, those
-- that stand on it.
use Rattle.std.specs.Prelude.{ℕ, ◌+◌, Bool, true, false, not, ◌&&◌, ◌||◌, ◌==◌, nat_eq, codes, if◌then◌else◌, List, [], ◌∷◌, take, drop, Option}
use Rattle.std.specs.Option.{option_map_or}
use Rattle.std.specs.List.{slice_get, list_any, position_from, starts_with}
use Rattle.std.specs.Str.{bytes_eq}
use Rattle.dtman_check.specs.declared.table.check.Check.{Check}
use Rattle.dtman_check.specs.declared.table.check.Severity.{Severity}
use Rattle.dtman_check.specs.declared.table.check.Severity.TheVariants.{Off, Warning, Error}
use Rattle.dtman_check.specs.declared.table.selection.Change.{Change}
use Rattle.dtman_check.specs.declared.table.selection.Kind.{Kind}
use Rattle.dtman_check.specs.declared.table.selection.Kind.TheVariants.{Warning as ByWarning, Error as ByError}
use Rattle.dtman_check.specs.declared.table.selection.Least.{Least}
use Rattle.dtman_check.specs.declared.table.selection.Least.TheVariants.{Warning as AtLeastWarning, Error as AtLeastError}
use Rattle.dtman_check.specs.declared.table.selection.Level.{Level}
use Rattle.dtman_check.specs.Table.Checks.{CheckData, checks}

pub record SelectionData : Type 0 where
  pub rows : List Check
  pub levels : List Level

-- ---- by default
abbrev pub usual : Severity → Level
usual Off = record { warns = false; fails = false }
usual Warning = record { warns = true; fails = false }
usual Error = record { warns = false; fails = true }

abbrev pub usual_levels : List Check → List Level
usual_levels [] = []
usual_levels (r ∷ rs) = usual r.severity ∷ usual_levels rs

abbrev pub level_at : List Level → ℕ → Level
level_at ls place = option_map_or (λ l. l) (slice_get ls place) (usual Off)

-- ---- a change
abbrev pub is_among : List ℕ → ℕ → Bool
is_among places wanted = list_any (λ place. place == wanted) places

abbrev pub stands_on : List Check → ℕ → ℕ → Bool
stands_on rows one other = option_map_or (λ r. is_among r.made_before.now other) (slice_get rows one) false

abbrev pub goes_along : List Check → Change → ℕ → Bool
goes_along rows c place = if c.on then stands_on rows c.check place else stands_on rows place c.check

abbrev pub goes : List Check → Change → ℕ → Bool
goes rows c place = place == c.check || goes_along rows c place

abbrev pub level_with : Kind → Bool → Level → Level
level_with ByWarning on l = record { warns = on; fails = l.fails }
level_with ByError on l = record { warns = l.warns; fails = on }

abbrev pub is_so : Kind → Level → Bool
is_so ByWarning l = l.warns
is_so ByError l = l.fails

abbrev pub changed_at : List Check → Change → ℕ → Level → Level
changed_at rows c place l = if goes rows c place then level_with c.kind c.on l else l

-- the levels from this place on
abbrev pub changed_from : List Check → Change → ℕ → List Level → List Level
changed_from rows c place [] = []
changed_from rows c place (l ∷ ls) = changed_at rows c place l ∷ changed_from rows c (place + 1) ls

-- what is so already stays as it is, with all that goes along
abbrev pub is_done : List Level → Change → Bool
is_done ls c = if c.on then is_so c.kind (level_at ls c.check) else not (is_so c.kind (level_at ls c.check))

abbrev pub changed : Change → SelectionData → SelectionData
changed c s =
    if is_done s.levels c then s
    else record { rows = s.rows; levels = changed_from s.rows c 0 s.levels }

-- ---- by an option's word
-- the check of a name; the last of the table is asked for by its reference set alone
abbrev pub is_called : List ℕ → CheckData → Bool
is_called name r = bytes_eq r.name name

abbrev pub check_of : List ℕ → Option ℕ
check_of name = position_from (is_called name) 0 (take 89 checks)

-- a name, or one behind `no-` or `no_`
abbrev pub is_against : List ℕ → Bool
is_against word = starts_with nat_eq word (codes "no-") || starts_with nat_eq word (codes "no_")

abbrev pub name_in : List ℕ → List ℕ
name_in word = if is_against word then drop 3 word else word

-- what an option with this word asks
abbrev pub change_by : Kind → List ℕ → ℕ → Change
change_by kind word check = record { kind = kind; check = check; on = not (is_against word) }

-- nothing where no check has the name
abbrev pub applied : Kind → List ℕ → SelectionData → SelectionData
applied kind word s = option_map_or (λ check. changed (change_by kind word check) s) (check_of (name_in word)) s

-- ---- what is asked for
abbrev pub is_asked : Least → Level → Bool
is_asked AtLeastWarning l = l.warns || l.fails
is_asked AtLeastError l = l.fails

-- whether a check is asked for and stands on that at a place
abbrev pub asks_for : Least → List Level → ℕ → ℕ → Check → Bool
asks_for least ls place above row = is_asked least (level_at ls above) && is_among row.made_before.now place

-- whether one of these checks does, the first of which has this place
abbrev pub any_asks_for : Least → List Level → ℕ → ℕ → List Check → Bool
any_asks_for least ls place above [] = false
any_asks_for least ls place above (r ∷ rs) =
    asks_for least ls place above r || any_asks_for least ls place (above + 1) rs

-- whether a check is made: where it is asked for, or one that stands on it
abbrev pub is_due : Least → SelectionData → ℕ → Bool
is_due least s place = is_asked least (level_at s.levels place) || any_asks_for least s.levels place 0 s.rows
