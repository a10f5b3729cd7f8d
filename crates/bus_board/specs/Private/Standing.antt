-- How a seat stands at the words that it steps on.
use Rattle.std.specs.Prelude.{◌≡◌, ◌<◌, ◌+◌, ℕ, true, List, [], length, None, slice_index}
use Rattle.atomic_table.specs.Seated.{TableId}
use Rattle.atomic_table.specs.Table.{Me}
use Rattle.bus_plan.specs.Plan.{PlannedDevice}
use Rattle.bus_core.specs.CoreState.{CoreValue}
use Rattle.bus_core.specs.History.{IsBusHistory}
use Rattle.bus_board.specs.Views.{opener}
use Rattle.bus_board.specs.declared.view.View.{View}

-- the table holds the words of this plan and a spare one, and the token is one of its own
abbrev pub StandsAt : List PlannedDevice → TableId → CoreValue → TableId → Type 0
StandsAt plan table core token = (token ≡ table) × (core.plan ≡ plan) × (table.words ≡ length plan + 1)

-- the seat is open, and what it has seen is a history of this plan
abbrev pub IsOpen : List PlannedDevice → View → Type 0
IsOpen plan v = (v.plan ≡ plan) × (v.live ≡ true) × IsBusHistory v.plan v.seen

-- and has no flight
abbrev pub IsIdle : List PlannedDevice → View → Type 0
IsIdle plan v = (v.plan ≡ plan) × (v.live ≡ true) × (v.flight ≡ None) × IsBusHistory v.plan v.seen

-- it owes these devices of the plan
abbrev pub Owes : List PlannedDevice → View → List ℕ → Type 0
Owes plan v owed = (v.owed ≡ owed) × ((i : ℕ) → i < length owed → slice_index owed i < length plan)

-- a new table over the core, and the token of its first seat
abbrev pub IsFirstTable : CoreValue → TableId → CoreValue → TableId → Me (Unit {0}) View → Type 0
IsFirstTable core table key token me =
    (table.words ≡ length core.plan + 1) × (table.slots ≡ 0) × (key ≡ core) × (token ≡ table) × (me ≡ (opener core, []))
