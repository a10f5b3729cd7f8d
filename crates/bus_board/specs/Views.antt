-- Words on the views of seats, and what becomes of a view.
use Rattle.std.specs.Prelude.{◌==◌, ℕ, Bool, true, false, if◌then◌else◌, List, [], ◌∷◌, ◌++◌, length, Option, Some, None}
use Rattle.bus_plan.specs.Plan.{PlannedDevice, verdict_of}
use Rattle.bus_plan.specs.Consumers.{consumers_of}
use Rattle.bus_core.specs.CoreState.{CoreValue}
use Rattle.bus_core.specs.History.{outcome_by, is_bound}
use Rattle.bus_core.specs.Step.{settle_of}
use Rattle.bus_board.specs.Lists.{pairs, times}
use Rattle.bus_board.specs.Opening.{opening_of, nothing_before}
use Rattle.bus_board.specs.Outcomes.{History, longer, shorter}
use Rattle.bus_board.specs.Shares.{whole, nothing, half, together}
use Rattle.bus_board.specs.Words.{WOKEN}
use Rattle.bus_board.specs.declared.view.View.{View}
use Rattle.bus_board.specs.declared.view.Flight.{Flight}

-- whether the last look at a supplier found it BOUND; None where there was no look
abbrev pub last_look : List (ℕ × Bool) → ℕ → Option Bool
last_look [] s = None
last_look (x ∷ looks) s = if x.0 == s then Some x.1 else last_look looks s

abbrev pub flies_in : Option Flight → ℕ → ℕ
flies_in None d = 0
flies_in (Some f) d = if f.device == d then 1 else 0

-- how many flights of the device a seat has
abbrev pub flies : ℕ → View → ℕ
flies d v = flies_in v.flight d

-- how often a seat owes the device
abbrev pub owes : ℕ → View → ℕ
owes d v = times d v.owed

-- how often a seat has claimed the device from this word
abbrev pub claims : ℕ → ℕ → View → ℕ
claims d w v = pairs d w v.claimed

-- the settles of these devices, in the order of the history
abbrev pub of_devices : List ℕ → History → History
of_devices mine [] = []
of_devices mine (s ∷ h) = if times s.device mine == 0 then of_devices mine h else (s ∷ of_devices mine h)

-- a seat's own settles, in the order that it has seen
abbrev pub made : View → History
made v = of_devices v.mine v.seen

-- the first seat of a board over a core: the board is all its own, and it has seen what settled before
abbrev pub opener : CoreValue → View
opener core = record {
  live = true;
  share = whole;
  plan = core.plan;
  opening = opening_of core.state;
  seen = core.state.history;
  told = [];
  mine = [];
  flight = None;
  claimed = [];
  passed = [];
  owed = [];
}

-- a further seat, which has half of the given one's share, and has seen what that one has
abbrev pub newcomer : View → View
newcomer v = record { live = true; share = half v.share; plan = v.plan; opening = v.opening; seen = v.seen; told = []; mine = []; flight = None; claimed = []; passed = []; owed = [] }

-- the given one, which keeps the other half
abbrev pub lender : View → View
lender v = record { live = v.live; share = half v.share; plan = v.plan; opening = v.opening; seen = v.seen; told = v.told; mine = v.mine; flight = v.flight; claimed = v.claimed; passed = v.passed; owed = v.owed }

-- both seats' views: the longer front is seen, and the shorter one is noted
abbrev pub both : View → View → View
both v w = record {
  live = v.live;
  share = together v.share w.share;
  plan = v.plan;
  opening = v.opening;
  seen = longer v.seen w.seen;
  told = shorter v.seen w.seen;
  mine = v.mine ++ w.mine;
  flight = v.flight;
  claimed = v.claimed ++ w.claimed;
  passed = v.passed ++ w.passed;
  owed = v.owed ++ w.owed;
}

-- what a seat leaves that was given back
abbrev pub spent : View
spent = record { live = false; share = nothing; plan = []; opening = nothing_before; seen = []; told = []; mine = []; flight = None; claimed = []; passed = []; owed = [] }

-- it has seen this history
abbrev pub caught_up : View → History → View
caught_up v log = record { live = v.live; share = v.share; plan = v.plan; opening = v.opening; seen = log; told = v.told; mine = v.mine; flight = v.flight; claimed = v.claimed; passed = v.passed; owed = v.owed }

-- a claim of the device from the word w was won
abbrev pub claimed_by : View → History → ℕ → ℕ → View
claimed_by v log d w = record {
  live = v.live;
  share = v.share;
  plan = v.plan;
  opening = v.opening;
  seen = log;
  told = v.told;
  mine = v.mine;
  flight = Some (record { device = d; at = length log; again = w == WOKEN; looks = [] });
  claimed = (d, w) ∷ v.claimed;
  passed = v.passed;
  owed = v.owed;
}

-- these claims were lost
abbrev pub passed_all : View → History → List (ℕ × ℕ) → View
passed_all v log lost = record { live = v.live; share = v.share; plan = v.plan; opening = v.opening; seen = log; told = v.told; mine = v.mine; flight = v.flight; claimed = v.claimed; passed = v.passed ++ lost; owed = v.owed }

abbrev pub looked_in : Option Flight → ℕ → Bool → Option Flight
looked_in None s b = None
looked_in (Some f) s b = Some (record { device = f.device; at = f.at; again = f.again; looks = (s, b) ∷ f.looks })

-- the flight looked at a supplier, and found it BOUND or not
abbrev pub looked : View → History → ℕ → Bool → View
looked v log s b = record { live = v.live; share = v.share; plan = v.plan; opening = v.opening; seen = log; told = v.told; mine = v.mine; flight = looked_in v.flight s b; claimed = v.claimed; passed = v.passed; owed = v.owed }

-- what a settle of the device makes its seat owe: all consumers, where it bound
abbrev pub debts_of : List PlannedDevice → ℕ → List ℕ
debts_of plan d = if is_bound (outcome_by (verdict_of plan d)) then consumers_of plan d else []

-- the flight ended, and its device settled
abbrev pub settled_by : View → History → ℕ → View
settled_by v log d = record {
  live = v.live;
  share = v.share;
  plan = v.plan;
  opening = v.opening;
  seen = log ++ settle_of v.plan d ∷ [];
  told = v.told;
  mine = d ∷ v.mine;
  flight = None;
  claimed = v.claimed;
  passed = v.passed;
  owed = v.owed ++ debts_of v.plan d;
}

-- the flight ended, and its device waits
abbrev pub deferred : View → History → ℕ → View
deferred v log d = record { live = v.live; share = v.share; plan = v.plan; opening = v.opening; seen = log; told = v.told; mine = v.mine; flight = None; claimed = v.claimed; passed = v.passed; owed = v.owed ++ d ∷ [] }

abbrev pub rest : List ℕ → List ℕ
rest [] = []
rest (x ∷ xs) = xs

-- these debts are left
abbrev pub with_debts : View → History → List ℕ → View
with_debts v log left = record { live = v.live; share = v.share; plan = v.plan; opening = v.opening; seen = log; told = v.told; mine = v.mine; flight = v.flight; claimed = v.claimed; passed = v.passed; owed = left }

-- the first debt dropped
abbrev pub relieved : View → History → View
relieved v log = with_debts v log (rest v.owed)
