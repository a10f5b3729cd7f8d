-- How many workers a run may have.
use Rattle.std.specs.Prelude.{◌≡◌, ◌⊎◌, ◌<◌, ℕ}

abbrev pub most_workers : ℕ
most_workers = 64

-- none, or more than these
abbrev pub AreRefused : ℕ → Type 0
AreRefused workers = (workers ≡ 0) ⊎ (most_workers < workers)
