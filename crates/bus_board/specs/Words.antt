-- The words of the devices, and what each tells.
use Rattle.std.specs.Prelude.{◌≡◌, ◌==◌, ◌⊎◌, ℕ, Bool, if◌then◌else◌, List, Option, Some, None, slice_index_or}
use Rattle.bus_core.specs.declared.settle.Outcome.{Outcome}
use Rattle.bus_core.specs.declared.settle.Outcome.TheVariants as outcome
use Rattle.bus_board.specs.declared.words.Word.{Word}
use Rattle.bus_board.specs.declared.words.Word.TheVariants.{Fresh, Trying, Waiting, Woken, Retrying, Bound, Failed, Unmatched}

abbrev pub FRESH : ℕ
FRESH = 0

abbrev pub TRYING : ℕ
TRYING = 1

abbrev pub WAITING : ℕ
WAITING = 2

abbrev pub WOKEN : ℕ
WOKEN = 3

abbrev pub RETRYING : ℕ
RETRYING = 4

abbrev pub BOUND : ℕ
BOUND = 5

abbrev pub FAILED : ℕ
FAILED = 6

abbrev pub UNMATCHED : ℕ
UNMATCHED = 7

abbrev pub number_of : Word → ℕ
number_of Fresh = FRESH
number_of Trying = TRYING
number_of Waiting = WAITING
number_of Woken = WOKEN
number_of Retrying = RETRYING
number_of Bound = BOUND
number_of Failed = FAILED
number_of Unmatched = UNMATCHED

abbrev pub word_of : ℕ → Word
word_of w =
    if w == FRESH then Fresh
    else (if w == TRYING then Trying
    else (if w == WAITING then Waiting
    else (if w == WOKEN then Woken
    else (if w == RETRYING then Retrying
    else (if w == BOUND then Bound
    else (if w == FAILED then Failed
    else Unmatched))))))

-- the outcome that a word tells of
abbrev pub settled_as : ℕ → Option Outcome
settled_as w = if w == BOUND then Some outcome.Bound else (if w == FAILED then Some outcome.Failed else None)

-- how many flights a word tells of: one where it is TRYING or RETRYING
abbrev pub flights_of : ℕ → ℕ
flights_of w = if w == TRYING then 1 else (if w == RETRYING then 1 else 0)

-- the word of a flight, by whether it was claimed from WOKEN
abbrev pub flying_word : Bool → ℕ
flying_word again = if again then RETRYING else TRYING

-- the word that a flight was claimed from
abbrev pub claimed_word : Bool → ℕ
claimed_word again = if again then WOKEN else FRESH

-- how often a device was begun, which is claimed from FRESH: not where its word is FRESH or UNMATCHED, and else once
abbrev pub begins_of : ℕ → ℕ
begins_of w = if w == FRESH then 0 else (if w == UNMATCHED then 0 else 1)

-- how often it was claimed from WOKEN at most: once where its word is RETRYING, BOUND or FAILED
abbrev pub most_retries : ℕ → ℕ
most_retries w = if w == RETRYING then 1 else (if w == BOUND then 1 else (if w == FAILED then 1 else 0))

-- RETRYING, BOUND or FAILED
abbrev pub IsRetried : ℕ → Type 0
IsRetried w = (w ≡ RETRYING) ⊎ (w ≡ BOUND) ⊎ (w ≡ FAILED)

-- BOUND or FAILED
abbrev pub end_word : Outcome → ℕ
end_word outcome.Bound = BOUND
end_word outcome.Failed = FAILED

-- the word of a device at the end
abbrev pub word_at : List Word → ℕ → Word
word_at words d = slice_index_or words d Unmatched

abbrev pub is_bound_word : Word → Bool
is_bound_word w = number_of w == BOUND
