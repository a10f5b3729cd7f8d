-- What the printers answer.
use Rattle.std.specs.Prelude.{◌≡◌, ℕ, List, MatchResult}
use Rattle.dtman_engine.specs.Fault.{Answer, fault_value, no_memory}

-- the text, or want of memory
abbrev pub Prints : List ℕ → Answer → Type 0
Prints text given = MatchResult given (λ printed. printed.items ≡ text) (λ fault. fault_value fault ≡ no_memory)
