-- Which phandle a node gets that is given none (Devicetree Specification v0.4, section 2.3.3).
use Rattle.std.specs.Prelude.{◌≡◌, ℕ, zero, suc, ◌+◌, ◌<◌, Bool, true, not, ◌&&◌, List, length, map, if◌then◌else◌, nat_lt, slice_index}
use Rattle.dt_source.specs.TreeMeaning.Paths.{Path}
use Rattle.dt_source.specs.TreeMeaning.Phandles.{PathPhandle, has_phandle, assigned}

-- a positive number that isn't given
abbrev pub is_free : List PathPhandle → ℕ → Bool
is_free given n = nat_lt 0 n && not (has_phandle n given)

-- how many of the numbers below this one are free
abbrev pub free_below : List PathPhandle → ℕ → ℕ
free_below given zero = 0
free_below given (suc n) = free_below given n + (if is_free given n then 1 else 0)

-- This is the k-th positive number that isn't given, counted from 0: it is free, and k free ones are below it.
pub record IsKthFree (given : List PathPhandle) (k n : ℕ) : Type 0 where
  pub free : is_free given n ≡ true
  pub before : free_below given n ≡ k

abbrev pub numbers : List PathPhandle → List ℕ
numbers xs = map (λ x. x.phandle) xs

-- the nodes that get a number are those that want one, in their order
abbrev pub GivesEachNode : Type 0
GivesEachNode = (given : List PathPhandle) (wanted : List Path) → map (λ x. x.path) (assigned given 0 wanted) ≡ wanted

-- and the k-th of them gets the k-th positive number that isn't given
abbrev pub GivesKthFree : Type 0
GivesKthFree = (given : List PathPhandle) (wanted : List Path) (k : ℕ) → k < length wanted → IsKthFree given k (slice_index (numbers (assigned given 0 wanted)) k)

-- of which there is one
abbrev pub IsOneNumber : Type 0
IsOneNumber = (given : List PathPhandle) (k m n : ℕ) → IsKthFree given k m → IsKthFree given k n → m ≡ n
