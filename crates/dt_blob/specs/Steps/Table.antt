-- What is kept of a tree's names while its blob is made: the names in order of first sight, and where each stands in the strings block.
use Rattle.std.specs.Prelude.{◌≡◌, ◌≢◌, ℕ, ◌+◌, ◌<◌, ◌≤◌, ◌==◌, not, ◌&&◌, Bool, true, false, List, [], ◌∷◌, ◌++◌, length, slice_index_or, min, suc, Option, Some, None, All, AllPairs, if◌then◌else◌}
use Rattle.std.specs.List.{list_any}
use Rattle.std.specs.Option.{option_or}
use Rattle.std.specs.Str.{bytes_eq}
use Rattle.dt_tree.specs.Limits.{name_limit}
use Rattle.dt_blob.specs.Blob.{limit}
use Rattle.dt_blob.specs.Strings.{lowest_place, ended, offset_in, with_names}

-- ---- names
abbrev pub is_noted : List ℕ → List (List ℕ) → Bool
is_noted name names = list_any (bytes_eq name) names

-- the names once one is seen: a new one goes last
abbrev pub with_sight : List (List ℕ) → List ℕ → List (List ℕ)
with_sight names name = if is_noted name names then names else names ++ name ∷ []

abbrev pub with_sights : List (List ℕ) → List (List ℕ) → List (List ℕ)
with_sights names [] = names
with_sights names (seen ∷ later) = with_sights (with_sight names seen) later

abbrev pub no_zero : List ℕ → Bool
no_zero [] = true
no_zero (b ∷ bytes) = not (b == 0) && no_zero bytes

-- some bytes, none of them zero
abbrev pub is_clean : List ℕ → Bool
is_clean name = not (length name == 0) && no_zero name

-- lawful names, each another one
pub record AreNames (names : List (List ℕ)) : Type 0 where
  pub clean : All (λ name. is_clean name ≡ true) names
  pub differ : AllPairs (λ a b. a ≢ b) names

-- whether a name has the length of one that was seen; names of 255 bytes and more count as one length
abbrev pub is_length_seen : List Bool → List ℕ → Bool
is_length_seen lengths name = slice_index_or lengths (min (length name) name_limit) false

-- names, and the lengths that they have
pub record AreKept (names : List (List ℕ)) (lengths : List Bool) : Type 0 where
  pub differ : AreNames names
  pub seen : All (λ name. is_length_seen lengths name ≡ true) names
  pub room : length lengths ≡ name_limit + 1

-- ---- places
-- the block is empty or ends with a zero byte
abbrev pub IsClosed : List ℕ → Type 0
IsClosed [] = Unit {0}
IsClosed (b ∷ []) = b ≡ 0
IsClosed (b ∷ c ∷ bytes) = IsClosed (c ∷ bytes)

-- each name has its lowest place in the block, if it stands there
abbrev pub IsTable : List (List ℕ) → List (Option ℕ) → List ℕ → Type 0
IsTable names places block = (i : ℕ) (d : List ℕ) (v : Option ℕ) → i < length names → slice_index_or places i v ≡ lowest_place (ended (slice_index_or names i d)) block

-- where a name stands from `start` on in a name's bytes, as a tail of it
abbrev pub tail_at : ℕ → List ℕ → List ℕ → Option ℕ
tail_at start tail [] = None
tail_at start tail (b ∷ bytes) = if bytes_eq tail (b ∷ bytes) then Some start else tail_at (suc start) tail bytes

-- each name has its lowest place in the block, once the tails that begin from `start` on have theirs
abbrev pub Pending : List (List ℕ) → List (Option ℕ) → List ℕ → ℕ → List ℕ → Type 0
Pending names places block start rest = (i : ℕ) (d : List ℕ) (v : Option ℕ) → i < length names → option_or (slice_index_or places i v) (tail_at start (slice_index_or names i d) rest) ≡ lowest_place (ended (slice_index_or names i d)) block

-- a table for a block of this size, which isn't too large
pub record IsPlacedBehind (names : List (List ℕ)) (places : List (Option ℕ)) (block : List ℕ) (end : ℕ) : Type 0 where
  pub table : IsTable names places block
  pub size : end ≡ length block
  pub fits : end ≤ limit

-- the names stand in the whole block
pub record ArePlaced (names : List (List ℕ)) (places : List (Option ℕ)) (end : ℕ) : Type 0 where
  pub room : length places ≡ length names
  pub whole : IsPlacedBehind names places (with_names [] names) end

-- the offset that a name has in the whole block
abbrev pub placed : List (List ℕ) → List ℕ → ℕ
placed names name = if is_noted name names then offset_in (with_names [] names) name else 0
