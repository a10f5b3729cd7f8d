-- Tokens by their numbers, and bytes of a view's blocks: Devicetree Specification v0.4, section 5.4.1.
use Rattle.std.specs.Prelude.{◌≡◌, ℕ, ◌+◌, nat_lt, List, [], ◌∷◌, length, take, drop, Option, Some, None, if◌then◌else◌}
use Rattle.std.specs.Option.{option_map}
use Rattle.dt_blob.specs.Token.{Token, begin_node, end_node, property, nop, end}
use Rattle.dt_patch.specs.declared.view.view.View.{View}
use Rattle.dt_patch.specs.View.Cells.{text_in}
use Rattle.dt_patch.specs.View.Reaching.{IsSpelled}
use Rattle.dt_patch.specs.View.Standing.{Ahead}
use Rattle.dtman_view_c.specs.declared.told.ViewTold.{ViewTold}

abbrev pub token_number : Token → ℕ
token_number (begin_node name) = 1
token_number end_node = 2
token_number (property name value) = 3
token_number nop = 4
token_number end = 9

-- a token is spelled right there: its number is told, and the offset behind it
abbrev pub IsToldToken : View → ℕ → ViewTold → Type 0
IsToldToken view at told =
    (t : Token) × (next : ℕ) × IsSpelled view at t next × (told ≡ record { status = 0; number = token_number t; at = next })

-- no token stands there
abbrev pub StandsNoToken : View → ℕ → Type 0
StandsNoToken view at = (t : Token) → Ahead view at (t ∷ []) → ⊥

-- so many bytes from a place on, where they are there whole
abbrev pub part_of : List ℕ → ℕ → ℕ → Option (List ℕ)
part_of bytes at count =
    if nat_lt (length bytes) at then None
    else (if nat_lt (length (drop at bytes)) count then None else Some (take count (drop at bytes)))

-- what stands behind the text that a value begins with, and behind its zero byte
abbrev pub behind_text : List ℕ → Option (List ℕ)
behind_text value = option_map (λ text. drop (length text + 1) value) (text_in value)
