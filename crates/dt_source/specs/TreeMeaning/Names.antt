-- The names and texts that a compiler makes itself (dt-object-internal, sections 1.1 and 2).
use Rattle.std.specs.Prelude.{ℕ, zero, suc, Bool, false, ◌||◌, List, [], ◌++◌, codes}
use Rattle.std.specs.Fmt.{digits_onto}
use Rattle.std.specs.Str.{bytes_eq}

-- a number in decimal digits; std's own word doesn't compute in proofs
unfoldable pub decimal : ℕ → List ℕ
decimal n = digits_onto 20 10 false n []

abbrev pub fragment_name : ℕ → List ℕ
fragment_name n = codes "fragment@" ++ decimal n

-- the name of one of the first n fragments
abbrev pub is_fragment : ℕ → List ℕ → Bool
is_fragment zero name = false
is_fragment (suc n) name = bytes_eq name (fragment_name n) || is_fragment n name

abbrev pub overlay_name : List ℕ
overlay_name = codes "__overlay__"

abbrev pub symbols_name : List ℕ
symbols_name = codes "__symbols__"

abbrev pub fixups_name : List ℕ
fixups_name = codes "__fixups__"

abbrev pub local_fixups_name : List ℕ
local_fixups_name = codes "__local_fixups__"
