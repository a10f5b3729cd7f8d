-- What an alias of a module says (Linux, scripts/mod/file2alias.c): `of:N*T*C` and a `compatible` string, behind which `C*` or `*` may stand.
use Rattle.std.specs.Prelude.{◌≡◌, ℕ, Bool, ◌&&◌, ◌||◌, ◌==◌, ◌-◌, not, if◌then◌else◌, codes, List, length, take, drop}
use Rattle.std.specs.List.{list_any}
use Rattle.std.specs.Str.{bytes_eq}
use Rattle.bus_plan.specs.Plan.{is_compatible}

abbrev pub begins_with : List ℕ → List ℕ → Bool
begins_with front bytes = bytes_eq (take (length front) bytes) front

abbrev pub ends_with : List ℕ → List ℕ → Bool
ends_with end bytes = bytes_eq (drop (length bytes - length end) bytes) end

abbrev pub without_end : List ℕ → List ℕ → List ℕ
without_end end bytes = take (length bytes - length end) bytes

-- any name, any type, and then what `compatible` has
abbrev pub front : List ℕ
front = codes "of:N*T*C"

-- it speaks of a devicetree's devices
abbrev pub is_of : List ℕ → Bool
is_of alias = begins_with (codes "of:") alias

abbrev pub string_in : List ℕ → List ℕ
string_in pattern =
    if ends_with (codes "C*") pattern then without_end (codes "C*") pattern
    else (if ends_with (codes "*") pattern then without_end (codes "*") pattern else pattern)

-- `*`, `?` or `[`
abbrev pub is_wild : ℕ → Bool
is_wild b = b == 42 || (b == 63 || b == 91)

-- a string that a driver file may list, and that says no more than itself
abbrev pub is_plain : List ℕ → Bool
is_plain string = is_compatible string && not (list_any is_wild string)

-- the `compatible` string of an alias that has one
abbrev pub string_of : List ℕ → List ℕ
string_of alias = string_in (drop (length front) alias)

abbrev pub says_string : List ℕ → Bool
says_string alias = begins_with front alias && is_plain (string_of alias)
