-- What the code says of an alias.
use Rattle.std.specs.Prelude.{◌≡◌, ℕ, true, false, List}
use Rattle.bus_drivers.specs.Modules.Alias.{is_of, says_string, string_of}
use Rattle.bus_drivers.specs.declared.modules.alias.Said.{Said}
use Rattle.bus_drivers.specs.declared.modules.alias.Said.TheVariants.{Nothing, Matches, More}

abbrev pub IsSaid : List ℕ → Said → Type 0
IsSaid alias Nothing = is_of alias ≡ false
IsSaid alias (Matches string) = (says_string alias ≡ true) × (string.now ≡ string_of alias)
IsSaid alias More = (is_of alias ≡ true) × (says_string alias ≡ false)
