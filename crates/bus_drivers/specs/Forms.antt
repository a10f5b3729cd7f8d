-- What stands in the properties that name a device's suppliers: interrupts by the Devicetree Specification v0.4, section 2.4.1, specifiers of
-- `#..-cells` by section 2.5; which properties these are is said by the table of those that hold phandles (`dt_tree`).
use Rattle.std.specs.Prelude.{ℕ, codes, List, Option, Some, None, option_and_then}
use Rattle.dt_tree.specs.PhandleProperties.Table.{Listing, counted as lists_counted, sparse, bare as lists_bare, single as lists_single, endpoint, mapped, controllers, lines, plan, row_of}

-- what a value holds: phandles, each with as many cells behind it as the property of this name of its node says; phandles
-- without cells; or one phandle
pub data Form : Type 0 where
  counted : List ℕ → Form
  bare : Form
  single : Form

-- what a plan follows of what a property lists
abbrev pub form_in : Listing → Option Form
form_in (lists_counted cells) = Some (counted cells)
form_in (sparse cells) = Some (counted cells)
form_in lists_bare = Some bare
form_in lists_single = Some single
form_in controllers = Some (counted (codes "#interrupt-cells"))
form_in endpoint = None
form_in mapped = None
form_in lines = None

-- what the property of this name holds
abbrev pub form_of : List ℕ → Option Form
form_of name = option_and_then (λ r. form_in r.listing) (row_of plan name)
