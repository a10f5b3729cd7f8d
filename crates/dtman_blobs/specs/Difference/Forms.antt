-- What stands in the values that hold phandles: specifiers by the Devicetree Specification v0.4, section 2.5, interrupts by section 2.4; which
-- properties these are is said by the table of `dt_tree`.
use Rattle.std.specs.Prelude.{ℕ, codes, List, Option, Some, None, option_and_then}
use Rattle.dt_tree.specs.PhandleProperties.Table.{Listing, counted as lists_counted, sparse, bare as lists_bare, single, endpoint, mapped as lists_mapped, controllers, lines, values, row_of}

-- phandles, each with as many cells behind it as the property of this name of its node says; phandles alone; or entries of four cells, the
-- second of which is a phandle
pub data Form : Type 0 where
  counted : List ℕ → Form
  bare : Form
  mapped : Form

-- what a listing holds
abbrev pub form_in : Listing → Option Form
form_in (lists_counted cells) = Some (counted cells)
form_in (sparse cells) = Some (counted cells)
form_in controllers = Some (counted (codes "#interrupt-cells"))
form_in lists_bare = Some bare
form_in single = Some bare
form_in endpoint = Some bare
form_in lists_mapped = Some mapped
form_in lines = None

-- what the property of this name holds
abbrev pub reference_form : List ℕ → Option Form
reference_form name = option_and_then (λ r. form_in r.listing) (row_of values name)

-- how many cells stand before the first phandle
abbrev pub cells_before : Form → ℕ
cells_before (counted name) = 0
cells_before bare = 0
cells_before mapped = 1
