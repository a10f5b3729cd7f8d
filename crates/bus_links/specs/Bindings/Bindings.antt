-- What stands in the properties by which a device names what it waits for, as Linux 6.1 follows them (drivers/of/property.c). Specifiers are
-- those of the Devicetree Specification v0.4, section 2.5, interrupts those of section 2.4; which properties these are is said by the table of
-- those that hold phandles (`dt_tree`).
use Rattle.std.specs.Prelude.{ℕ, Bool, true, false, List, Option}
use Rattle.std.specs.Option.{option_map}
use Rattle.dt_tree.specs.PhandleProperties.Table.{Row, Listing as Listed, counted as lists_counted, sparse as lists_sparse, bare as lists_bare, single, endpoint as lists_endpoint, mapped as lists_mapped, controllers as lists_controllers, lines as lists_lines, Link, unlinked, needed, optional, links, row_of}

-- what a value lists: phandles, each with as many cells as its node's property of this name says; the same, with entries that may be
-- left empty (`assigned-clock-parents`); phandles alone; entries of four cells, the second of which is a phandle (`iommu-map`);
-- interrupts that name their controllers, or that don't
pub data Listing : Type 0 where
  counted : List ℕ → Listing
  sparse : List ℕ → Listing
  bare : Listing
  mapped : Listing
  controllers : Listing
  lines : Listing

-- an optional binding counts where links are strict
pub record Binding : Type 0 where
  pub listing : Listing
  pub optional : Bool

-- where one phandle is wanted, Linux takes as many as there are
abbrev pub listing_in : Listed → Listing
listing_in (lists_counted cells) = counted cells
listing_in (lists_sparse cells) = sparse cells
listing_in lists_bare = bare
listing_in single = bare
listing_in lists_endpoint = bare
listing_in lists_mapped = mapped
listing_in lists_controllers = controllers
listing_in lists_lines = lines

abbrev pub is_optional : Link → Bool
is_optional unlinked = false
is_optional needed = false
is_optional optional = true

abbrev pub binding_in : Row → Binding
binding_in r = record { listing = listing_in r.listing; optional = is_optional r.link }

-- the binding of the property of this name
abbrev pub binding_of : List ℕ → Option Binding
binding_of name = option_map binding_in (row_of links name)
