-- What the code says of a binding, by `Bindings`.
use Rattle.std.specs.Prelude.{Bool, true, false}
use Rattle.bus_links.specs.Bindings.Bindings.{Listing as L, counted, sparse, bare, mapped, controllers, lines, Binding as B}
use Rattle.bus_links.specs.declared.bindings.binding.Binding.{Binding}
use Rattle.bus_links.specs.declared.bindings.binding.Listing.{Listing}
use Rattle.bus_links.specs.declared.bindings.binding.Listing.TheVariants.{Counted, Sparse, Bare, Mapped, Controllers, Lines}
use Rattle.bus_links.specs.declared.bindings.binding.Strictness.{Strictness}
use Rattle.bus_links.specs.declared.bindings.binding.Strictness.TheVariants.{Usual, Strict}

abbrev pub is_strict : Strictness → Bool
is_strict Usual = false
is_strict Strict = true

abbrev pub listing_data : Listing → L
listing_data (Counted c) = counted c.now
listing_data (Sparse c) = sparse c.now
listing_data Bare = bare
listing_data Mapped = mapped
listing_data Controllers = controllers
listing_data Lines = lines

abbrev pub binding_data : Binding → B
binding_data b = record { listing = listing_data b.listing; optional = b.optional }
