-- What the code says of a property, as a row of the table (`Table`).
use Rattle.dt_tree.specs.PhandleProperties.Table.{Pattern as P, named, ending, ending_but, Listing as L, counted, sparse, bare, single, endpoint, mapped, controllers, lines, Link as K, unlinked, needed, optional, Readers as R, plans_too, values_alone, nobody, Asker as A, plan, values, links, Row as Said}
use Rattle.dt_tree.specs.declared.phandle_properties.Asker.{Asker}
use Rattle.dt_tree.specs.declared.phandle_properties.Asker.TheVariants.{Plan, Values, Links}
use Rattle.dt_tree.specs.declared.phandle_properties.Link.{Link}
use Rattle.dt_tree.specs.declared.phandle_properties.Link.TheVariants.{Unlinked, Needed, Optional}
use Rattle.dt_tree.specs.declared.phandle_properties.Listing.{Listing}
use Rattle.dt_tree.specs.declared.phandle_properties.Listing.TheVariants.{Counted, Sparse, Bare, Single, Endpoint, Mapped, Controllers, Lines}
use Rattle.dt_tree.specs.declared.phandle_properties.Pattern.{Pattern}
use Rattle.dt_tree.specs.declared.phandle_properties.Pattern.TheVariants.{Exactly, Ending, EndingBut}
use Rattle.dt_tree.specs.declared.phandle_properties.Readers.{Readers}
use Rattle.dt_tree.specs.declared.phandle_properties.Readers.TheVariants.{PlansToo, ValuesAlone, Nobody}
use Rattle.dt_tree.specs.declared.phandle_properties.Row.{Row}

abbrev pub pattern_data : Pattern → P
pattern_data (Exactly n) = named n.now
pattern_data (Ending e) = ending e.now
pattern_data (EndingBut e o) = ending_but e.now o.now

abbrev pub listing_data : Listing → L
listing_data (Counted c) = counted c.now
listing_data (Sparse c) = sparse c.now
listing_data Bare = bare
listing_data Single = single
listing_data Endpoint = endpoint
listing_data Mapped = mapped
listing_data Controllers = controllers
listing_data Lines = lines

abbrev pub link_data : Link → K
link_data Unlinked = unlinked
link_data Needed = needed
link_data Optional = optional

abbrev pub readers_data : Readers → R
readers_data PlansToo = plans_too
readers_data ValuesAlone = values_alone
readers_data Nobody = nobody

abbrev pub asker_data : Asker → A
asker_data Plan = plan
asker_data Values = values
asker_data Links = links

abbrev pub row_data : Row → Said
row_data r = record { pattern = pattern_data r.pattern; listing = listing_data r.listing; readers = readers_data r.readers; link = link_data r.link }
