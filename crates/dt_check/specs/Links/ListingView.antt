-- What the code says of a listing, as `Lists` has it.
use Rattle.dt_check.specs.Links.Lists.{ListingData}
use Rattle.dt_check.specs.declared.links.lists.Listing.{Listing}

abbrev pub listing_data : Listing → ListingData
listing_data l = record { cells = l.cells.now; optional = l.optional }
