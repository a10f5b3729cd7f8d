-- What crosses to a caller in C: how a call ended, and what it found.
use Rattle.std.specs.Prelude.{◌≡◌, ℕ, Option, Some, None, Result, Ok, Err}
use Rattle.dt_blob.specs.BlobError.{number_of}
use Rattle.dt_blob.specs.declared.error.BlobError.{BlobError}
use Rattle.dt_patch.specs.declared.error.PatchError.{PatchError}
use Rattle.dt_patch.specs.declared.error.PatchError.TheVariants.{BadName, Blob, EndPair, Exists, NoNode, NoProperty, NoReservation, OtherLength, Root, Short, TooDeep, Unordered}
use Rattle.dt_patch.specs.declared.error.PatchError.TheVariants as patch
use Rattle.dt_patch.specs.declared.view.error.ViewError.{ViewError}
use Rattle.dt_patch.specs.declared.view.error.ViewError.TheVariants.{BadOffset, BadPath}
use Rattle.dt_patch.specs.declared.view.nodes.NodeOffset.{NodeOffset}
use Rattle.dt_patch.specs.declared.view.properties.PropertyOffset.{PropertyOffset}
use Rattle.dtman_view_c.specs.declared.told.ViewTold.{ViewTold}

abbrev pub done : ℕ → ViewTold
done at = record { status = 0; number = 0; at = at }

-- there is none of what is asked for
abbrev pub nothing : ViewTold
nothing = record { status = 4; number = 0; at = 0 }

abbrev pub refused : BlobError → ViewTold
refused error = record { status = 2; number = number_of error; at = 0 }

abbrev pub by_fault : Option BlobError → ViewTold
by_fault None = done 0
by_fault (Some error) = refused error

-- the walk leaves the node that is round it, up to the offset
abbrev pub out : ℕ → ViewTold
out at = record { status = 18; number = 0; at = at }

-- no node, or no property, begins at the offset
abbrev pub bad_offset : ViewTold
bad_offset = record { status = 8; number = 0; at = 0 }

-- the bytes are no path
abbrev pub bad_path : ViewTold
bad_path = record { status = 9; number = 0; at = 0 }

abbrev pub failed : ViewError → ViewTold
failed BadOffset = bad_offset
failed BadPath = bad_path

-- the value that is to be set has another length
abbrev pub other_length : ViewTold
other_length = record { status = 10; number = 0; at = 0 }

-- the blob's blocks stand in another order
abbrev pub unordered : ViewTold
unordered = record { status = 11; number = 0; at = 0 }

-- the buffer is to have so many bytes
abbrev pub short : ℕ → ViewTold
short wanted = record { status = 12; number = 0; at = wanted }

-- what is added has no lawful name
abbrev pub bad_name : ViewTold
bad_name = record { status = 13; number = 0; at = 0 }

-- the root isn't deleted
abbrev pub is_root : ViewTold
is_root = record { status = 14; number = 0; at = 0 }

-- the node has a child of the name
abbrev pub exists : ViewTold
exists = record { status = 15; number = 0; at = 0 }

-- the node stands at the greatest depth that a node can have
abbrev pub too_deep : ViewTold
too_deep = record { status = 16; number = 0; at = 0 }

-- the address and the size would end the list
abbrev pub end_pair : ViewTold
end_pair = record { status = 17; number = 0; at = 0 }

-- why a blob wasn't changed
abbrev pub unchanged : PatchError → ViewTold
unchanged (Blob error) = refused error
unchanged patch.BadPath = bad_path
unchanged NoNode = nothing
unchanged NoProperty = nothing
unchanged OtherLength = other_length
unchanged Unordered = unordered
unchanged BadName = bad_name
unchanged (Short wanted) = short wanted
unchanged Root = is_root
unchanged Exists = exists
unchanged TooDeep = too_deep
unchanged EndPair = end_pair
unchanged NoReservation = nothing
unchanged patch.BadOffset = bad_offset

abbrev pub edited : Option PatchError → ViewTold
edited None = done 0
edited (Some error) = unchanged error

-- a node's place, as it is told
abbrev pub node_told : Result (Option NodeOffset) ViewError → ViewTold
node_told (Ok (Some node)) = done node.at
node_told (Ok None) = nothing
node_told (Err error) = failed error

abbrev pub property_told : Result (Option PropertyOffset) ViewError → ViewTold
property_told (Ok (Some property)) = done property.at
property_told (Ok None) = nothing
property_told (Err error) = failed error

-- what is told is an answer that may be given
abbrev pub TellsNode : (Result (Option NodeOffset) ViewError → Type 0) → ViewTold → Type 0
TellsNode MayBe told = (answer : Result (Option NodeOffset) ViewError) × MayBe answer × (told ≡ node_told answer)

abbrev pub TellsProperty : (Result (Option PropertyOffset) ViewError → Type 0) → ViewTold → Type 0
TellsProperty MayBe told = (answer : Result (Option PropertyOffset) ViewError) × MayBe answer × (told ≡ property_told answer)

-- what is told is a refusal that has its reason
abbrev pub IsRefusedSo : (PatchError → Type 0) → ViewTold → Type 0
IsRefusedSo MayBe told = (error : PatchError) × MayBe error × (told ≡ unchanged error)
