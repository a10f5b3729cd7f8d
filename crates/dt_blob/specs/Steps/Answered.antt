-- What the steps of writing and of reading a blob answer.
use Rattle.std.specs.Prelude.{◌≡◌, ◌⊎◌, ℕ, ◌+◌, ◌*◌, ◌<◌, ◌≤◌, List, [], Option, length, map, reverse, take, Some, None, Result, MatchResult}
use Rattle.dt_tree.specs.NodeData.{NodeData}
use Rattle.dt_tree.specs.TreeData.{TreeData}
use Rattle.dt_blob.specs.declared.error.BlobError.{BlobError}
use Rattle.dt_blob.specs.declared.error.BlobError.TheVariants.{NoMemory, TooLarge}
use Rattle.dt_blob.specs.declared.read_error.ReadError.{ReadError}
use Rattle.dt_blob.specs.declared.read_header.Header.{Header}
use Rattle.dt_blob.specs.declared.read_nodes.NodeBuilder.{NodeBuilder}
use Rattle.dt_blob.specs.Blob.{limit, names_in}
use Rattle.dt_blob.specs.Format.{header_size, reservation_size}
use Rattle.dt_blob.specs.HeaderWords.{fault_at_in, fault_in}
use Rattle.dt_blob.specs.Steps.NodeBuilders.{State, inside, so_far_of}
use Rattle.dt_blob.specs.Steps.Reading.{HasNoEnd, reserves_at}
use Rattle.dt_blob.specs.Steps.Table.{IsPlacedBehind, with_sights}
use Rattle.dt_blob.specs.Steps.Written.{tokens_size}
use Rattle.dt_blob.specs.Strings.{with_names}
use Rattle.dt_blob.specs.Token.{tokens_of, tree_tokens}

-- ---- sizes
-- it is this size, which isn't over the limit, or that is refused
abbrev pub IsSize : ℕ → Result ℕ BlobError → Type 0
IsSize wanted result = MatchResult result (λ size. (size ≡ wanted) × (size ≤ limit)) (λ e. (e ≡ TooLarge) × (limit < wanted))

-- so many bytes aren't over the limit, or that is refused
abbrev pub IsWithin : {A : Type 0} → ℕ → Result A BlobError → Type 0
IsWithin size result = MatchResult result (λ _. size ≤ limit) (λ e. (e ≡ TooLarge) × (limit < size))

-- how many bytes reserved memory has with its end
abbrev pub reserves_size : List (ℕ × ℕ) → ℕ
reserves_size reserves = reservation_size * length reserves + reservation_size

-- where the structure block and the strings block of a tree begin
abbrev pub AreBlockPlaces : TreeData → ℕ × ℕ → Type 0
AreBlockPlaces tree places =
    (places.0 ≡ header_size + reserves_size tree.reserves)
    × ((places.1 ≡ places.0 + tokens_size (tree_tokens tree.root)) × (places.1 ≤ limit))

-- ---- strings
-- the block has a table, unless it is over the limit
abbrev pub IsTableOf : List (List ℕ) → List (Option ℕ) → List ℕ → Result ℕ BlobError → Type 0
IsTableOf names places block result =
    MatchResult result (λ size. IsPlacedBehind names places block size) (λ e. (e ≡ TooLarge) × (limit < length block))

-- the names of a node and all below it, in order of first sight
abbrev pub names_of : NodeData → List (List ℕ)
names_of node = with_sights [] (names_in (tokens_of node))

-- the block of the first names
abbrev pub block_before : ℕ → List (List ℕ) → List ℕ
block_before at names = with_names [] (take at names)

-- ---- reading
abbrev pub ReadsHeader : Header → ℕ → Result Header ReadError → Type 0
ReadsHeader header len result =
    MatchResult result (λ h. (h ≡ header) × (fault_in header len ≡ None))
    (λ e. (fault_in header len ≡ Some e.kind) × (e.at ≡ fault_at_in header len))

abbrev pub ReadsReserves : {A : Type 0} → (A → List (ℕ × ℕ)) → List ℕ → Result A ReadError → Type 0
ReadsReserves pairs_of bytes result =
    MatchResult result (λ read. reserves_at bytes ≡ Some (pairs_of read))
    (λ e. (e.kind ≡ NoMemory) ⊎ HasNoEnd e.kind (reserves_at bytes))

-- a node that is open, and those round it, the outermost first
abbrev pub in_node : NodeBuilder → List NodeBuilder → State
in_node top outer = inside (so_far_of top) (reverse (map so_far_of outer))
