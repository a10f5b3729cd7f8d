-- Reading a blob from left to right, as functions on lists.
use Rattle.std.specs.Prelude.{◌≡◌, ◌⊎◌, ℕ, zero, suc, ◌+◌, ◌-◌, ◌*◌, ◌/◌, Bool, true, false, ◌&&◌, ◌==◌, nat_lt, List, [], ◌∷◌, length, take, drop, Option, Some, None, unwrap_or, Result, Ok, Err, if◌then◌else◌, option_and_then, is_none, is_some}
use Rattle.std.specs.Option.{option_map}
use Rattle.byteorder.specs.Endian.{big_number}
use Rattle.dt_tree.specs.NodeData.{NodeData}
use Rattle.dt_tree.specs.TreeData.{TreeData}
use Rattle.dt_blob.specs.declared.error.BlobError.{BlobError}
use Rattle.dt_blob.specs.declared.error.BlobError.TheVariants as errors
use Rattle.dt_blob.specs.declared.read_error.ReadError.{ReadError}
use Rattle.dt_blob.specs.declared.read_header.Header.{Header}
use Rattle.dt_blob.specs.declared.read_token.BlobToken.{BlobToken}
use Rattle.dt_blob.specs.declared.read_token.BlobToken.TheVariants as code
use Rattle.dt_blob.specs.Format.{reservation_size, begin_node_word, end_node_word, property_word, nop_word, end_word}
use Rattle.dt_blob.specs.HeaderWords.{header_of, header_fault, strings_of, structure_of, reserves_of}
use Rattle.dt_blob.specs.Token.{Token, begin_node, end_node, property, nop, end}
use Rattle.dt_blob.specs.Steps.NodeBuilders.{begun, root_from}

-- What a function of the structure block returned, seen by view, is what reading gives, unless memory ran out. The
-- refusals of the header and of the reserves aren't given there.
abbrev pub Refuses : {Y : Type 0} → BlobError → Option Y → Type 0
Refuses errors.NoMemory read = Unit {0}
Refuses errors.Truncated read = ⊥
Refuses errors.BadMagic read = ⊥
Refuses errors.BadVersion read = ⊥
Refuses errors.BadLayout read = ⊥
Refuses errors.BadToken read = read ≡ None
Refuses errors.BadString read = read ≡ None
Refuses errors.PropertyAfterNode read = read ≡ None
Refuses errors.BadTree read = read ≡ None
Refuses errors.TooLarge read = ⊥

abbrev pub Gives : {X Y : Type 0} → (X → Y) → Result X ReadError → Option Y → Type 0
Gives view (Ok x) read = read ≡ Some (view x)
Gives view (Err e) read = Refuses e.kind read

-- the reserves have no end
abbrev pub HasNoEnd : BlobError → Option (List (ℕ × ℕ)) → Type 0
HasNoEnd e reserves = (e ≡ errors.BadLayout) × (reserves ≡ None)

-- ---- tokens

-- the place of the first zero byte
abbrev pub zero_in : List ℕ → Option ℕ
zero_in [] = None
zero_in (b ∷ bs) = if b == 0 then Some 0 else option_map (λ k. k + 1) (zero_in bs)

-- a length with its padding
abbrev pub padded : ℕ → ℕ
padded n = (n + 3) / 4 * 4

abbrev pub named_at : ℕ → List ℕ → Option (Token × List ℕ)
named_at k bytes = if nat_lt (length bytes) (padded (k + 1)) then None else Some (begin_node (take k bytes), drop (padded (k + 1)) bytes)

-- behind a BEGIN_NODE
abbrev pub begin_at : List ℕ → Option (Token × List ℕ)
begin_at bytes = option_and_then (λ k. named_at k bytes) (zero_in bytes)

-- the name at a place of the strings
abbrev pub string_at : List ℕ → ℕ → Option (List ℕ)
string_at strings place = option_map (λ k. take k (drop place strings)) (zero_in (drop place strings))

-- behind a PROP and its two words
abbrev pub value_at : List ℕ → ℕ → ℕ → List ℕ → Option (Token × List ℕ)
value_at strings size place bytes =
    if nat_lt (length bytes) (padded size) then None
    else option_map (λ name. (property name (take size bytes), drop (padded size) bytes)) (string_at strings place)

-- behind a PROP
abbrev pub property_at : List ℕ → List ℕ → Option (Token × List ℕ)
property_at strings bytes =
    if nat_lt (length bytes) 8 then None else value_at strings (big_number 4 bytes) (big_number 4 (drop 4 bytes)) (drop 8 bytes)

abbrev pub token_by : List ℕ → ℕ → List ℕ → Option (Token × List ℕ)
token_by strings n bytes =
    if n == begin_node_word then begin_at bytes
    else (if n == end_node_word then Some (end_node, bytes)
    else (if n == property_word then property_at strings bytes
    else (if n == nop_word then Some (nop, bytes)
    else (if n == end_word then Some (end, bytes) else None))))

-- the token at the front, and what follows it
unfoldable pub token_at : List ℕ → List ℕ → Option (Token × List ℕ)
token_at strings bytes = if nat_lt (length bytes) 4 then None else token_by strings (big_number 4 bytes) (drop 4 bytes)

-- what stands behind the END of a block whose size is told; a NOP stands for whatever is no token
abbrev pub left : Bool → List ℕ → List Token
left false bytes = []
left true [] = []
left true (b ∷ bs) = nop ∷ []

abbrev pub with_token : Bool → Token → List ℕ → List Token → List Token
with_token sized nop rest ts = ts
with_token sized end rest ts = end ∷ left sized rest
with_token sized (begin_node name) rest ts = begin_node name ∷ ts
with_token sized end_node rest ts = end_node ∷ ts
with_token sized (property name value) rest ts = property name value ∷ ts

abbrev pub tokens_by : Bool → Option (Token × List ℕ) → (List ℕ → List Token) → List Token
tokens_by sized None f = nop ∷ []
tokens_by sized (Some x) f = with_token sized (x.0) (x.1) (f (x.1))

-- at most n tokens, without the NOPs between them, up to the END
unfoldable pub tokens_in : Bool → List ℕ → ℕ → List ℕ → List Token
tokens_in sized strings zero bytes = []
tokens_in sized strings (suc n) bytes = tokens_by sized (token_at strings bytes) (tokens_in sized strings n)

unfoldable pub tokens_at : Bool → List ℕ → List ℕ → List Token
tokens_at sized strings bytes = tokens_in sized strings (suc (length bytes)) bytes

-- ---- the structure block

-- how many bytes it has at most: all that the blob has left, where the header tells no size
abbrev pub room_of : Header → ℕ
room_of h = unwrap_or h.structure_size (h.size - h.structure_at)

abbrev pub structure_tokens : List ℕ → List Token
structure_tokens bytes =
    let h = header_of bytes in
    tokens_at (is_some h.structure_size) (strings_of bytes) (structure_of (room_of h) bytes)

-- ---- reserves

abbrev pub with_reserve : ℕ → ℕ → Option (List (ℕ × ℕ)) → Option (List (ℕ × ℕ))
with_reserve a b others = if a == 0 && b == 0 then Some [] else option_map (λ rs. (a, b) ∷ rs) others

-- at most n pairs, up to one of zeros
unfoldable pub reserves_in : ℕ → List ℕ → Option (List (ℕ × ℕ))
reserves_in zero bytes = None
reserves_in (suc n) bytes = if nat_lt (length bytes) reservation_size then None else with_reserve (big_number 8 bytes) (big_number 8 (drop 8 bytes)) (reserves_in n (drop reservation_size bytes))

unfoldable pub reserves_at : List ℕ → Option (List (ℕ × ℕ))
reserves_at bytes = reserves_in (suc (length bytes)) bytes

-- ---- the whole

abbrev pub tree_by : List ℕ → Option (List (ℕ × ℕ)) → Option NodeData → Option TreeData
tree_by bytes rs root = option_and_then (λ r. option_map (λ n. record { reserves = r; boot_cpu = (header_of bytes).boot_cpu; root = n }) root) rs

unfoldable pub tree_in : List ℕ → Option TreeData
tree_in bytes =
    if is_none (header_fault bytes)
    then tree_by bytes (reserves_at (reserves_of bytes)) (root_from begun (structure_tokens bytes))
    else None

-- why there is no tree: the header's first fault, the reserves, or what stands behind them
abbrev pub RefusesAll : BlobError → List ℕ → Type 0
RefusesAll e bytes = (header_fault bytes ≡ Some e) ⊎ ((header_fault bytes ≡ None) × (HasNoEnd e (reserves_at (reserves_of bytes)) ⊎ Refuses e (tree_in bytes)))

-- ---- what the code keeps

-- a token whose texts are lent by the blob
abbrev pub token_of : BlobToken → Token
token_of (code.BeginNode name) = begin_node name.now
token_of code.EndNode = end_node
token_of (code.Property name value) = property name.now value.now
token_of code.Nop = nop
token_of code.End = end
