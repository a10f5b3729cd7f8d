-- The blob of a tree (Devicetree Specification v0.4, chapter 5, version 17).
use Rattle.std.specs.Prelude.{◌≡◌, ◌⊎◌, ℕ, ◌+◌, ◌-◌, ◌%◌, ◌<◌, List, [], ◌∷◌, ◌++◌, length, take}
use Rattle.dt_tree.specs.TreeData.{TreeData}
use Rattle.dt_blob.specs.declared.error.BlobError.{BlobError}
use Rattle.dt_blob.specs.declared.error.BlobError.TheVariants.{NoMemory, TooLarge}
use Rattle.dt_blob.specs.BigEndian.{word, double_word}
use Rattle.dt_blob.specs.Format.{magic_number, header_size, format_version, compatible_version, begin_node_word, end_node_word, property_word, nop_word, end_word}
use Rattle.dt_blob.specs.Strings.{offset_in, with_name, with_names}
use Rattle.dt_blob.specs.Token.{Token, begin_node, end_node, property, nop, end, tree_tokens}

-- the most bytes of a blob or of a text, 2 ^ 28: this project's number
abbrev pub limit : ℕ
limit = 268435456

-- want of memory, or a size over the limit
abbrev pub Refuses : ℕ → BlobError → Type 0
Refuses size e = (e ≡ NoMemory) ⊎ ((e ≡ TooLarge) × (limit < size))

-- zero bytes that lead from n bytes to a multiple of 4
abbrev pub padding : ℕ → List ℕ
padding n = take ((4 - n % 4) % 4) (0 ∷ 0 ∷ 0 ∷ [])

-- a token as bytes, a property's name as its offset in the strings so far (section 5.4.1)
abbrev pub token_bytes : List ℕ → Token → List ℕ
token_bytes strings (begin_node name) = word begin_node_word ++ (name ++ 0 ∷ padding (length name + 1))
token_bytes strings end_node = word end_node_word
token_bytes strings (property name value) = word property_word ++ (word (length value) ++ (word (offset_in strings name) ++ (value ++ padding (length value))))
token_bytes strings nop = word nop_word
token_bytes strings end = word end_word

-- the strings once a token is written
abbrev pub strings_after : List ℕ → Token → List ℕ
strings_after strings (begin_node name) = strings
strings_after strings end_node = strings
strings_after strings (property name value) = with_name strings name
strings_after strings nop = strings
strings_after strings end = strings

-- the structure block, from the strings so far
abbrev pub structure_from : List ℕ → List Token → List ℕ
structure_from strings [] = []
structure_from strings (token ∷ tokens) = token_bytes strings token ++ structure_from (strings_after strings token) tokens

-- the properties' names, in order
abbrev pub names_in : List Token → List (List ℕ)
names_in [] = []
names_in (begin_node name ∷ tokens) = names_in tokens
names_in (end_node ∷ tokens) = names_in tokens
names_in (property name value ∷ tokens) = name ∷ names_in tokens
names_in (nop ∷ tokens) = names_in tokens
names_in (end ∷ tokens) = names_in tokens

-- the reserved memory, with its end (section 5.3)
abbrev pub reservations : List (ℕ × ℕ) → List ℕ
reservations [] = double_word 0 ++ double_word 0
reservations (r ∷ rs) = double_word r.0 ++ (double_word r.1 ++ reservations rs)

-- the header, from the processor that boots and the sizes of the three blocks behind it (section 5.2)
abbrev pub header : ℕ → ℕ → ℕ → ℕ → List ℕ
header boot_cpu reserved structure strings =
    word magic_number ++ (word (header_size + reserved + structure + strings) ++ (word (header_size + reserved) ++ (word (header_size + reserved + structure) ++ (word header_size
    ++ (word format_version ++ (word compatible_version ++ (word boot_cpu ++ (word strings ++ word structure))))))))

-- the blocks in order, without gaps
abbrev pub blob_made : ℕ → List ℕ → List ℕ → List ℕ → List ℕ
blob_made boot_cpu reserved structure strings =
    header boot_cpu (length reserved) (length structure) (length strings) ++ (reserved ++ (structure ++ strings))

abbrev pub blob_of : TreeData → List ℕ
blob_of tree =
    let tokens = tree_tokens tree.root in
    blob_made tree.boot_cpu (reservations tree.reserves) (structure_from [] tokens) (with_names [] (names_in tokens))
