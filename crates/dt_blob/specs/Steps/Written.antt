-- What a writer makes of tokens, once each name's offset is known.
use Rattle.std.specs.Prelude.{ℕ, ◌+◌, ◌-◌, ◌%◌, List, [], ◌∷◌, ◌++◌, length}
use Rattle.dt_blob.specs.BigEndian.{word}
use Rattle.dt_blob.specs.Format.{begin_node_word, end_node_word, property_word, nop_word, end_word}
use Rattle.dt_blob.specs.Token.{Token, begin_node, end_node, property, nop, end}
use Rattle.dt_blob.specs.Blob.{padding}

abbrev pub bytes_by : (List ℕ → ℕ) → Token → List ℕ
bytes_by offset (begin_node name) = word begin_node_word ++ (name ++ 0 ∷ padding (length name + 1))
bytes_by offset end_node = word end_node_word
bytes_by offset (property name value) = word property_word ++ (word (length value) ++ (word (offset name) ++ (value ++ padding (length value))))
bytes_by offset nop = word nop_word
bytes_by offset end = word end_word

abbrev pub all_bytes : (List ℕ → ℕ) → List Token → List ℕ
all_bytes offset [] = []
all_bytes offset (token ∷ tokens) = bytes_by offset token ++ all_bytes offset tokens

-- how many bytes tokens have
abbrev pub token_size : Token → ℕ
token_size (begin_node name) = 5 + (4 - (length name + 1) % 4) % 4 + length name
token_size end_node = 4
token_size (property name value) = 12 + (4 - length value % 4) % 4 + length value
token_size nop = 4
token_size end = 4

abbrev pub tokens_size : List Token → ℕ
tokens_size [] = 0
tokens_size (token ∷ tokens) = token_size token + tokens_size tokens
