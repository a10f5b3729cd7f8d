-- The numbers of the flattened format: Devicetree Specification v0.4, chapter 5.
use Rattle.std.specs.Prelude.{ℕ}

-- the word that begins a blob (section 5.2)
abbrev pub magic_number : ℕ
magic_number = 0xd00dfeed

-- the bytes of the header's ten words (section 5.2)
abbrev pub header_size : ℕ
header_size = 40

-- the version of the format, and the lowest one that it is compatible with (section 5.1)
abbrev pub format_version : ℕ
format_version = 17

abbrev pub compatible_version : ℕ
compatible_version = 16

-- the lowest version that is read
abbrev pub oldest_version : ℕ
oldest_version = 16

-- the bytes of an address and a size of reserved memory (section 5.3.2)
abbrev pub reservation_size : ℕ
reservation_size = 16

-- the words that begin the tokens of the structure block (section 5.4.1)
abbrev pub begin_node_word : ℕ
begin_node_word = 1

abbrev pub end_node_word : ℕ
end_node_word = 2

abbrev pub property_word : ℕ
property_word = 3

abbrev pub nop_word : ℕ
nop_word = 4

abbrev pub end_word : ℕ
end_word = 9
